-- What a Remove knows between its two phases: the Queue that is read gives it, and each answered call keeps it.
use Rattle.std.proofs.Common.{◌≡◌, ℕ, ◌<◌, ◌≤◌, Bool, true, false, nat_lt, Option, Some, None, inl, inr, refl, sym, ap, ◌∙◌, subst, arith}
use Rattle.std.specs.Prelude.{◌==◌, ◌≢◌, slice_get, slice_set}
use Rattle.xsi_control.specs.RemoveWords.{find, remove, find-Some, found_id, Answer, Id, Sent, Received, Info, Done, Refused, Call, Get, Send, Receive, Stat, Set, Remove, Caller, Queue, has_id, outcome, with_message, with_settings, without_message, State, QueueEntry, queue_of, IsEntryOf, IsKeyed, IsFiled}
use Rattle.std.proofs.lemmas.Bool.{eqb-true}
use Rattle.std.proofs.lemmas.Bool.Decides.{nat_tests}
use Rattle.std.proofs.lemmas.List.Folds.{find_at}
use Rattle.std.proofs.lemmas.Option.{slice_get-get_or}
use Rattle.queue_model.proofs.EffectLemmas.{Changes, Effect, Effect-outcome, Stands}
use Rattle.xsi_inquiry.proofs.of_type_chains.Elements.{image_has}
use Rattle.xsi_inquiry.proofs.of_type_chains.OneQueueChanged.{found_new}
use Rattle.xsi_inquiry.proofs.OthersLemmas.{agrees_by_others}
use Rattle.xsi_control.proofs.RemovingLemmas.{gone}

-- the queue found has the key that its Queue tells
pub keyed_by : (id : ℕ) (s : State) (e : QueueEntry) → IsFiled s → IsEntryOf id e s → IsKeyed id e.key s
keyed_by id s e filed is =
    let stands = (find-Some (has_id id) s.queues is.queue is.found).1 in
    let known = image_has (λ (q : Queue). q.id) (λ (id : ℕ). (1 ≤ id) × (id < s.next_id)) s.queues is.queue
    filed.lawful.ids_given stands in
    record {
      given = subst (λ (n : ℕ). n < s.next_id) is.its_id known.1;
      keeps = λ q found.
          let both : ◌≡◌ {A = Option Queue} (Some q) (Some is.queue) = sym found ∙ is.found in
          let one : q ≡ is.queue = cc in
          ap (λ (x : Queue). x.key) one ∙ sym (ap (λ (x : QueueEntry). x.key) is.entry);
    }

module _ (id : ℕ) (key : Option ℕ) (s t : State) (filed : IsFiled s) (keyed : IsKeyed id key s) where
  left : t ≡ s → IsKeyed id key t
  left same = subst (IsKeyed id key) (sym same) keyed

  found_at : (place : ℕ) (q : Queue) → Stands id s place q → find (has_id id) s.queues ≡ Some q
  found_at place q stands =
      find_at (has_id id) s.queues ∙ ap (slice_get s.queues) stands.place_of.first
      ∙ slice_get-get_or s.queues place q stands.place_of.within ∙ ap Some (stands.is_it q)

  changed : (place : ℕ) (q new : Queue) → Changes id s place q new t → new.id ≡ q.id → new.key ≡ q.key →
      IsKeyed id key t
  changed place q new did same_id same_key =
      let found = found_at place q did.stands in
      let now = ap (λ (x : State). find (has_id id) x.queues) did.after
      ∙ ap (λ (i : ℕ). find (has_id id) (slice_set s.queues i new)) (sym did.stands.place_of.first)
      ∙ found_new id s q new found same_id same_key in
      let ids = ap (λ (x : State). x.next_id) did.after in
      let below = keyed.given in
      record {
        given = omega (arith, ids, below);
        keeps = λ p its.
            let both : ◌≡◌ {A = Option Queue} (Some p) (Some new) = sym its ∙ now in
            let one : p ≡ new = cc in
            ap (λ (x : Queue). x.key) one ∙ same_key ∙ keyed.keeps q found;
      }

  removed : (place : ℕ) (q : Queue) → Stands id s place q → t ≡ record s { queues = remove s.queues place } →
      IsKeyed id key t
  removed place q stands after =
      let found = found_at place q stands in
      let now = ap (λ (x : State). find (has_id id) x.queues) after
      ∙ ap (λ (i : ℕ). find (has_id id) (remove s.queues i)) (sym stands.place_of.first)
      ∙ gone id s q filed found (found_id s id q found) in
      let ids = ap (λ (x : State). x.next_id) after in
      let below = keyed.given in
      record {
        given = omega (arith, ids, below);
        keeps = λ p its.
            let clash : ◌≡◌ {A = Option Queue} None (Some p) = sym now ∙ its in
            absurd cc;
      }

-- a call on the queue itself
on_it : (key : Option ℕ) (c : Caller) (call : Call) (a : Answer) (s t : State) → IsFiled s →
    IsKeyed (queue_of call s) key s → Effect c call a s t → IsKeyed (queue_of call s) key t
on_it key c (Get x) a s t filed keyed did = let below = keyed.given in absurd (omega (arith, below))
on_it key c (Send x) (Sent serial) s t filed keyed did =
    changed x.id key s t filed keyed did.place did.q (with_message c.pid x did.q) did.changes refl refl
on_it key c (Send x) (Id n) s t filed keyed did = left x.id key s t filed keyed did
on_it key c (Send x) (Received m) s t filed keyed did = left x.id key s t filed keyed did
on_it key c (Send x) (Info i) s t filed keyed did = left x.id key s t filed keyed did
on_it key c (Send x) Done s t filed keyed did = left x.id key s t filed keyed did
on_it key c (Send x) (Refused e) s t filed keyed did = left x.id key s t filed keyed did
on_it key c (Receive x) (Received m) s t filed keyed did =
    changed x.id key s t filed keyed did.place did.q (without_message c.pid x did.q) did.changes refl refl
on_it key c (Receive x) (Id n) s t filed keyed did = left x.id key s t filed keyed did
on_it key c (Receive x) (Sent n) s t filed keyed did = left x.id key s t filed keyed did
on_it key c (Receive x) (Info i) s t filed keyed did = left x.id key s t filed keyed did
on_it key c (Receive x) Done s t filed keyed did = left x.id key s t filed keyed did
on_it key c (Receive x) (Refused e) s t filed keyed did = left x.id key s t filed keyed did
on_it key c (Stat i) a s t filed keyed did = left i key s t filed keyed did
on_it key c (Set x) a s t filed keyed (inl same) = left x.id key s t filed keyed same
on_it key c (Set x) a s t filed keyed (inr did) =
    changed x.id key s t filed keyed did.place did.q (with_settings x did.q) did.changes refl refl
on_it key c (Remove i) Done s t filed keyed did = removed i key s t filed keyed did.place did.q did.stands did.after
on_it key c (Remove i) (Id n) s t filed keyed did = left i key s t filed keyed did
on_it key c (Remove i) (Sent n) s t filed keyed did = left i key s t filed keyed did
on_it key c (Remove i) (Received m) s t filed keyed did = left i key s t filed keyed did
on_it key c (Remove i) (Info x) s t filed keyed did = left i key s t filed keyed did
on_it key c (Remove i) (Refused e) s t filed keyed did = left i key s t filed keyed did

-- so each answered call keeps it
pub keeps_keyed : (id : ℕ) (key : Option ℕ) (c : Caller) (call : Call) (a : Answer) (s t : State) → IsFiled s →
    outcome c call s ≡ Some (a, t) → IsKeyed id key s → IsKeyed id key t
keeps_keyed id key c call a s t filed answered keyed = by (id == queue_of call s) refl
  where
    by : (b : Bool) → (id == queue_of call s) ≡ b → IsKeyed id key t
    by true e =
        let same : id ≡ queue_of call s = eqb-true id (queue_of call s) e in
        subst (λ (n : ℕ). IsKeyed n key t) (sym same)
        (on_it key c call a s t filed (subst (λ (n : ℕ). IsKeyed n key s) same keyed)
        (Effect-outcome c call a s t answered))
    by false e =
        let apart : id ≢ queue_of call s = λ same. grind (arith, nat_tests, e, same) in
        let agrees = agrees_by_others id c call a s t apart answered in
        let below = keyed.given in
        let first : nat_lt id s.next_id ≡ true = grind (arith, below) in
        let second : nat_lt id t.next_id ≡ true = sym agrees.given ∙ first in
        record {
          given = grind (arith, second);
          keeps = λ q found. keyed.keeps q (agrees.queue ∙ found);
        }
