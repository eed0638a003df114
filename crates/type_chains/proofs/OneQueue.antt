-- A call that is answered leaves all queues but the one that it names.
use Rattle.std.proofs.Common.{◌≡◌, ℕ, zero, suc, ◌<◌, Bool, false, cond, List, [], ◌∷◌, ◌++◌, length, Some, inl, inr, refl, sym, ap, ◌∙◌, arith}
use Rattle.std.specs.Prelude.{◌==◌, not, slice_set, slice_index_or}
use Rattle.std.specs.List.{filter, remove}
use Rattle.std.proofs.lemmas.Bool.Decides.{nat_tests}
use Rattle.std.proofs.lemmas.List.{append-nil}
use Rattle.std.proofs.lemmas.List.Elements.{filter-append}
use Rattle.queue_model.specs.declared.answer.Answer.{Answer}
use Rattle.queue_model.specs.declared.answer.Answer.TheVariants.{Id, Sent, Received, Info, Done, Refused}
use Rattle.queue_model.specs.declared.call.Call.{Call}
use Rattle.queue_model.specs.declared.call.Call.TheVariants.{Get, Send, Receive, Stat, Set, Remove}
use Rattle.queue_model.specs.declared.caller.Caller.{Caller}
use Rattle.queue_model.specs.declared.queue.Queue.{Queue}
use Rattle.queue_model.specs.Rules.{outcome, new_queue, with_message, without_message, with_settings}
use Rattle.queue_model.specs.State.{State}
use Rattle.queue_model.proofs.EffectLemmas.{Effect, Effect-outcome, Changes}
use Rattle.type_chains.specs.Others.{others, queue_of}

-- ---- what is left out may become another that is left out, or go

filter_set : {X : Type 0} (keep : X → Bool) (xs : List X) (i : ℕ) (y : X) → i < length xs →
    keep (slice_index_or xs i y) ≡ false → keep y ≡ false → filter keep (slice_set xs i y) ≡ filter keep xs
filter_set keep [] i y within old new = absurd (omega (arith, within))
filter_set keep (x ∷ xs) zero y within old new = rw (old, new) refl
filter_set {X} keep (x ∷ xs) (suc i) y within old new =
    ap (λ (rest : List X). cond (keep x) (x ∷ rest) rest) (filter_set keep xs i y (omega (arith, within)) old new)

filter_remove : {X : Type 0} (keep : X → Bool) (xs : List X) (i : ℕ) (d : X) → i < length xs →
    keep (slice_index_or xs i d) ≡ false → filter keep (remove xs i) ≡ filter keep xs
filter_remove keep [] i d within old = absurd (omega (arith, within))
filter_remove keep (x ∷ xs) zero d within old = rw old refl
filter_remove {X} keep (x ∷ xs) (suc i) d within old =
    ap (λ (rest : List X). cond (keep x) (x ∷ rest) rest) (filter_remove keep xs i d (omega (arith, within)) old)

filter_push : {X : Type 0} (keep : X → Bool) (xs : List X) (y : X) → keep y ≡ false →
    filter keep (xs ++ y ∷ []) ≡ filter keep xs
filter_push {X} keep xs y new =
    let none : filter keep (y ∷ []) ≡ [] = rw new refl in
    filter-append keep xs (y ∷ []) ∙ ap (λ (rest : List X). filter keep xs ++ rest) none ∙ append-nil (filter keep xs)

-- ---- queues

left_out : (n id : ℕ) → n ≡ id → not (n == id) ≡ false
left_out n id same = grind (arith, nat_tests)

abbrev keeps : ℕ → Queue → Bool
keeps id q = not (q.id == id)

changed : (id : ℕ) (s : State) (place : ℕ) (q new : Queue) (t : State) → Changes id s place q new t → new.id ≡ q.id →
    others id s ≡ others id t
changed id s place q new t did same =
    let within = did.stands.place_of.within in
    let there = did.stands.place_of.is_its new in
    let its : q.id ≡ id = ap (λ (q : Queue). q.id) (sym (did.stands.is_it new)) ∙ there in
    rw did.after (sym (filter_set (keeps id) s.queues place new within (left_out _ id there)
    (left_out new.id id (same ∙ its))))

left : (id : ℕ) (s t : State) → t ≡ s → others id s ≡ others id t
left id s t same = ap (others id) (sym same)

of_effect : (c : Caller) (call : Call) (a : Answer) (s t : State) → Effect c call a s t →
    others (queue_of call s) s ≡ others (queue_of call s) t
of_effect c (Get x) a s t (inl same) = left s.next_id s t same
of_effect c (Get x) a s t (inr made) = rw made.after (sym (filter_push (keeps s.next_id) s.queues
    (new_queue s.next_id c x) (left_out s.next_id s.next_id refl)))
of_effect c (Send x) (Sent serial) s t did =
    changed x.id s did.place did.q (with_message c.pid x did.q) t did.changes refl
of_effect c (Send x) (Id n) s t did = left x.id s t did
of_effect c (Send x) (Received m) s t did = left x.id s t did
of_effect c (Send x) (Info i) s t did = left x.id s t did
of_effect c (Send x) Done s t did = left x.id s t did
of_effect c (Send x) (Refused e) s t did = left x.id s t did
of_effect c (Receive x) (Received m) s t did =
    changed x.id s did.place did.q (without_message c.pid x did.q) t did.changes refl
of_effect c (Receive x) (Id n) s t did = left x.id s t did
of_effect c (Receive x) (Sent n) s t did = left x.id s t did
of_effect c (Receive x) (Info i) s t did = left x.id s t did
of_effect c (Receive x) Done s t did = left x.id s t did
of_effect c (Receive x) (Refused e) s t did = left x.id s t did
of_effect c (Stat id) a s t did = left id s t did
of_effect c (Set x) a s t (inl same) = left x.id s t same
of_effect c (Set x) a s t (inr did) = changed x.id s did.place did.q (with_settings x did.q) t did.changes refl
of_effect c (Remove id) Done s t did =
    let there = did.stands.place_of.is_its did.q in
    rw did.after (sym (filter_remove (keeps id) s.queues did.place did.q did.stands.place_of.within
    (left_out _ id there)))
of_effect c (Remove id) (Id n) s t did = left id s t did
of_effect c (Remove id) (Sent n) s t did = left id s t did
of_effect c (Remove id) (Received m) s t did = left id s t did
of_effect c (Remove id) (Info i) s t did = left id s t did
of_effect c (Remove id) (Refused e) s t did = left id s t did

pub one_queue : (c : Caller) (call : Call) (a : Answer) (s t : State) → outcome c call s ≡ Some (a, t) →
    others (queue_of call s) s ≡ others (queue_of call s) t
one_queue c call a s t at = of_effect c call a s t (Effect-outcome c call a s t at)
