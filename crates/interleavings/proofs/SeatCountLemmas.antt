-- Ids that were given out, and are still to be counted.
use Rattle.std.proofs.Common.{ℕ, ◌≡◌, ◌≢◌, ◌⊎◌, inl, inr, sym, ap, ◌∙◌, subst, Bool, true, false, Option, Some, None, arith, refl}
use Rattle.std.specs.Prelude.{◌==◌, nat_lt}
use Rattle.std.specs.List.{find}
use Rattle.std.proofs.lemmas.Bool.{eqb-true}
use Rattle.std.proofs.lemmas.Bool.Decides.{nat_tests}
use Rattle.queue_model.specs.Rules.{has_id}
use Rattle.queue_model.specs.declared.queue.Queue.{Queue}
use Rattle.type_chains.specs.Others.{queue_of}
use Rattle.xsi_inquiry.proofs.OthersLemmas.{agrees_by_others}
use Rattle.interleavings.specs.SeatWords.{Answer, Call, Caller, IsFiled, State, counter_key, outcome, record_of}
use Rattle.interleavings.specs.AlikeLaws.{CountsWhileAlive, GivesOutNext, IsUncounted, KeepsAliveUnderCounter}
use Rattle.interleavings.proofs.AskLemmas.{one_more}
use Rattle.interleavings.proofs.DeedLemmas.{Alters, Alters_it, Deed, Leaves, Makes_it, Removes_it, deed_of, found_made, found_then}
use Rattle.interleavings.proofs.SameLemmas.{none_gone, none_made}

-- ---- an id that no queue has is not the one that is still to be counted

pub counts_while_alive : CountsWhileAlive
counts_while_alive names store s counter stands next = record {
  counter = counter;
  counts = stands;
  given = λ id has none. elim next [
    | inl same ↦ ap (nat_lt id) (sym same)
    | inr more ↦ one_more id counter.next_id (λ is. more.alive
        (subst (λ (n : ℕ). find (has_id n) s.queues ≡ None) is none)) ∙ ap (nat_lt id) (sym more.next)
  ];
}

-- ---- an answer that leaves the Counter

is_there : (found : Option Queue) (q : Queue) → found ≡ Some q → found ≢ None
is_there found q is none = absurd (let clash : ◌≡◌ {A = Option Queue} None (Some q) = sym none ∙ is in cc)

module _ (c : Caller) (call : Call) (answer : Answer) (s after : State)
    (answered : outcome c call s ≡ Some (answer, after)) where
  altered_there : Alters (queue_of call s) s after → (id : ℕ) → find (has_id id) s.queues ≢ None →
      find (has_id id) after.queues ≢ None
  altered_there d id there = by (id == queue_of call s) refl
    where
      by : (b : Bool) → (id == queue_of call s) ≡ b → find (has_id id) after.queues ≢ None
      by true e = subst (λ (n : ℕ). find (has_id n) after.queues ≢ None) (sym (eqb-true id (queue_of call s) e))
          (is_there _ d.new (found_then (queue_of call s) s after d))
      by false e =
          let apart : id ≢ queue_of call s = λ is. grind (arith, nat_tests, e, is) in
          λ none. there ((agrees_by_others id c call answer s after apart answered).queue ∙ none)

  keeps : record_of after counter_key ≡ record_of s counter_key → Deed c (queue_of call s) s after →
      (after.next_id ≡ s.next_id) ×
      ((id : ℕ) → find (has_id id) s.queues ≢ None → find (has_id id) after.queues ≢ None)
  keeps under (Leaves same) = (
    ap (λ (x : State). x.next_id) same,
    λ id there. subst (λ (x : State). find (has_id id) x.queues ≢ None) (sym same) there,
  )
  keeps under (Makes_it a is made) = absurd (none_made s after under c a made)
  keeps under (Alters_it d) = (ap (λ (x : State). x.next_id) d.changes.after, altered_there d)
  keeps under (Removes_it did) = absurd (none_gone s after under (queue_of call s) did)

pub keeps_alive_under_counter : KeepsAliveUnderCounter
keeps_alive_under_counter c call answer s after answered counts =
    keeps c call answer s after answered counts (deed_of c s after call answer answered)

-- ---- an answer that gives an id out

module _ (c : Caller) (id : ℕ) (s after : State) (filed : IsFiled s) where
  gives : Deed c id s after → (after.next_id ≡ s.next_id) ⊎ IsUncounted s.next_id after
  gives (Leaves same) = inl (ap (λ (x : State). x.next_id) same)
  gives (Makes_it a is made) = inr (record {
    next = ap (λ (x : State). x.next_id) made.after;
    alive = is_there _ _ (found_made c a s after filed made);
  })
  gives (Alters_it d) = inl (ap (λ (x : State). x.next_id) d.changes.after)
  gives (Removes_it did) = inl (ap (λ (x : State). x.next_id) did.after)

pub gives_out_next : GivesOutNext
gives_out_next c call answer s after filed answered =
    gives c (queue_of call s) s after filed (deed_of c s after call answer answered)
