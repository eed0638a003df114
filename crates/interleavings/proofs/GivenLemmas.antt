-- An id is given out by a call that holds the name of its queue.
use Rattle.std.proofs.Common.{ℕ, ◌≡◌, ◌⊎◌, ◌+◌, inl, inr, ap, subst}
use Rattle.std.specs.List.{Contains}
use Rattle.call_decisions.proofs.ChangeLemmas.{UnderName, changes_under}
use Rattle.page_locks.specs.declared.lock.LockName.TheVariants as names_are
use Rattle.type_chains.specs.Others.{queue_of}
use Rattle.interleavings.specs.SeatWords.{AnyInquiry, Call, Caller, State, caller_of, locked_of}
use Rattle.interleavings.specs.DecisionLaws.{GivesOut, IdsAreGivenOutUnderNames}
use Rattle.interleavings.proofs.DeedLemmas.{Alters_it, Deed, Leaves, Makes_it, Removes_it, deed_of}

-- a Get alone gives one out, the next one
abbrev GivesNext : Call → State → State → Type 0
GivesNext call s t = (t.next_id ≡ s.next_id) ⊎ ((t.next_id ≡ s.next_id + 1) × (queue_of call s ≡ s.next_id))

next_by : (c : Caller) (call : Call) (s t : State) → Deed c (queue_of call s) s t → GivesNext call s t
next_by c call s t (Leaves same) = inl (ap (λ (x : State). x.next_id) same)
next_by c call s t (Makes_it a is made) = inr (ap (λ (x : State). x.next_id) made.after, is)
next_by c call s t (Alters_it d) = inl (ap (λ (x : State). x.next_id) d.changes.after)
next_by c call s t (Removes_it did) = inl (ap (λ (x : State). x.next_id) did.after)

module _ (call : Call) (i : AnyInquiry) (s after : State) where
  by_name : UnderName s after (locked_of call i) (names_are.Queue (queue_of call s)) → GivesNext call s after →
      (after.next_id ≡ s.next_id) ⊎ GivesOut call i s after
  by_name (inl same) gives = inl (ap (λ (x : State). x.next_id) same)
  by_name (inr under) (inl stays) = inl stays
  by_name (inr under) (inr more) = inr (record {
    next = more.0;
    under = subst (λ (n : ℕ). Contains (locked_of call i) (names_are.Queue n)) more.1 under;
  })

pub ids_are_given_out_under_names : IdsAreGivenOutUnderNames
ids_are_given_out_under_names call i room s answer after filed knows ready answered =
    by_name call i s after (changes_under call i room s answer after filed knows ready answered)
    (next_by (caller_of i) call s after (deed_of (caller_of i) s after call answer answered))
