-- A call that has not decided, beside another seat's Decide.
use Rattle.std.proofs.Common.{ℕ, ◌≡◌, ◌≢◌, ◌⊎◌, inl, inr, refl, sym, ap, ◌∙◌, subst, Bool, true, false, List, [], ◌∷◌, Option, Some, None}
use Rattle.std.specs.Prelude.{◌==◌, ◌&&◌}
use Rattle.std.specs.List.{Contains}
use Rattle.call_decisions.specs.Settling.{AreAlike, IsAnswer, writes_owed}
use Rattle.call_decisions.proofs.HeldLemmas.{has_or_not}
use Rattle.call_decisions.proofs.OverlayLemmas.{overlaid_rest}
use Rattle.call_decisions.specs.Owing as owed
use Rattle.queue_model.specs.declared.answer.Answer.{Answer}
use Rattle.queue_model.specs.declared.caller.Caller.{Caller}
use Rattle.queue_records.specs.Keys.{key_of_queue}
use Rattle.xsi_inquiry.proofs.AgreeLemmas.{agrees_itself}
use Rattle.xsi_inquiry.specs.Writing.{inserted, nothing, writes_of}
use Rattle.xsi_inquiry.specs.declared.write.Write.{Write}
use Rattle.interleavings.specs.SeatWords.{Call, Exclusive, IsFiled, KnowsNear, LockName, Plan, QuestionsView, Record, RecordKey, State, asked_of, caller_of, counter_key, guard_of, its_plan, kind_of, locked_of, record_of}
use Rattle.interleavings.specs.Apart.{IsAsGood, IsKeptApart}
use Rattle.interleavings.specs.Beside.{AreApart}
use Rattle.interleavings.specs.DecisionLaws.{LeavesWhatItDoesNotWrite, OthersAnswer, OthersSweep}
use Rattle.interleavings.proofs.ApartLemmas.{others_decide}
use Rattle.interleavings.proofs.SameLemmas.{same_system}

-- ---- a call that writes nothing

pub and_false : (b : Bool) → (b && false) ≡ false
and_false true = refl
and_false false = refl

-- of what is owed where no write is, a key that is not swept stays
owed_nowhere : (o : owed.Owes) (key : RecordKey) → writes_owed o ≡ [] → ((id : ℕ) → owed.is_swept id key ≡ false) →
    owed.owes_at o key ≡ false
owed_nowhere (owed.Writes ws) key none never = ap (λ (xs : List Write). owed.is_written xs key) none
owed_nowhere (owed.Sweeps id ws) key none never =
    rw (never id) (ap (λ (xs : List Write). owed.is_written xs key) none)

module _ (c : Caller) (call : Call) (held : List LockName) (trials : List Record) (answer : Answer) (o : owed.Owes)
    (s : State) (is : IsAnswer c call held trials answer o s) (untried : trials ≡ []) (none : writes_owed o ≡ []) where
  left_at : (key : RecordKey) → ((id : ℕ) → owed.is_swept id key ≡ false) →
      record_of is.after key ≡ record_of s key
  left_at key never = elim (has_or_not held (guard_of key)) [
    | inr other ↦ is.owes.rest key other
    | inl has ↦ sym (is.owes.leads (record_of s) (subst (λ (rs : List Record).
        AreAlike held (record_of s) (inserted rs (record_of s))) (sym untried) (λ k under. refl)) key has)
        ∙ overlaid_rest o (record_of s) key (owed_nowhere o key none never)
  ]

  pub leaves : is.after ≡ s
  leaves = same_system s is.after (left_at counter_key (λ id. and_false (0 == id)))
      (λ id. left_at (key_of_queue id) (λ other. and_false (id == other))) c call answer is.outcome

pub leaves_what_it_does_not_write : LeavesWhatItDoesNotWrite
leaves_what_it_does_not_write c call held trials answer o s is untried none =
    leaves c call held trials answer o s is untried none

-- ---- beside a call that is settled

nothing_or_not : (p : Plan) → (p ≡ nothing) ⊎ (p ≢ nothing)
nothing_or_not p = by p.trials p.slots refl refl
  where
    by : (trials : List Record) (slots : List (Option Write)) → p.trials ≡ trials → p.slots ≡ slots →
        (p ≡ nothing) ⊎ (p ≢ nothing)
    by [] [] first second = inl (λ i. record { trials = first i; slots = second i })
    by (r ∷ rs) slots first second =
        inr (λ is. absurd (let clash = sym first ∙ ap (λ (x : Plan). x.trials) is in cc))
    by [] (o ∷ os) first second =
        inr (λ is. absurd (let clash = sym second ∙ ap (λ (x : Plan). x.slots) is in cc))

pub as_good_itself : (call : Call) (q : QuestionsView) (s : State) → IsFiled s → IsAsGood call q s s
as_good_itself call q s filed = record {
  filed = filed;
  records = λ key under. refl;
  ids = λ id under. record { queue = refl; given = refl };
  knows = λ near. near;
}

module _ (theirs : Call) (s : State) (r : QuestionsView) (filed : IsFiled s) (near : KnowsNear theirs r s)
    (ready : asked_of theirs r.inquiry ≡ None) (trials : List Record) (answer : Answer) (o : owed.Owes)
    (is : IsAnswer (caller_of r.inquiry) theirs (locked_of theirs r.inquiry) trials answer o s)
    (filed' : IsFiled is.after) (call : Call) (q : QuestionsView) (kept : IsKeptApart call q)
    (apart : AreApart q.names r.names) where
  pub as_good : (its_plan theirs r ≡ nothing → trials ≡ []) → (its_plan theirs r ≡ nothing → writes_owed o ≡ []) →
      (its_plan theirs r ≢ nothing → (name : LockName) → Contains (locked_of theirs r.inquiry) name →
      kind_of r.names name ≡ Some Exclusive) → IsAsGood call q s is.after
  as_good untried none holds = elim (nothing_or_not (its_plan theirs r)) [
    | inl idle ↦ subst (IsAsGood call q s) (sym (leaves (caller_of r.inquiry) theirs (locked_of theirs r.inquiry) trials
        answer o s is (untried idle) (none idle))) (as_good_itself call q s filed)
    | inr writes ↦ others_decide call theirs q r.inquiry s is.after filed filed' kept (record {
      room = r.room;
      knows = near s filed (agrees_itself theirs _ s);
      ready = ready;
      answer = answer;
      outcome = is.outcome;
      rest = is.owes.rest;
      apart = λ name has mine. apart name has (holds writes name mine);
    })
  ]

pub others_answer : OthersAnswer
others_answer hash other theirs s r verdict trials records pool locks change is filed near ready filed' call q kept
    apart = as_good theirs s r filed near ready (its_plan theirs r).trials _ _ is.means filed' call q kept apart
    (λ idle. ap (λ (p : Plan). p.trials) idle) (λ idle. ap writes_of idle)
    (λ writes name has. (is.writes writes).exclusive name has)

pub others_sweep : OthersSweep
others_sweep hash other theirs s r sweep trials records pool locks change is filed near ready filed' call q kept
    apart = as_good theirs s r filed near ready [] _ _ is.means.answer filed' call q kept apart
    (λ idle. refl) (λ idle. ap writes_of idle) (λ writes name has. (is.writes writes).exclusive name has)
