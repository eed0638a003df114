-- To which system a step of a call leads, and what it leaves of the records.
use Rattle.std.proofs.Common.{ℕ, ◌≡◌, inl, inr, refl, sym, ◌∙◌, Bool, true, false, List, Some}
use Rattle.std.specs.List.{Contains}
use Rattle.interleavings.proofs.StopLemmas.{keeps_filed}
use Rattle.call_decisions.proofs.OverlayLemmas.{overlaid_rest}
use Rattle.interleavings.specs.SeatWords.{Exclusive}
use Rattle.interleavings.proofs.of_xsi_calls.Below.{has_or_not}
use Rattle.interleavings.specs.xsi_calls.Concluding.{IsRightConclusion}
use Rattle.interleavings.specs.xsi_calls.Words.{LockName, OwesUnder, guard_of, kind_of}
use Rattle.interleavings.specs.xsi_calls.declared.conclusion.Conclusion.TheVariants as conclusions
use Rattle.interleavings.specs.ConcurrentWords.{Call, Caller, ComesBy, Conclusion, HasFittingCall, HasFittingCaller, IsFiled, Lock, Owes, RecordKey, Records, State, answer_of, overlaid, owes_at, record_of}

-- ---- it leads from s to the system t

-- by what it owed before, over the records, and what it owes behind it, over those behind it
pub record Leads (names : List Lock) (before o : Owes) (records after : Records) (s t : State) : Type 0 where
  pub filed : IsFiled t
  -- where what will stand was the record of s it is that of t
  pub leads : (key : RecordKey) → overlaid before records key ≡ record_of s key → overlaid o after key ≡ record_of t key
  -- the records of s change under names alone that it holds Exclusive
  pub rest : (key : RecordKey) → (kind_of names (guard_of key) ≡ Some Exclusive → ⊥) → record_of t key ≡ record_of s key

-- what is not under names is not owed under them
not_owed : (held : List LockName) (o : Owes) (key : RecordKey) → OwesUnder held o → (Contains held (guard_of key) → ⊥) →
    owes_at o key ≡ false
not_owed held o key own none = by (owes_at o key) refl
  where
    by : (b : Bool) → owes_at o key ≡ b → b ≡ false
    by true is = absurd (none (own key is))
    by false is = refl

pub record Concludes (c : Conclusion) (caller : Caller) (call : Call) (bytes : List ℕ) (names : List Lock)
    (before o : Owes) (records : Records) (s : State) : Type 0 where
  pub after : State
  pub comes : ComesBy (Some c) caller call bytes s after
  pub leads : Leads names before o records records s after

module _ (caller : Caller) (call : Call) (s : State) (bytes : List ℕ) (names : List Lock) (full : Bool)
    (before o : Owes) (records : Records) (caller_fits : HasFittingCaller caller) (call_fits : HasFittingCall call)
    (filed : IsFiled s) where
  pub concluded : (c : Conclusion) → IsRightConclusion caller call s bytes names full before o records c →
      Concludes c caller call bytes names before o records s
  concluded (conclusions.Answers verdict) right = record {
    after = right.after;
    comes = right.rules;
    leads = record {
      filed = keeps_filed caller call (answer_of verdict bytes) s right.after caller_fits call_fits right.rules filed;
      leads = λ key was. elim (has_or_not right.held (guard_of key)) [
        | inl has ↦ right.leads key has
        | inr none ↦ overlaid_rest o records key (not_owed right.held o key right.own none)
            ∙ sym (overlaid_rest before records key (not_owed right.held before key right.tried none))
            ∙ was ∙ sym (right.rest key none)
      ];
      rest = λ key free. right.rest key (λ has. free (right.exclusive (guard_of key) has));
    };
  }
  concluded conclusions.Waits right = record {
    after = s;
    comes = (right.rules, refl);
    leads = record {
      filed = filed;
      leads = λ key was. right.idle key ∙ sym (right.untried key) ∙ was;
      rest = λ key free. refl;
    };
  }
  concluded conclusions.HasNoRoom right = record {
    after = s;
    comes = refl;
    leads = record {
      filed = filed;
      leads = λ key was. right.owed key ∙ was;
      rest = λ key free. refl;
    };
  }
