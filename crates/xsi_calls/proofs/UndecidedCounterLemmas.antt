-- While a call owes the Counter it has not written it.
use Rattle.std.proofs.Common.{ℕ, zero, suc, ◌≡◌, ◌+◌, Bool, true, false, List, [], ◌∷◌, ◌++◌, Option, Some, None, option_map, drop, take, refl, sym, ap, ◌∙◌, subst}
use Rattle.std.proofs.lemmas.Bool.{true≢false}
use Rattle.std.specs.Prelude.{if◌then◌else◌, nat_lt, slice_get}
use Rattle.call_writes.specs.call_decisions.Owing.{is_written, owes_at}
use Rattle.call_writes.specs.CarrySteps.{AsMade, AsTheyWere}
use Rattle.call_writes.specs.declared.deed.Deed.TheVariants as deeds
use Rattle.call_writes.specs.declared.due.Due.TheVariants.{Undoing}
use Rattle.xsi_inquiry.specs.Writing.{somes, turned}
use Rattle.xsi_inquiry.specs.declared.write.TheConstants.{MAX_TRIALS}
use Rattle.xsi_inquiry.specs.declared.write.Write.TheVariants.{Delete}
use Rattle.xsi_calls.proofs.HeldLemmas.{neither_is}
use Rattle.xsi_calls.proofs.UndecidedNames.{Deed, IsBehindDeed, Leaves, Write, Writing, after_deed, is_same, key_of, key_written, next_deed, undoing}
use Rattle.xsi_calls.proofs.PlanLemmas.{HasOneCounter, WritesOnce, has_counter, plans_have_one_counter}
use Rattle.xsi_calls.specs.UndecidedBelow.{counter_key}
use Rattle.xsi_calls.specs.Knowing.{IsOnTrial}
use Rattle.xsi_calls.specs.Undecided.{owes_in, Trials}
use Rattle.xsi_calls.specs.UndecidedSteps.{IsBehind}
use Rattle.xsi_calls.specs.UndecidedWords.{Call, Change, Due, Full, Plan, PoolState, QuestionsView, Record, RecordKey, Records, State, Table, Trying, owes}

-- ---- trials

none_behind : (ws : List Write) (w : Write) → is_written ws counter_key ≡ false →
    is_same counter_key (key_written w) ≡ false → is_written (ws ++ w ∷ []) counter_key ≡ false
none_behind [] w none other = rw other refl
none_behind (v ∷ ws) w none other =
    let (first, more) = neither_is (is_same counter_key (key_written v)) (is_written ws counter_key) none in
    rw first (none_behind ws w more other)

undone_none : (n : ℕ) (rs : List Record) → has_counter rs ≡ false →
    is_written (undoing (take n rs)) counter_key ≡ false
undone_none zero rs none = refl
undone_none (suc n) [] none = refl
undone_none (suc n) (r ∷ rs) none =
    let (first, more) = neither_is (is_same counter_key (key_of r)) (has_counter rs) none in
    none_behind (undoing (take n rs)) (Delete (key_of r)) (undone_none n rs more) first

-- ---- writes

once_from : (os : List (Option Write)) (from : ℕ) → WritesOnce (somes os) → WritesOnce (somes (drop from os))
once_from os zero once = once
once_from [] (suc from) once = once
once_from (None ∷ os) (suc from) once = once_from os from once
once_from (Some w ∷ os) (suc from) once = once_from os from once.1

module _ (records : Records) where
  write_aside : (w : Write) → is_same counter_key (key_written w) ≡ false →
      after_deed (deeds.Write w) records counter_key ≡ records counter_key
  write_aside w other =
      ap (λ (b : Bool). if b then turned w (records (key_written w)) else records counter_key) other

  -- after the write that comes next it is owed only where that is another's
  next_aside : (ws : List Write) (d : Deed) → WritesOnce ws →
      option_map deeds.Write (slice_get ws zero) ≡ Some d → is_written (drop 1 ws) counter_key ≡ true →
      after_deed d records counter_key ≡ records counter_key
  next_aside [] d once next owed = absurd cc
  next_aside (w ∷ ws) d once next owed =
      let same : deeds.Write w ≡ d = cc in
      subst (λ (x : Deed). after_deed x records counter_key ≡ records counter_key) same
      (by (is_same counter_key (key_written w)) refl)
    where
      by : (b : Bool) → is_same counter_key (key_written w) ≡ b →
          after_deed (deeds.Write w) records counter_key ≡ records counter_key
      by true its = absurd (true≢false (sym owed ∙ once.0 its))
      by false other = write_aside w other

-- ---- by what is due

module _ (p : Plan) (one : HasOneCounter p) where
  -- a call that has not decided owes the deletion of its trials alone
  pub on_trial_none : (due : Due) → IsOnTrial due → owes_at (owes p due) counter_key ≡ false
  on_trial_none (Trying place) on = undone_none place p.trials one.trials
  on_trial_none (Full standing) on = undone_none standing p.trials one.trials
  on_trial_none (Undoing standing) on = absurd on
  on_trial_none (Writing from) on = absurd on

  module _ (records after : Records) where
    made : (due due' : Due) (d : Deed) → next_deed p due ≡ Some d → IsBehindDeed p due due' →
        owes_at (owes p due') counter_key ≡ true → after_deed d records counter_key ≡ records counter_key
    made (Trying place) due' d next behind owed =
        absurd (true≢false (sym owed ∙ by (nat_lt place MAX_TRIALS) behind))
      where
        by : (b : Bool) → due' ≡ (if b then Trying (place + 1) else Trying place) →
            owes_at (owes p due') counter_key ≡ false
        by true is = rw is (undone_none (place + 1) p.trials one.trials)
        by false is = rw is (undone_none place p.trials one.trials)
    made (Full standing) due' d next behind owed = absurd cc
    made (Undoing standing) due' d next behind owed =
        absurd (true≢false (sym owed ∙ rw behind (undone_none _ p.trials one.trials)))
    made (Writing from) due' d next (slot, is, rest) owed =
        next_aside records (somes (drop from p.slots)) d (once_from p.slots from one.writes) next
        (sym (ap (λ (ws : List Write). is_written ws counter_key) rest)
        ∙ sym (ap (λ (x : Due). owes_at (owes p x) counter_key) is) ∙ owed)

    -- while it is owed after a step, it stands as it stood
    pub counter_stands : (due due' : Due) → Leaves p due due' records after →
        owes_at (owes p due') counter_key ≡ true → after counter_key ≡ records counter_key
    counter_stands due due' (AsTheyWere same) owed = ap (λ (r : Records). r counter_key) same
    counter_stands due due' (AsMade d next is behind) owed =
        ap (λ (r : Records). r counter_key) is ∙ made due due' d next behind owed

-- ---- by its place

-- before its Decide a call owes no Counter
pub undecided_none : (hash : RecordKey → ℕ) (seat : ℕ) (call : Call) (s : State) (q : QuestionsView)
    (o : Option Trials) (records : Records) (pool : PoolState) (locks : Table) (change : Change) →
    IsBehind hash seat call s q o records pool locks change → owes_at (owes_in call q o) counter_key ≡ false
undecided_none hash seat call s q None records pool locks change behind = refl
undecided_none hash seat call s q (Some t) records pool locks change behind =
    on_trial_none _ (plans_have_one_counter call q.inquiry) t.writes.due behind.on_trial
