-- What a step does whatever the device gives.
use Rattle.std.proofs.Common.{◌≡◌, refl, sym, ap, ◌∙◌, subst, ℕ, Bool, true, false, not, ◌&&◌, List, Option, if◌then◌else◌, arith}
use Rattle.std.proofs.lemmas.Bool.{true≢false}
use Rattle.record_file.specs.file_pages.declared.fault.FileFault.TheVariants.{Failed}
use Rattle.page_locks.proofs.ChangeLemmas.{with_row-own}
use Rattle.page_locks.specs.Table.{with_row}
use Rattle.record_file.proofs.AccessAimLemmas.{wrote_of}
use Rattle.call_writes.proofs.WriteNames.{FileFault}
use Rattle.call_writes.proofs.WriteBeginLemmas.{begun_locks}
use Rattle.record_file.proofs.OperationLemmas.{ended_free}
use Rattle.call_writes.proofs.SortLemmas.{Anew, EndsAs, Fails, Fills, Goes, Idles, IsIdle, IsSorted, LetsGo, Over, Refused, StartsAs, Steps, Stuck, Under}
use Rattle.xsi_remove.proofs.FreshLemmas.{failed_cause}
use Rattle.xsi_remove.specs.Words.{StepHasCause}
use Rattle.call_writes.specs.declared.writes.CallWrites.{CallWrites}
use Rattle.call_writes.specs.WriteWords.{RecordKey, Plan, PoolState, Table, Lock, IsReady, OnlyWrites, FollowsRow, Progress, Moved, Ended, Fault, WriteRecord, is_fault, is_write, AccessView, access_locks, Due}
use Rattle.call_writes.specs.CarrySteps.{Advances, FindsNoRoom, IsPaid, KeepsPlan, Stays}
use Rattle.call_writes.specs.Views.{IsOver, locks_under, writes_locks}
use Rattle.call_writes.specs.MakeSteps.{PaysDue}

module _ (hash : RecordKey → ℕ) (seat : ℕ) (p : Plan) (did : Progress FileFault) (old new : CallWrites)
    (pool pool' : PoolState) (locks locks' : Table) where
  -- ---- what is written

  nothing_written : (fine : Bool) → IsReady pool → pool' ≡ pool → OnlyWrites fine pool pool'
  nothing_written fine ready same = subst (OnlyWrites fine pool) (sym same) (record {
    ready = ready;
    honest = refl;
    later = omega arith;
    stored = refl;
    as_many = refl;
    file = λ honest fine' was. was;
  })

  fault_writes : (made : Progress FileFault) → did ≡ Fault Failed → OnlyWrites (not (is_fault made)) pool pool' →
      OnlyWrites (not (is_fault did)) pool pool'
  fault_writes made fault writes = rw fault (record {
    ready = writes.ready;
    honest = writes.honest;
    later = writes.later;
    stored = writes.stored;
    as_many = writes.as_many;
    file = λ honest fine was. absurd (true≢false (sym fine));
  })

  writes_on : (made : Progress FileFault) (due' : Due) (a' : AccessView) → EndsAs made did due' a' new →
      OnlyWrites (not (is_fault made)) pool pool' → OnlyWrites (not (is_fault did)) pool pool'
  writes_on made due' a' (Goes still same kept) writes = rw same writes
  writes_on made due' a' (LetsGo ended written same kept) writes = rw same writes
  writes_on made due' a' (Fills standing ended full due same kept) writes = rw same writes
  writes_on made due' a' (Fails ended unwritten fine untried fault kept) writes = fault_writes made fault writes

  pub only_writes : IsReady pool → IsSorted hash seat p did old new pool pool' locks locks' →
      OnlyWrites (not (is_fault did)) pool pool'
  only_writes ready (Idles why kept pools tables) = nothing_written (not (is_fault did)) ready pools
  only_writes ready (Steps s) = writes_on s.made s.due' s.a' s.ends s.step.writes

  -- ---- why a fault is told

  as_made : (made : Progress FileFault) → did ≡ made → StepHasCause made pool pool' → StepHasCause did pool pool'
  as_made made same = subst (λ (d : Progress FileFault). StepHasCause d pool pool') (sym same)

  idle_cause : IsIdle p did old → StepHasCause did pool pool'
  idle_cause (Refused met refused same) =
      as_made (Fault Failed) (same ∙ ap (λ (f : FileFault). Fault f) refused.failed) (failed_cause pool pool')
  idle_cause (Over over same) = as_made Ended same (λ fault is. absurd cc)
  idle_cause (Stuck a was ended why) = as_made (Fault Failed) why (failed_cause pool pool')

  step_cause : (made : Progress FileFault) (due' : Due) (a' : AccessView) → EndsAs made did due' a' new →
      StepHasCause made pool pool' → StepHasCause did pool pool'
  step_cause made due' a' (Goes still same kept) cause = as_made made same cause
  step_cause made due' a' (LetsGo ended written same kept) cause = as_made made same cause
  step_cause made due' a' (Fills standing ended full due same kept) cause = as_made made same cause
  step_cause made due' a' (Fails ended unwritten fine untried why kept) cause =
      as_made (Fault Failed) why (failed_cause pool pool')

  pub causes : IsSorted hash seat p did old new pool pool' locks locks' → StepHasCause did pool pool'
  causes (Idles why kept pools tables) = idle_cause why
  causes (Steps s) = step_cause s.made s.due' s.a' s.ends s.step.cause

  -- ---- the row

  still_row : new ≡ old → locks' ≡ locks → FollowsRow seat (writes_locks old) (writes_locks new) locks locks'
  still_row kept tables before bare row =
      tables ∙ sym (with_row-own locks seat)
      ∙ ap (λ (xs : List Lock). with_row locks seat xs)
      (row ∙ ap (λ (w : CallWrites). writes_locks w before) (sym kept))

  pub start_row : (a : AccessView) → StartsAs hash p old a → (before : List Lock) →
      writes_locks old before ≡ access_locks a before
  start_row a (Under was) before = ap (λ (o : Option AccessView). locks_under o before) was
  start_row a (Anew d rests next serves same) before =
      ap (λ (o : Option AccessView). locks_under o before) rests ∙ sym (begun_locks hash d before)
      ∙ ap (λ (x : AccessView). access_locks x before) (sym same)

  end_row : (made : Progress FileFault) (due' : Due) (a' : AccessView) → EndsAs made did due' a' new →
      (before : List Lock) → access_locks a' before ≡ writes_locks new before
  end_row made due' a' (Goes still same kept) before = ap (λ (w : CallWrites). writes_locks w before) (sym kept)
  end_row made due' a' (LetsGo ended written same kept) before =
      ended_free a'.operation before ended ∙ ap (λ (w : CallWrites). writes_locks w before) (sym kept)
  end_row made due' a' (Fills standing ended full due same kept) before =
      ended_free a'.operation before ended ∙ ap (λ (w : CallWrites). writes_locks w before) (sym kept)
  end_row made due' a' (Fails ended unwritten fine untried fault kept) before =
      ap (λ (w : CallWrites). writes_locks w before) (sym kept)

  pub follows_row : IsSorted hash seat p did old new pool pool' locks locks' →
      FollowsRow seat (writes_locks old) (writes_locks new) locks locks'
  follows_row (Idles why kept pools tables) = still_row kept tables
  follows_row (Steps s) = λ before bare row.
      s.step.row before bare (row ∙ start_row s.a s.starts before)
      ∙ ap (λ (xs : List Lock). with_row locks seat xs) (end_row s.made s.due' s.a' s.ends before)

  -- ---- what is due

  not_over : (a : AccessView) → StartsAs hash p old a → IsOver p old → ⊥
  not_over a (Under was) over = absurd (let none = sym was ∙ over.rests in cc)
  not_over a (Anew d rests next serves same) over = absurd (let none = sym next ∙ over.last in cc)

  not_ended_did : (made : Progress FileFault) (due' : Due) (a' : AccessView) → EndsAs made did due' a' new →
      (made ≡ Ended → ⊥) → did ≡ Ended → ⊥
  not_ended_did made due' a' (Goes still same kept) going is = going (sym same ∙ is)
  not_ended_did made due' a' (LetsGo ended written same kept) going is = going (sym same ∙ is)
  not_ended_did made due' a' (Fills standing ended full due same kept) going is = going (sym same ∙ is)
  not_ended_did made due' a' (Fails ended unwritten fine untried fault kept) going is =
      absurd (let clash = sym fault ∙ is in cc)

  idle_over : IsIdle p did old → did ≡ Ended → IsOver p old
  idle_over (Refused fault refused same) is = absurd (let clash = sym same ∙ is in cc)
  idle_over (Over over same) is = over
  idle_over (Stuck a was ended fault) is = absurd (let clash = sym fault ∙ is in cc)

  over_idle : IsIdle p did old → IsOver p old → did ≡ Ended
  over_idle (Refused fault refused same) over = absurd (let clash = sym refused.next ∙ over.last in cc)
  over_idle (Over over' same) over = same
  over_idle (Stuck a was ended fault) over = absurd (let clash = sym was ∙ over.rests in cc)

  -- by whether the access had written, and has written
  due_on : (made : Progress FileFault) (due' : Due) (w b b' : Bool) → b' ≡ (if w then true else b) →
      (w ≡ true → made ≡ Moved WriteRecord) → did ≡ made → PaysDue p (not b && b') old.due due' →
      Advances p did old.due due'
  due_on made due' w true b' is wrote same pays = Stays pays
  due_on made due' true false true is wrote same pays = IsPaid (same ∙ wrote refl) pays
  due_on made due' false false true is wrote same pays = absurd (true≢false is)
  due_on made due' w false false is wrote same pays = Stays pays

  pub unpaid : (due' : Due) (b b' : Bool) → b' ≡ false → PaysDue p (not b && b') old.due due' → due' ≡ old.due
  unpaid due' true b' none pays = pays
  unpaid due' false true none pays = absurd (true≢false none)
  unpaid due' false false none pays = pays

  pub full_unwritten : (b b' : Bool) → b && not b' ≡ true → b' ≡ false
  full_unwritten true true is = sym is
  full_unwritten true false is = refl
  full_unwritten false b' is = absurd (true≢false (sym is))

  advance : (made : Progress FileFault) (due' : Due) (a a' : AccessView) → EndsAs made did due' a' new →
      a'.written ≡ (if is_write made then true else a.written) → PaysDue p (not a.written && a'.written) old.due due' →
      Advances p did old.due new.due
  advance made due' a a' (Goes still same kept) is pays =
      subst (Advances p did old.due) (ap (λ (w : CallWrites). w.due) (sym kept))
      (due_on made due' (is_write made) a.written a'.written is (wrote_of made) same pays)
  advance made due' a a' (LetsGo ended written same kept) is pays =
      subst (Advances p did old.due) (ap (λ (w : CallWrites). w.due) (sym kept))
      (due_on made due' (is_write made) a.written a'.written is (wrote_of made) same pays)
  advance made due' a a' (Fills standing ended full due same kept) is pays =
      FindsNoRoom standing (sym (unpaid due' a.written a'.written (full_unwritten _ a'.written full) pays) ∙ due)
      (ap (λ (w : CallWrites). w.due) kept)
  advance made due' a a' (Fails ended unwritten fine untried fault kept) is pays =
      Stays (ap (λ (w : CallWrites). w.due) kept ∙ unpaid due' a.written a'.written unwritten pays)

  pub keeps_plan : IsSorted hash seat p did old new pool pool' locks locks' → KeepsPlan p did old new
  keeps_plan (Idles why kept pools tables) = record {
    ended = (idle_over why, over_idle why);
    rests = λ is. kept;
    due = Stays (ap (λ (w : CallWrites). w.due) kept);
  }
  keeps_plan (Steps s) =
      let going : did ≡ Ended → ⊥ = not_ended_did s.made s.due' s.a' s.ends (λ is. s.going (s.step.aim.ended.0 is)) in
      record {
        ended = (λ is. absurd (going is), λ over. absurd (not_over s.a s.starts over));
        rests = λ is. absurd (going is);
        due = advance s.made s.due' s.a s.a' s.ends s.step.aim.written s.pays;
      }
