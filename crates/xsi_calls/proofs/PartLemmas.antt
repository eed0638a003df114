-- What a step does whatever the device gives.
use Rattle.std.proofs.Common.{◌≡◌, refl, sym, ap, ◌∙◌, subst, ℕ, Bool, true, not, List, Option, Some, None, arith}
use Rattle.file_pages.specs.declared.fault.FileFault.{FileFault}
use Rattle.file_pages.specs.declared.fault.FileFault.TheVariants.{Failed}
use Rattle.page_locks.proofs.ChangeLemmas.{with_row-own}
use Rattle.page_locks.specs.Table.{with_row}
use Rattle.call_writes.proofs.WriteNames.{ended_free}
use Rattle.call_writes.proofs.of_xsi_remove.FreshLemmas.{failed_cause}
use Rattle.call_writes.specs.xsi_remove.Words.{StepHasCause}
use Rattle.call_writes.specs.xsi_remove.SweepSteps.{IsOf, IsOver, MakesSweep}
use Rattle.call_writes.specs.PaymentStages.{Stage}
use Rattle.call_writes.specs.PaymentStages as stages
use Rattle.call_writes.specs.PaymentWords.{RecordKey, PoolState, Table, Lock, IsReady, OnlyWrites, FollowsRow, Progress, Ended, Fault, is_fault, Plan, writes_locks, Work, is_move, sweep_locks}
use Rattle.call_writes.specs.declared.writes.CallWrites.{CallWrites}
use Rattle.call_writes.specs.Payments.{payment_locks, unwritten}
use Rattle.call_writes.specs.MakeSteps.{MakesWrites}
use Rattle.xsi_calls.specs.PaySteps.{Goes, HasFailed, KeepsPayment, StepsPart}

-- a sweep that is over holds no lock
pub over_free : (v : Option Work) (before : List Lock) → IsOver v → sweep_locks v before ≡ before
over_free None before over = refl
over_free (Some w) before over = ended_free w.access.operation before over

module _ (hash : RecordKey → ℕ) (seat : ℕ) (p : Plan) (did : Progress FileFault) (pool pool' : PoolState)
    (locks locks' : Table) where
  nothing_written : (fine : Bool) → IsReady pool → pool' ≡ pool → OnlyWrites fine pool pool'
  nothing_written fine ready same = subst (OnlyWrites fine pool) (sym same) (record {
    ready = ready;
    honest = refl;
    later = omega arith;
    stored = refl;
    as_many = refl;
    file = λ honest fine' was. was;
  })

  pub only_writes : (old new : Stage) → IsReady pool → StepsPart hash seat p did old new pool pool' locks locks' →
      OnlyWrites (not (is_fault did)) pool pool'
  only_writes (stages.Sweeping v) (stages.Sweeping v') ready (Goes going makes on) = makes.writes
  only_writes (stages.Sweeping v) (stages.Sweeping v') ready (HasFailed over fault same pools tables) =
      nothing_written (not (is_fault did)) ready pools
  only_writes (stages.Sweeping v) (stages.Writing w) ready last = last.makes.writes
  only_writes (stages.Writing w) (stages.Sweeping v) ready none = absurd none
  only_writes (stages.Writing w) (stages.Writing w') ready makes = makes.writes

  pub causes : (old new : Stage) → StepsPart hash seat p did old new pool pool' locks locks' →
      StepHasCause did pool pool'
  causes (stages.Sweeping v) (stages.Sweeping v') (Goes going makes on) = makes.cause
  causes (stages.Sweeping v) (stages.Sweeping v') (HasFailed over why same pools tables) =
      subst (λ (d : Progress FileFault). StepHasCause d pool pool') (sym why) (failed_cause pool pool')
  causes (stages.Sweeping v) (stages.Writing w) last = last.makes.cause
  causes (stages.Writing w) (stages.Sweeping v) none = absurd none
  causes (stages.Writing w) (stages.Writing w') makes = makes.cause

  not_ended : did ≡ Fault Failed → did ≡ Ended → ⊥
  not_ended fault is = absurd (let clash = sym fault ∙ is in cc)

  pub keeps : (old new : Stage) → StepsPart hash seat p did old new pool pool' locks locks' →
      KeepsPayment p did old new
  keeps (stages.Sweeping v) (stages.Sweeping v') (Goes going makes on) = record {
    ended = (λ is. going (makes.aim.ended.0 is), λ paid. absurd paid);
    rests = λ is. absurd (going (makes.aim.ended.0 is));
    part = makes.aim.queue;
  }
  keeps (stages.Sweeping v) (stages.Sweeping v') (HasFailed over fault same pools tables) = record {
    ended = (λ is. absurd (not_ended fault is), λ paid. absurd paid);
    rests = λ is. ap stages.Sweeping same;
    part = λ id is. subst (IsOf id) (sym same) is;
  }
  keeps (stages.Sweeping v) (stages.Writing w) last = record {
    ended = (λ is. last.goes_on (last.makes.aim.ended.0 is), λ paid. absurd paid);
    rests = λ is. absurd (last.goes_on (last.makes.aim.ended.0 is));
    part = last.ends;
  }
  keeps (stages.Writing w) (stages.Sweeping v) none = absurd none
  keeps (stages.Writing w) (stages.Writing w') makes = record {
    ended = makes.aim.ended;
    rests = λ is. ap stages.Writing (makes.aim.rests is);
    part = makes.aim.due;
  }

  still_row : (v v' : Option Work) → v' ≡ v → locks' ≡ locks →
      FollowsRow seat (sweep_locks v) (sweep_locks v') locks locks'
  still_row v v' same tables before bare row =
      tables ∙ sym (with_row-own locks seat)
      ∙ ap (λ (xs : List Lock). with_row locks seat xs)
      (row ∙ ap (λ (x : Option Work). sweep_locks x before) (sym same))

  pub follows : (old new : Stage) → StepsPart hash seat p did old new pool pool' locks locks' →
      FollowsRow seat (payment_locks old) (payment_locks new) locks locks'
  follows (stages.Sweeping v) (stages.Sweeping v') (Goes going makes on) = makes.row
  follows (stages.Sweeping v) (stages.Sweeping v') (HasFailed over fault same pools tables) =
      still_row v v' same tables
  follows (stages.Sweeping v) (stages.Writing w) last = λ before bare row.
      last.makes.row before bare row
      ∙ ap (λ (xs : List Lock). with_row locks seat xs) (over_free last.swept before last.over
      ∙ ap (λ (x : CallWrites). writes_locks x before) (sym last.ends.fresh))
  follows (stages.Writing w) (stages.Sweeping v) none = absurd none
  follows (stages.Writing w) (stages.Writing w') makes = makes.row

  -- ---- which part makes its step

  module _ (old : Stage) where
    module _ (w w' : CallWrites) (is : old ≡ stages.Writing w) where
      pub writes_part : MakesWrites hash seat p did w w' pool pool' locks locks' →
          StepsPart hash seat p did old (stages.Writing w') pool pool' locks locks'
      writes_part makes =
          subst (λ (x : Stage). StepsPart hash seat p did x (stages.Writing w') pool pool' locks locks') (sym is) makes

    module _ (v v' : Option Work) (is : old ≡ stages.Sweeping v) (going : IsOver v → ⊥)
        (makes : MakesSweep hash seat did v v' pool pool' locks locks') where
      pub goes_part : (is_move did ≡ true → IsOver v' → ⊥) →
          StepsPart hash seat p did old (stages.Sweeping v') pool pool' locks locks'
      goes_part on =
          subst (λ (x : Stage). StepsPart hash seat p did x (stages.Sweeping v') pool pool' locks locks') (sym is)
          (Goes going makes on)

      pub ends_part : is_move did ≡ true → IsOver v' → (w : CallWrites) → w ≡ unwritten →
          StepsPart hash seat p did old (stages.Writing w) pool pool' locks locks'
      ends_part moved over w fresh =
          subst (λ (x : Stage). StepsPart hash seat p did x (stages.Writing w) pool pool' locks locks') (sym is)
          (record {
            goes_on = going;
            swept = v';
            makes = makes;
            ends = record { moved = moved; fresh = fresh };
            over = over;
          })

pub failed_part : (hash : RecordKey → ℕ) (seat : ℕ) (p : Plan) (pool : PoolState) (locks : Table) (old : Stage)
    (v : Option Work) → old ≡ stages.Sweeping v → IsOver v →
    StepsPart hash seat p (Fault Failed) old (stages.Sweeping v) pool pool locks locks
failed_part hash seat p pool locks old v is over =
    subst (λ (x : Stage). StepsPart hash seat p (Fault Failed) x (stages.Sweeping v) pool pool locks locks) (sym is)
    (HasFailed over refl refl refl refl)
