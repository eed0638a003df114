-- A step of either part.
use Rattle.std.proofs.Common.{◌≡◌, sym, ap, subst, ℕ, false, List, Option, Some, None, inl, inr, ◌⊎◌}
use Rattle.file_pages.specs.declared.fault.FileFault.{FileFault}
use Rattle.xsi_calls.proofs.PartLemmas.{causes, follows, keeps, only_writes}
use Rattle.xsi_calls.proofs.SweptLemmas.{ends_with, nears_end, nears_on, sweeps_on}
use Rattle.xsi_calls.proofs.WrittenLemmas.{writes_on}
use Rattle.call_writes.specs.xsi_remove.SweepSteps.{IsOver}
use Rattle.call_writes.specs.xsi_remove.UnderWay.{StepsUnderWay}
use Rattle.call_writes.specs.WriteWords.{AccessView, HasEnded}
use Rattle.call_writes.specs.PaymentStages.{Stage}
use Rattle.call_writes.specs.PaymentStages as stages
use Rattle.call_writes.specs.PaymentWords.{RecordKey, PoolState, Table, Lock, Change, store_of, IsReady, IsSeat, NearsOrSpares, Progress, is_fault, Plan, Records, Work, sweep_access}
use Rattle.call_writes.specs.declared.writes.CallWrites.{CallWrites}
use Rattle.call_writes.specs.Payments.{payment_access, payment_left}
use Rattle.call_writes.specs.Paying.{IsPaying}
use Rattle.xsi_calls.specs.PaySteps.{Goes, HasFailed, MakesPayment, Pays, StepsPart}

module _ (hash : RecordKey → ℕ) (seat : ℕ) (p : Plan) (did : Progress FileFault) (pool pool' : PoolState)
    (locks locks' : Table) (seated : IsSeat locks seat) (names : List Lock) (records : Records) (change : Change) where
  pub nears : (old new : Stage) → StepsPart hash seat p did old new pool pool' locks locks' →
      IsPaying hash seat names p old records pool locks change →
      NearsOrSpares did (payment_left p old (store_of pool.images)) (payment_left p new (store_of pool'.images)) pool
      pool'
  nears (stages.Sweeping v) (stages.Sweeping v') (Goes going makes on) y =
      nears_on hash seat names p did v v' pool pool' locks locks' seated makes records change y
  nears (stages.Sweeping v) (stages.Sweeping v') (HasFailed over fault same pools tables) y =
      absurd (y.goes_on over)
  nears (stages.Sweeping v) (stages.Writing w) last y =
      nears_end hash seat names p did v last.swept pool pool' locks locks' seated last.makes records change y
      last.ends.moved w last.ends.fresh
  nears (stages.Writing w) (stages.Sweeping v) none y = absurd none
  nears (stages.Writing w) (stages.Writing w') makes y = makes.progress names records change y.carries

  pub pays : (old new : Stage) → StepsPart hash seat p did old new pool pool' locks locks' →
      IsPaying hash seat names p old records pool locks change → is_fault did ≡ false →
      Pays hash seat names p did old new records pool pool' locks locks' change
  pays (stages.Sweeping v) (stages.Sweeping v') (Goes going makes on) y fine =
      sweeps_on hash seat names p did v v' pool pool' locks locks' seated makes records change y fine on
  pays (stages.Sweeping v) (stages.Sweeping v') (HasFailed over fault same pools tables) y fine =
      absurd (y.goes_on over)
  pays (stages.Sweeping v) (stages.Writing w) last y fine =
      ends_with hash seat names p did v last.swept pool pool' locks locks' seated last.makes records change y fine
      last.over w last.ends.fresh
  pays (stages.Writing w) (stages.Sweeping v) none y fine = absurd none
  pays (stages.Writing w) (stages.Writing w') makes y fine =
      writes_on hash seat names p did w w' pool pool' locks locks' makes records change y fine

-- ---- the access under way

-- a sweep that is over has let its access go
swept_away : (hash : RecordKey → ℕ) (seat : ℕ) (did : Progress FileFault) (pool pool' : PoolState)
    (locks locks' : Table) (change : Change) (o : Option AccessView) (v : Option Work) → IsOver v →
    StepsUnderWay hash seat did o (sweep_access v) pool pool' locks locks' change →
    StepsUnderWay hash seat did o None pool pool' locks locks' change
swept_away hash seat did pool pool' locks locks' change None v over steps = tt
swept_away hash seat did pool pool' locks locks' change (Some a) v over steps = record {
  come = steps.come;
  makes = steps.makes;
  turns_away = steps.turns_away;
  stays = inr (ended v over steps.stays);
}
  where
    ended : (v : Option Work) → IsOver v → (sweep_access v ≡ Some steps.come) ⊎ HasEnded steps.come.operation →
        HasEnded steps.come.operation
    ended v over (inr is) = is
    ended None over (inl is) = absurd cc
    ended (Some w) over (inl is) =
        let same : w.access ≡ steps.come = cc in
        subst (λ (b : AccessView). HasEnded b.operation) same over

module _ (hash : RecordKey → ℕ) (seat : ℕ) (p : Plan) (did : Progress FileFault) (pool pool' : PoolState)
    (locks locks' : Table) (names : List Lock) (records : Records) (change : Change) (fine : is_fault did ≡ false) where
  turned_away : (old new : Stage) → StepsPart hash seat p did old new pool pool' locks locks' →
      IsPaying hash seat names p old records pool locks change →
      StepsUnderWay hash seat did (payment_access old) (payment_access new) pool pool' locks locks' change
  turned_away (stages.Sweeping v) (stages.Sweeping v') (Goes going makes on) y =
      makes.turns_away names y.id y.count y.queue y.system change y.faces fine
  turned_away (stages.Sweeping v) (stages.Sweeping v') (HasFailed over fault same pools tables) y =
      absurd (y.goes_on over)
  turned_away (stages.Sweeping v) (stages.Writing w) last y =
      subst (λ (o : Option AccessView). StepsUnderWay hash seat did (sweep_access v) o pool pool' locks locks' change)
      (sym (ap (λ (x : CallWrites). x.access) last.ends.fresh))
      (swept_away hash seat did pool pool' locks locks' change (sweep_access v) last.swept last.over
      (last.makes.turns_away names y.id y.count y.queue y.system change y.faces fine))
  turned_away (stages.Writing w) (stages.Sweeping v) none y = absurd none
  turned_away (stages.Writing w) (stages.Writing w') makes y = makes.turns_away names records change y.carries fine

-- ---- a step of a part, told at once

pub makes_payment : (hash : RecordKey → ℕ) (seat : ℕ) (p : Plan) (did : Progress FileFault) (old new : Stage)
    (pool pool' : PoolState) (locks locks' : Table) → IsSeat locks seat → IsReady pool →
    StepsPart hash seat p did old new pool pool' locks locks' →
    MakesPayment hash seat p did old new pool pool' locks locks'
makes_payment hash seat p did old new pool pool' locks locks' seated ready part = record {
  part = part;
  writes = only_writes hash seat p did pool pool' locks locks' old new ready part;
  cause = causes hash seat p did pool pool' locks locks' old new part;
  aim = keeps hash seat p did pool pool' locks locks' old new part;
  row = follows hash seat p did pool pool' locks locks' old new part;
  progress = λ names records change paying.
      nears hash seat p did pool pool' locks locks' seated names records change old new part paying;
  step = λ names records change paying fine.
      pays hash seat p did pool pool' locks locks' seated names records change old new part paying fine;
  turns_away = λ names records change paying fine.
      turned_away hash seat p did pool pool' locks locks' names records change fine old new part paying;
}
