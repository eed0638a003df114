-- A call that can decide makes no step before its Decide, and one that has paid none before it gives a name back.
use Rattle.std.proofs.Common.{◌≡◌, refl, ap, ℕ, true, List, Option, Some, None}
use Rattle.file_pages.specs.declared.fault.FileFault.{FileFault}
use Rattle.step_rules.specs.declared.kind.Kind.TheVariants as kinds
use Rattle.step_rules.specs.declared.progress.Progress.TheVariants as progress
use Rattle.call_writes.specs.MakeSteps.{MakesWrites, Rests}
use Rattle.xsi_calls.specs.NameSteps.{GivesBack}
use Rattle.call_writes.specs.PaymentWords.{is_move}
use Rattle.xsi_calls.specs.Undecided.{CanDecideIn, Trials, its_plan, locks_in}
use Rattle.xsi_calls.specs.UndecidedSteps.{MakesUndecided}
use Rattle.xsi_calls.specs.UndecidedWords.{AreNames, Call, Ended, IsReady, IsSeat, Lock, Plan, PoolState, Progress, QuestionsView, RecordKey, Table, row_of}
use Rattle.call_writes.specs.Views.{IsOver}
use Rattle.call_writes.specs.declared.writes.CallWrites.{CallWrites}
use Rattle.call_writes.proofs.MakesLemmas.{makes_writes}
use Rattle.xsi_calls.proofs.StepLemmas.{rests, tried_with}

-- where nothing is left to do no step is made
pub writes_rest : (hash : RecordKey → ℕ) (seat : ℕ) (p : Plan) (w : CallWrites) (pool : PoolState) (locks : Table) →
    IsSeat locks seat → IsReady pool → IsOver p w → MakesWrites hash seat p Ended w w pool pool locks locks
writes_rest hash seat p w pool locks seated ready over =
    makes_writes hash seat p Ended w w pool pool locks locks seated ready (Rests (refl, over) refl refl refl)

pub can_rest : (hash : RecordKey → ℕ) (seat : ℕ) (call : Call) (q : QuestionsView) (o : Option Trials)
    (pool : PoolState) (locks : Table) → IsSeat locks seat → IsReady pool → AreNames q.names →
    row_of locks seat ≡ locks_in q o → CanDecideIn call q o →
    MakesUndecided hash seat call Ended (record { questions = q; trials = o }) (record { questions = q; trials = o })
    pool pool locks locks
can_rest hash seat call q None pool locks seated ready names row can =
    rests hash seat call q pool locks ready row can.0 can.1
can_rest hash seat call q (Some t) pool locks seated ready names row can =
    tried_with hash seat call q pool locks (its_plan call q) refl t names row Ended t.writes pool locks
    (writes_rest hash seat (its_plan call q) t.writes pool locks seated ready can) seated q.finds refl

-- ---- a name that is given back

pub gave_back : (did : Progress FileFault) (names names' : List Lock) → GivesBack did names names' →
    is_move did ≡ true → did ≡ progress.Moved kinds.Release
gave_back (progress.Moved kind) names names' gives moved = ap progress.Moved gives.0
gave_back (progress.Blocked other) names names' gives moved = absurd gives
gave_back (progress.Fault fault) names names' gives moved = absurd gives
gave_back progress.Ended names names' gives moved = absurd cc
