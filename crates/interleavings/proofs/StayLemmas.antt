-- A call that has come so far by its own steps is kept apart from what others decide.
use Rattle.std.proofs.Common.{ℕ, Option, Some, None}
use Rattle.xsi_calls.specs.Knowing.{IsUndecidedIn}
use Rattle.interleavings.specs.SeatWords.{Call, Change, PoolState, QuestionsView, RecordKey, Records, State, Table, Trials}
use Rattle.interleavings.specs.Apart.{IsKeptApart}
use Rattle.interleavings.specs.DecisionLaws.{BehindApart, StaysApart, StepsApart}
use Rattle.interleavings.proofs.HoldLemmas.{try_apart}

pub behind_apart : BehindApart
behind_apart hash seat call s q None records pool locks change is = is.right.apart
behind_apart hash seat call s q (Some t) records pool locks change is =
    try_apart hash seat call s q t records pool locks change is

pub steps_apart : StepsApart
steps_apart hash seat call s did old new records pool pool' locks locks' change goes =
    behind_apart hash seat call s new.questions new.trials goes.after pool' locks' goes.step.after goes.behind

in_part : (hash : RecordKey → ℕ) (seat : ℕ) (call : Call) (s : State) (q : QuestionsView) (t : Option Trials)
    (records : Records) (pool : PoolState) (locks : Table) (change : Change) →
    IsUndecidedIn hash seat call s q t records pool locks change → IsKeptApart call q
in_part hash seat call s q None records pool locks change is = is.faces.right.apart
in_part hash seat call s q (Some t) records pool locks change is =
    try_apart hash seat call s q t records pool locks change is

pub stays_apart : StaysApart
stays_apart hash seat call s u records pool locks change is =
    in_part hash seat call s u.questions u.trials records pool locks change is
