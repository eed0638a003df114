-- A call that has just begun.
use Rattle.std.proofs.Common.{ℕ, ◌≡◌, ◌≤◌, sym, subst, arith}
use Rattle.xsi_calls.proofs.UndecidedLawLemmas.{begin_right as begins_undecided, few_searches, receive_untried}
use Rattle.xsi_calls.specs.UndecidedLaws.{HaveFewSteps as UndecidedHaveFew}
use Rattle.xsi_calls.specs.Stages.{Stage, Undecided}
use Rattle.xsi_calls.specs.Machine.{CallView, finds_of, left_at}
use Rattle.xsi_calls.specs.Calling.{IsCalling, IsCallingAt}
use Rattle.xsi_calls.specs.Laws.{BeginFewSearches, BeginRight, HaveFewSteps, MOST_CALL_STEPS, ReceiveByThree}
use Rattle.xsi_calls.specs.Words.{Call, Change, IsUndecided, PoolState, RecordKey, Records, State, Table, most_asked}

pub few_steps : UndecidedHaveFew → HaveFewSteps
few_steps few m s new =
    let less = few m.call m.undecided s new.fresh in
    subst (λ (x : Stage). left_at m.call m.undecided x s ≤ MOST_CALL_STEPS) (sym new.stage) (omega (arith, less))

pub begin_right : BeginRight
begin_right hash seat s m records pool locks change new row sees agrees =
    subst (λ (x : Stage). IsCallingAt hash seat m.call s m.undecided x records pool locks change) (sym new.stage)
    (begins_undecided hash seat m.call s m.undecided records pool locks change new.fresh new.knows row sees agrees)

undecided_at : (hash : RecordKey → ℕ) (seat : ℕ) (s : State) (m : CallView) (records : Records) (pool : PoolState)
    (locks : Table) (change : Change) → m.stage ≡ Undecided → IsCalling hash seat s m records pool locks change →
    IsUndecided hash seat m.call s m.undecided records pool locks change
undecided_at hash seat s m records pool locks change at is =
    subst (λ (x : Stage). IsCallingAt hash seat m.call s m.undecided x records pool locks change) at is

pub begin_few : BeginFewSearches
begin_few hash seat s m records pool locks change at untried is =
    few_searches hash seat m.call s m.undecided records pool locks change untried
    (undecided_at hash seat s m records pool locks change at is)

pub receive_few : ReceiveByThree
receive_few hash seat s m records pool locks change a is_receive at is =
    let untried = receive_untried hash seat m.call s m.undecided records pool locks change a is_receive
    (undecided_at hash seat s m records pool locks change at is) in
    subst (λ (x : Call). finds_of m ≤ most_asked x) is_receive
    (begin_few hash seat s m records pool locks change at untried is)
