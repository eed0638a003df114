-- The names that a call holds are its own at each of its places, and it has few steps left there.
use Rattle.std.proofs.Common.{ℕ, ◌≤◌, length, subst, arith}
use Rattle.xsi_calls.proofs.PaymentFewLemmas.{few_paying}
use Rattle.xsi_calls.proofs.UndecidedFewLemmas.{few_undecided, undecided_names, undecided_names_in}
use Rattle.xsi_calls.proofs.Names.{in_order}
use Rattle.xsi_calls.specs.Stages.{Stage, Undecided, Paying, Releasing}
use Rattle.xsi_calls.specs.Machine.{left_at}
use Rattle.xsi_calls.specs.Calling.{IsCallingAt}
use Rattle.xsi_calls.specs.Laws.{HaveFewStepsLeft, HoldTheirNames, MOST_STEPS_LEFT, NameWhatIsThere}
use Rattle.xsi_calls.specs.Words.{AreNamesOf, Call, Change, MAX_NAMES, PoolState, RecordKey, Records, State, Table, UndecidedCall, its_plan, store_of}

module _ (hash : RecordKey → ℕ) (seat : ℕ) (call : Call) (s : State) (u : UndecidedCall) (records : Records)
    (pool : PoolState) (locks : Table) (change : Change) where
  names_at : (stage : Stage) → IsCallingAt hash seat call s u stage records pool locks change →
      AreNamesOf call u.questions.names
  names_at Undecided is = undecided_names hash seat call s u records pool locks change is
  names_at (Paying payment conclusion) is = is.names
  names_at (Releasing conclusion) is = is.names

  few_names : (stage : Stage) → IsCallingAt hash seat call s u stage records pool locks change →
      length u.questions.names ≤ MAX_NAMES
  few_names stage is = (in_order call u.questions.names (names_at stage is)).few

  few_at : (stage : Stage) → IsCallingAt hash seat call s u stage records pool locks change →
      left_at call u stage (store_of pool.images) ≤ MOST_STEPS_LEFT
  few_at Undecided is =
      let few = few_undecided hash seat call s u records pool locks change is in omega (arith, few)
  few_at (Paying payment conclusion) is =
      let few = few_paying hash seat pool locks change u.questions.names (its_plan call u.questions) payment records
      is.pays in
      let names = few_names (Paying payment conclusion) is in
      omega (arith, few, names)
  few_at (Releasing conclusion) is = let names = few_names (Releasing conclusion) is in omega (arith, names)

pub hold_their_names : HoldTheirNames
hold_their_names hash seat s m records pool locks change is =
    names_at hash seat m.call s m.undecided records pool locks change m.stage is

pub name_what_is_there : NameWhatIsThere
name_what_is_there hash seat s m records pool locks change undecided is =
    undecided_names_in hash seat m.call s m.undecided records pool locks change
    (subst (λ (stage : Stage). IsCallingAt hash seat m.call s m.undecided stage records pool locks change) undecided is)

pub have_few_left : HaveFewStepsLeft
have_few_left hash seat s m records pool locks change is =
    few_at hash seat m.call s m.undecided records pool locks change m.stage is
