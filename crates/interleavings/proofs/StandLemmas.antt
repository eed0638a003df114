-- The records of the file after a step of a call.
use Rattle.std.proofs.Common.{ℕ, ◌≡◌, refl, sym, ap, ◌∙◌, subst, Bool, true, false, List, Option, Some, None, IsSome}
use Rattle.std.proofs.lemmas.Bool.{true≢false}
use Rattle.hash_file.specs.Kept.{KeepsContents}
use Rattle.page_locks.specs.Table.{held}
use Rattle.page_locks.specs.declared.lock.LockKind.{LockKind}
use Rattle.step_rules.proofs.KindLemmas.{kind_keeps_contents}
use Rattle.step_rules.proofs.TurnLemmas.{is_of_its_kind}
use Rattle.step_rules.specs.Sound.{IsSoundWorld}
use Rattle.step_rules.specs.Turns.{TurnsAt}
use Rattle.step_rules.specs.declared.kind.Kind.TheVariants.{WriteRecord}
use Rattle.hash_file.specs.Chain.{contents}
use Rattle.xsi_calls.proofs.Below.{wrote_not, wrote_of}
use Rattle.xsi_calls.specs.call_writes.PaymentStages.{Sweeping, Writing}
use Rattle.xsi_calls.specs.CallSteps.{GoesOnAt, StepsCall}
use Rattle.xsi_calls.specs.Machine.{IsReading, call_turn}
use Rattle.xsi_calls.specs.Words.{Ended, Exclusive, Fault, IsBehind, IsPaying, Lock, Moved, Plan, QuestionsView, Turn, World, guard_of, is_write, its_plan, kind_of, world}
use Rattle.xsi_calls.specs.call_writes.PaymentStages.{Stage as PaymentStage}
use Rattle.xsi_calls.specs.Undecided.{Trials}
use Rattle.xsi_calls.specs.Undecided.{UndecidedCall}
use Rattle.xsi_calls.specs.Stages.{Stage, Undecided, Paying, Releasing}
use Rattle.interleavings.specs.LoneCallWords.{Blocked, Call, CallView, Change, FileFault, PoolState, Progress, RecordKey, Records, StandsAt, State, Table, call_locks, is_fault, row_of, store_of}
use Rattle.interleavings.proofs.SeesLemmas.{names_aside}

-- ---- a step that writes no record

pub keeps_contents : (hash : RecordKey → ℕ) (seat : ℕ) (turn : Turn) (did : Progress FileFault) (old new : World) →
    IsSoundWorld hash old → is_fault did ≡ false → is_write did ≡ false → TurnsAt hash turn did seat old new →
    KeepsContents old.store new.store
keeps_contents hash seat turn (Moved kind) old new sound fine reads does =
    kind_keeps_contents kind hash seat old new sound
    (λ same. wrote_not (Moved kind) reads (ap Moved same))
    (is_of_its_kind hash seat old new turn kind does)
keeps_contents hash seat turn (Blocked other) old new sound fine reads does =
    λ key. ap (λ (w : World). contents w.store key) does.1
keeps_contents hash seat turn (Fault fault) old new sound fine reads does = absurd cc
keeps_contents hash seat turn Ended old new sound fine reads does =
    λ key. ap (λ (w : World). contents w.store key) does

-- ---- a WriteRecord

-- it changes no lock
same_locks : (hash : RecordKey → ℕ) (seat : ℕ) (turn : Turn) (old new : World) →
    TurnsAt {F = FileFault} hash turn (Moved WriteRecord) seat old new → new.locks ≡ old.locks
same_locks hash seat turn old new does =
    ap (λ (w : World). w.locks) (is_of_its_kind hash seat old new turn WriteRecord does).is

-- a call that tries or pays is told what stands under its names
abbrev StandUnder : List Lock → Records → PoolState → Type 0
StandUnder names records pool = (key : RecordKey) → IsSome (kind_of names (guard_of key)) →
    StandsAt (store_of pool.images) key (records key)

tries_told : (hash : RecordKey → ℕ) (seat : ℕ) (call : Call) (s : State) (q : QuestionsView) (o : Option Trials)
    (records : Records) (pool : PoolState) (locks : Table) (change : Change) → (IsReading o Undecided → ⊥) →
    IsBehind hash seat call s q o records pool locks change → StandUnder q.names records pool
tries_told hash seat call s q None records pool locks change not on = absurd (not tt)
tries_told hash seat call s q (Some t) records pool locks change not on = on.carries.stands

pays_told : (hash : RecordKey → ℕ) (seat : ℕ) (names : List Lock) (p : Plan) (v : PaymentStage) (records : Records)
    (pool : PoolState) (locks : Table) (change : Change) → IsPaying hash seat names p v records pool locks change →
    StandUnder names records pool
pays_told hash seat names p (Sweeping v) records pool locks change on = on.stands
pays_told hash seat names p (Writing w) records pool locks change on = on.carries.stands

told : (hash : RecordKey → ℕ) (seat : ℕ) (call : Call) (s : State) (u : UndecidedCall) (stage : Stage)
    (records : Records) (pool : PoolState) (locks : Table) (change : Change) → (IsReading u.trials stage → ⊥) →
    GoesOnAt hash seat call s u stage records pool locks change → StandUnder u.questions.names records pool
told hash seat call s u Undecided records pool locks change not on =
    tries_told hash seat call s u.questions u.trials records pool locks change not on
told hash seat call s u (Paying v conclusion) records pool locks change not on =
    pays_told hash seat u.questions.names (its_plan call u.questions) v records pool locks change on.pays
told hash seat call s u (Releasing conclusion) records pool locks change not on = absurd (not tt)

-- ---- a step

not_some : {o : Option LockKind} → o ≡ None → o ≡ Some Exclusive → ⊥
not_some none some = let clash = sym none ∙ some in cc

-- where all records stand in the file, those do that the step leaves
module _ (hash : RecordKey → ℕ) (seat : ℕ) (s : State) (did : Progress FileFault) (old new : CallView)
    (records : Records) (pool pool' : PoolState) (locks locks' : Table) (change : Change)
    (sound : IsSoundWorld hash (world pool.images locks change)) (fine : is_fault did ≡ false)
    (step : StepsCall hash seat s did old new records pool pool' locks locks' change)
    (stands : (key : RecordKey) → StandsAt (store_of pool.images) key (records key))
    (row : row_of locks' seat ≡ call_locks new) where
  abbrev names : List Lock
  names = new.undecided.questions.names

  abbrev turn : Turn
  turn = call_turn hash old (store_of pool.images)

  abbrev before : World
  before = world pool.images locks change

  abbrev behind : World
  behind = world pool'.images locks' step.step.after

  -- what the file holds stands where it stood
  stands_still : (key : RecordKey) → contents behind.store key ≡ contents before.store key →
      StandsAt (store_of pool'.images) key (records key)
  stands_still key same = record { holds = same ∙ (stands key).holds; spelled = (stands key).spelled }

  read : is_write did ≡ false → (key : RecordKey) → StandsAt (store_of pool'.images) key (step.after key)
  read reads key = subst (λ (rs : Records). StandsAt (store_of pool'.images) key (rs key)) (sym (step.still reads))
      (stands_still key (keeps_contents hash seat turn did before behind sound fine reads step.step.does key))

  module _ (writes : is_write did ≡ true) where
    locks_stay : locks' ≡ locks
    locks_stay = same_locks hash seat turn before behind
        (subst (λ (d : Progress FileFault). TurnsAt hash turn d seat before behind) (wrote_of did writes)
        step.step.does)

    -- its seat holds exactly its names, and behind them locks of the file
    held_so : (key : RecordKey) → held locks seat (guard_of key) ≡ kind_of names (guard_of key)
    held_so key = ap (λ (t : Table). held t seat (guard_of key)) (sym locks_stay)
        ∙ ap (λ (ls : List Lock). kind_of ls (guard_of key)) row ∙ names_aside new.undecided new.stage key

    wrote : (key : RecordKey) → StandsAt (store_of pool'.images) key (step.after key)
    wrote key = by (kind_of names (guard_of key)) refl
      where
        by : (o : Option LockKind) → kind_of names (guard_of key) ≡ o →
            StandsAt (store_of pool'.images) key (step.after key)
        by (Some kind) is = told hash seat new.call s new.undecided new.stage step.after pool' locks' step.step.after
            (λ reading. true≢false (sym writes ∙ step.reads reading)) step.behind key (subst IsSome (sym is) refl)
        by None is = subst (StandsAt (store_of pool'.images) key) (sym (step.elsewhere key (not_some is)))
            (stands_still key (step.step.others.leaves.records key (not_some (held_so key ∙ is))))

  pub all_stand : (key : RecordKey) → StandsAt (store_of pool'.images) key (step.after key)
  all_stand key = by (is_write did) refl
    where
      by : (b : Bool) → is_write did ≡ b → StandsAt (store_of pool'.images) key (step.after key)
      by true writes = wrote writes key
      by false reads = read reads key
