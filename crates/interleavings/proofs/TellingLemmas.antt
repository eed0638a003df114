-- What a seat is told of an event that waits or is blocked, beside the journal as it then stands.
use Rattle.std.proofs.Common.{ℕ, zero, suc, ◌≡◌, ◌≢◌, inl, inr, refl, sym, ap, ◌∙◌, subst, Bool, true, false, true≢false, IsSome, List, [], ◌∷◌, Option, Some, None, drop, option_map, take}
use Rattle.std.proofs.lemmas.Option.{none-some, same_Some}
use Rattle.std.specs.Prelude.{slice_get}
use Rattle.page_locks.specs.Locks.{is_against, kind_of}
use Rattle.page_locks.specs.Table.{Opposes, held}
use Rattle.page_locks.specs.declared.lock.Lock.{Lock}
use Rattle.page_locks.specs.declared.lock.LockKind.{LockKind}
use Rattle.page_locks.specs.declared.lock.LockName.{LockName}
use Rattle.step_rules.specs.Turns.{Ask, ForAnswer, ForEntry, ForLock, ForPage, HopFrom, StandsInWay, ToExclusive}
use Rattle.step_rules.specs.World.{World}
use Rattle.interleaving_core.specs.Kernel.{locks_of as locks_at_seat}
use Rattle.interleavings.specs.Together.{locks_of}
use Rattle.queue_model.proofs.JournalLemmas.{after-LeadsAlong}
use Rattle.interleavings.proofs.WakeLemmas.{waits_along}
use Rattle.interleaving_core.proofs.RunLemmas.{others_stay}
use Rattle.interleaving_core.specs.Owing.{IsUnwoken, failed, told_of_failure}
use Rattle.interleaving_core.specs.Words.{row_of}
use Rattle.interleaving_core.specs.declared.step.Step.TheVariants as told
use Rattle.interleaving_core.specs.xsi_calls.Words.{world}
use Rattle.interleavings.specs.Words.{ActiveView, Call, Caller, IsDriven, IsSeat, IsStep, IsTurn, KernelState, Moves, RecordKey, State, Step, Table, after, call_at, call_of, caller_at, outcome, outcome_for}
use Rattle.interleavings.specs.Doing.{DoesBy, turn_of}
use Rattle.interleavings.specs.Laws.{StepsRefine, StepsRefineAndDo}
use Rattle.interleavings.specs.Moments.{outcome_at}
use Rattle.interleavings.specs.Outcomes.{unless_over}
use Rattle.interleavings.specs.Refining.{Refines}
use Rattle.interleavings.specs.Runs.{Happens, Runs}
use Rattle.interleavings.specs.declared.event.Event.{Event}
use Rattle.interleavings.specs.declared.event.Outcome.{Outcome}
use Rattle.interleavings.proofs.ScheduleLemmas.{moves_led}
use Rattle.interleavings.proofs.UnderWayLemmas.{call_on, drive_leaves, moves_fail_not, turn_leaves}
use Rattle.interleavings.proofs.WaitingLemmas.{AreFounded, founded_there}

-- ---- an event among others

-- those before it, itself, and those behind it
pub record HasEvent {K : Type 0} (hash : RecordKey → ℕ) (many : ℕ) (es : List Event) (os : List Outcome) (e : Event)
    (o : Outcome) (old new : KernelState K) : Type 0 where
  pub before : KernelState K
  pub behind : KernelState K
  pub first : Runs hash (take many es) (take many os) old before
  pub happens : Happens hash e o before behind
  pub through : Runs hash (take (suc many) es) (take (suc many) os) old behind
  pub rest : Runs hash (drop (suc many) es) (drop (suc many) os) behind new

pub event_at : {K : Type 0} (hash : RecordKey → ℕ) (many : ℕ) (es : List Event) (os : List Outcome) (e : Event)
    (o : Outcome) (old new : KernelState K) → Runs hash es os old new → slice_get es many ≡ Some e →
    slice_get os many ≡ Some o → HasEvent hash many es os e o old new
event_at hash many [] os e o old new runs is_e is_o = absurd (none-some e is_e)
event_at hash many (x ∷ es) [] e o old new never is_e is_o = absurd never
event_at hash zero (x ∷ es) (y ∷ os) e o old new runs is_e is_o = record {
  before = old;
  behind = runs.between;
  first = refl;
  happens = subst (λ (f : Event). Happens hash f o old runs.between) (same_Some x e is_e)
      (subst (λ (p : Outcome). Happens hash x p old runs.between) (same_Some y o is_o) runs.first);
  through = record { between = runs.between; first = runs.first; rest = refl };
  rest = runs.rest;
}
event_at hash (suc n) (x ∷ es) (y ∷ os) e o old new runs is_e is_o =
    let at = event_at hash n es os e o runs.between new runs.rest is_e is_o in
    record {
      before = at.before;
      behind = at.behind;
      first = record { between = runs.between; first = runs.first; rest = at.first };
      happens = at.happens;
      through = record { between = runs.between; first = runs.first; rest = at.through };
      rest = at.rest;
    }

-- ---- it waits

module _ {K : Type 0} (hash : RecordKey → ℕ) (base : State) (seat : ℕ) (old new : KernelState K)
    (led : Refines hash base new) (founded : AreFounded base new) (callers : List Caller)
    (same : new.callers ≡ callers) where
  abbrev Waits : Option Call → Type 0
  Waits at = outcome_at (caller_at callers seat) at (after callers new.journal base) ≡ None

  has_to_wait : (at : Option Call) → call_on seat new ≡ at → IsUnwoken seat new → Waits at
  has_to_wait at is waits =
      let a = waits.active in
      let is_founded = founded_there base new seat a waits.there (founded seat) in
      subst (λ (cs : List Caller). outcome_at (caller_at cs seat) at (after cs new.journal base) ≡ None) same
      (ap (λ (c : Option Call). outcome_at (caller_at new.callers seat) c (after new.callers new.journal base))
      (sym is ∙ ap call_of waits.there)
      ∙ ap (λ (c : Option Caller). outcome_for c a.machine.call (after new.callers new.journal base))
      (led.sits seat a waits.there)
      ∙ ap (outcome a.machine.caller a.machine.call) (after-LeadsAlong new.callers new.journal base led.now led.leads)
      ∙ waits_along new.callers a.machine.caller a.machine.call a.decided new.journal base led.now led.leads
      waits.unwoken (is_founded.put_off (inr (subst IsSome (sym waits.looked) refl))))

  pub step_waits : (did : Step) → did ≡ told.Waiting → IsStep hash seat did old new → Waits (call_on seat old)
  step_waits did is step = has_to_wait (call_on seat old)
      (turn_leaves hash seat old told.Waiting new (subst (λ (d : Step). IsTurn seat d old new) is step.turn) false refl)
      (step.turn.waits is)

  pub drive_waits : (did : Step) → did ≡ told.Waiting → IsDriven hash seat did old new → Waits (call_on seat old)
  drive_waits did is driven = elim driven.ends [
    | inl rests ↦ has_to_wait (call_on seat old)
        (drive_leaves hash seat did old new driven ∙ ap (λ (d : Step). unless_over d (call_on seat old)) is)
        (rests.step.turn.waits is)
    | inr spent ↦ absurd (apart (sym is ∙ spent.told))
  ]
    where
      apart : told.Waiting ≡ failed → ⊥
      apart clash = cc

-- ---- it is blocked

-- whoever stands in the way holds a lock
pub record HoldsSome (seat other : ℕ) (t : Table) : Type 0 where
  pub another : other ≢ seat
  pub some : row_of t other ≡ [] → ⊥

module _ (seat other : ℕ) (w : World) where
  opposes_by : (name : LockName) (kind : LockKind) → Opposes w.locks seat name kind other →
      HoldsSome seat other w.locks
  opposes_by name kind opposes = record {
    another = opposes.another;
    some = λ none.
        let free : is_against kind (held w.locks other name) ≡ false =
        ap (λ (row : List Lock). is_against kind (kind_of row name)) none in
        true≢false (sym opposes.against ∙ free);
  }

  pub stands_by : (ask : Option Ask) → StandsInWay ask seat other w → HoldsSome seat other w.locks
  stands_by None stands = absurd stands
  stands_by (Some (ForLock name kind)) stands = opposes_by name kind stands
  stands_by (Some (ForEntry depth k)) stands = absurd stands
  stands_by (Some (ForPage page k kind)) stands = opposes_by _ kind stands
  stands_by (Some (ForAnswer page k)) stands = absurd stands
  stands_by (Some (HopFrom page k)) stands = opposes_by _ stands.kind stands.opposes
  stands_by (Some ToExclusive) stands = opposes_by _ _ stands

-- no step has failed, and another seat has a call there that holds a lock
pub record StandsThere {K : Type 0} (seat other : ℕ) (k : KernelState K) : Type 0 where
  pub sound : k.failed ≡ false
  pub another : other ≢ seat
  pub there : IsSome (call_on other k)
  pub holds : locks_at_seat (call_at k.seats other) ≡ [] → ⊥

module _ {K : Type 0} (does : StepsRefineAndDo K) (hash : RecordKey → ℕ) (base : State) (seat other : ℕ) where
  holder_there : (old : KernelState K) → Refines hash base old → old.failed ≡ false →
      HoldsSome seat other old.locks → StandsThere seat other old
  holder_there old led sound holds = record {
    sound = sound;
    another = holds.another;
    there = by (call_at old.seats other) refl;
    holds = λ free. holds.some ((led.together sound).calls.rows other ∙ as_kept (call_at old.seats other) ∙ free);
  }
    where
      as_kept : (at : Option ActiveView) →
          locks_of (option_map (λ (a : ActiveView). a.machine) at) ≡ locks_at_seat at
      as_kept None = refl
      as_kept (Some a) = refl

      by : (at : Option ActiveView) → call_at old.seats other ≡ at → IsSome (call_on other old)
      by None none = absurd (holds.some ((led.together sound).calls.rows other
          ∙ ap (λ (o : Option ActiveView). locks_of (option_map (λ (a : ActiveView). a.machine) o)) none))
      by (Some a) there = subst (λ (o : Option ActiveView). IsSome (call_of o)) (sym there) refl

  pub step_blocked : (did : Step) (old new : KernelState K) → did ≡ told.Blocked other → Refines hash base old →
      IsStep hash seat did old new → StandsThere seat other old
  step_blocked did old new is led step = by old.failed refl (call_at old.seats seat) refl
    where
      failure_apart : (at : Option ActiveView) → told_of_failure at ≡ told.Blocked other → ⊥
      failure_apart None clash = cc
      failure_apart (Some a) clash = cc

      idle_apart : told.Idle ≡ told.Blocked other → ⊥
      idle_apart clash = cc

      by : (b : Bool) → old.failed ≡ b → (at : Option ActiveView) → call_at old.seats seat ≡ at →
          StandsThere seat other old
      by true broken at there =
          absurd (failure_apart (call_at old.seats seat) (sym (step.turn.fails broken) ∙ is))
      by false sound None none = absurd (idle_apart (sym (step.turn.idle.1 none) ∙ is))
      by false sound (Some a) there =
          let leads = does hash base seat a did old new led there sound step in
          let phase = (led.together sound).calls.change in
          let blocked = subst (λ (d : Step). DoesBy hash base seat leads.does.by d phase leads.behind old new) is
          leads.does.does in
          holder_there old led sound (stands_by seat other (world old.pool.images old.locks phase)
          (turn_of hash leads.does.by old).ask blocked.stands)

  -- other seats are left by a drive as they were
  other_moved : (old : KernelState K) → other ≢ seat → (n : ℕ) (now : KernelState K) → Moves hash seat n old now →
      call_at now.seats other ≡ call_at old.seats other
  other_moved old apart zero now same = ap (λ (k : KernelState K). call_at k.seats other) same
  other_moved old apart (suc n) now moved =
      others_stay seat other _ moved.before now moved.step.turn.run apart
      ∙ other_moved old apart n moved.before moved.stands

  pub drive_blocked : StepsRefine K → (did : Step) (old new : KernelState K) → did ≡ told.Blocked other →
      IsSeat old.locks seat → Refines hash base old → IsDriven hash seat did old new → StandsThere seat other old
  drive_blocked steps did old new is seated led driven = elim driven.ends [
    | inl rests ↦
        let so_far = moves_led steps hash base seat old seated led driven.moves driven.before driven.moved in
        let blocked = step_blocked did driven.before new is so_far.0 rests.step in
        let same = other_moved old blocked.another driven.moves driven.before driven.moved in
        record {
          sound = sym (moves_fail_not hash seat old driven.moves driven.before driven.moved) ∙ blocked.sound;
          another = blocked.another;
          there = subst (λ (at : Option ActiveView). IsSome (call_of at)) same blocked.there;
          holds = λ free. blocked.holds (ap locks_at_seat same ∙ free);
        }
    | inr spent ↦ absurd (apart (sym spent.told ∙ is))
  ]
    where
      apart : failed ≡ told.Blocked other → ⊥
      apart clash = cc
