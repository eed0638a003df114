-- A step by its parts, told at once: nothing is done, or an access makes its step.
use Rattle.std.proofs.Common.{◌≡◌, sym, ap, ◌∙◌, subst, ℕ, true, false, not, ◌&&◌, Option, Some, None}
use Rattle.record_file.specs.file_pages.declared.fault.FileFault.TheVariants.{Failed}
use Rattle.call_writes.proofs.WriteNames.{FileFault}
use Rattle.std.proofs.lemmas.Bool.{true≢false}
use Rattle.call_writes.proofs.WriteBeginLemmas.{not_ended}
use Rattle.call_writes.specs.declared.writes.CallWrites.{CallWrites}
use Rattle.call_writes.specs.WriteWords.{RecordKey, Plan, PoolState, Table, Progress, Ended, Fault, is_fault, HasEnded, Serves, AccessView, MakesAccess, has_no_room, Deed, Due, Trying, Full}
use Rattle.call_writes.specs.Dues.{next_deed, purpose_of}
use Rattle.call_writes.specs.Views.{IsOver, begun_deed}
use Rattle.call_writes.specs.MakeSteps as parts
use Rattle.call_writes.specs.MakeSteps.{IsNoTrial, IsRefused, IsSetOut, MakesDeed, PaysDue, Settles, TakesStep}

-- the access that makes the step was under way, or has just begun
pub data StartsAs (hash : RecordKey → ℕ) (p : Plan) (old : CallWrites) (a : AccessView) : Type 0 where
  Under : old.access ≡ Some a → StartsAs hash p old a
  Anew : (d : Deed) → old.access ≡ None → next_deed p old.due ≡ Some d → Serves (purpose_of d) (begun_deed hash d) →
      a ≡ begun_deed hash d → StartsAs hash p old a

-- after its step it goes on, or is let go
pub data EndsAs (made did : Progress FileFault) (due' : Due) (a' : AccessView) (new : CallWrites) : Type 0 where
  Goes : (HasEnded a'.operation → is_fault made ≡ true) → did ≡ made →
      new ≡ record { due = due'; access = Some a' } → EndsAs made did due' a' new
  LetsGo : HasEnded a'.operation → a'.written ≡ true → did ≡ made → new ≡ record { due = due'; access = None } →
      EndsAs made did due' a' new
  Fills : (standing : ℕ) → HasEnded a'.operation → has_no_room a' ≡ true → due' ≡ Trying standing → did ≡ made →
      new ≡ record { due = Full standing; access = None } → EndsAs made did due' a' new
  Fails : HasEnded a'.operation → a'.written ≡ false → is_fault made ≡ false → IsNoTrial due' a' →
      did ≡ Fault Failed → new ≡ record { due = due'; access = Some a' } → EndsAs made did due' a' new

pub record Stepping (hash : RecordKey → ℕ) (seat : ℕ) (p : Plan) (did : Progress FileFault) (old new : CallWrites)
    (pool pool' : PoolState) (locks locks' : Table) : Type 0 where
  pub a : AccessView
  pub a' : AccessView
  pub made : Progress FileFault
  pub due' : Due
  pub starts : StartsAs hash p old a
  pub going : HasEnded a.operation → ⊥
  pub step : MakesAccess hash seat made a a' pool pool' locks locks'
  pub pays : PaysDue p (not a.written && a'.written) old.due due'
  pub ends : EndsAs made did due' a' new

-- why nothing was done
pub data IsIdle (p : Plan) (did : Progress FileFault) (old : CallWrites) : Type 0 where
  Refused : (fault : FileFault) → IsRefused p fault old → did ≡ Fault fault → IsIdle p did old
  Over : IsOver p old → did ≡ Ended → IsIdle p did old
  Stuck : (a : AccessView) → old.access ≡ Some a → HasEnded a.operation → did ≡ Fault Failed → IsIdle p did old

pub data IsSorted (hash : RecordKey → ℕ) (seat : ℕ) (p : Plan) (did : Progress FileFault) (old new : CallWrites)
    (pool pool' : PoolState) (locks locks' : Table) : Type 0 where
  Idles : IsIdle p did old → new ≡ old → pool' ≡ pool → locks' ≡ locks →
      IsSorted hash seat p did old new pool pool' locks locks'
  Steps : Stepping hash seat p did old new pool pool' locks locks' →
      IsSorted hash seat p did old new pool pool' locks locks'

some_same : (a b : AccessView) (o : Option AccessView) → o ≡ Some a → o ≡ Some b → b ≡ a
some_same a b None at at' = absurd cc
some_same a b (Some c) at at' = cc

module _ (hash : RecordKey → ℕ) (seat : ℕ) (p : Plan) (did : Progress FileFault) (old new : CallWrites)
    (pool pool' : PoolState) (locks locks' : Table) where
  with_access : (w : CallWrites) (o : Option AccessView) → w.access ≡ o → w ≡ record { due = w.due; access = o }
  with_access w o is = λ i. record { due = w.due; access = is i }

  starts_as : (begun : CallWrites) (a : AccessView) → IsSetOut hash p old begun → begun.access ≡ Some a →
      StartsAs hash p old a
  starts_as begun a (parts.GoesOn b was same) is = Under (ap (λ (w : CallWrites). w.access) (sym same) ∙ is)
  starts_as begun a (parts.Begins d rests next serves same) is =
      Anew d rests next serves
      (some_same (begun_deed hash d) a begun.access (ap (λ (w : CallWrites). w.access) same) is)

  due_kept : (begun : CallWrites) → IsSetOut hash p old begun → begun.due ≡ old.due
  due_kept begun (parts.GoesOn b was same) = ap (λ (w : CallWrites). w.due) same
  due_kept begun (parts.Begins d rests next serves same) = ap (λ (w : CallWrites). w.due) same

  ends_as : (stepped : CallWrites) (made : Progress FileFault) (a' : AccessView) → stepped.access ≡ Some a' →
      Settles made did stepped new → EndsAs made did stepped.due a' new
  ends_as stepped made a' is (parts.Stays same kept ended) =
      Goes (ended a' is) same (kept ∙ with_access stepped (Some a') is)
  ends_as stepped made a' is (parts.LetsGo b was ended fine written same kept) =
      let one : b ≡ a' = some_same a' b stepped.access is was in
      LetsGo (subst (λ (x : AccessView). HasEnded x.operation) one ended)
      (subst (λ (x : AccessView). x.written ≡ true) one written) same kept
  ends_as stepped made a' is (parts.IsFull b standing was ended fine full due same kept) =
      let one : b ≡ a' = some_same a' b stepped.access is was in
      Fills standing (subst (λ (x : AccessView). HasEnded x.operation) one ended)
      (subst (λ (x : AccessView). has_no_room x ≡ true) one full) due same kept
  ends_as stepped made a' is (parts.Fails b was ended fine unwritten untried same kept) =
      let one : b ≡ a' = some_same a' b stepped.access is was in
      Fails (subst (λ (x : AccessView). HasEnded x.operation) one ended)
      (subst (λ (x : AccessView). x.written ≡ false) one unwritten) fine
      (subst (IsNoTrial stepped.due) one untried) same
      (kept ∙ with_access stepped (Some a') is)

  -- ---- held up

  held_on : (begun : CallWrites) (a : AccessView) (made : Progress FileFault) → begun.access ≡ Some a →
      made ≡ Fault Failed → Settles made did begun new → (did ≡ Fault Failed) × (new ≡ begun)
  held_on begun a made is fault (parts.Stays same kept ended) = (same ∙ fault, kept)
  held_on begun a made is fault (parts.LetsGo b was ended fine written same kept) =
      absurd (true≢false (sym (ap is_fault fault) ∙ fine))
  held_on begun a made is fault (parts.IsFull b standing was ended fine full due same kept) =
      absurd (true≢false (sym (ap is_fault fault) ∙ fine))
  held_on begun a made is fault (parts.Fails b was ended fine unwritten untried same kept) =
      absurd (true≢false (sym (ap is_fault fault) ∙ fine))

  stuck : (begun : CallWrites) (a : AccessView) → IsSetOut hash p old begun → begun.access ≡ Some a →
      HasEnded a.operation → did ≡ Fault Failed → new ≡ begun → pool' ≡ pool → locks' ≡ locks →
      IsSorted hash seat p did old new pool pool' locks locks'
  stuck begun a (parts.GoesOn b was same) is ended fault kept pools tables =
      Idles (Stuck a (ap (λ (w : CallWrites). w.access) (sym same) ∙ is) ended fault) (kept ∙ same) pools tables
  stuck begun a (parts.Begins d rests next serves same) is ended fault kept pools tables =
      absurd (not_ended hash d (subst (λ (x : AccessView). HasEnded x.operation)
      (some_same (begun_deed hash d) a begun.access (ap (λ (w : CallWrites). w.access) same) is) ended))

  -- ---- the three parts

  sort_made : (begun stepped : CallWrites) (made : Progress FileFault) → IsSetOut hash p old begun →
      MakesDeed hash seat p made begun stepped pool pool' locks locks' → Settles made did stepped new →
      IsSorted hash seat p did old new pool pool' locks locks'
  sort_made begun stepped made out (parts.Goes s) settles = Steps (record {
    a = s.before;
    a' = s.behind;
    made = made;
    due' = stepped.due;
    starts = starts_as begun s.before out s.was;
    going = s.going;
    step = s.made;
    pays = subst (λ (x : Due). PaysDue p (not s.before.written && s.behind.written) x stepped.due)
        (due_kept begun out) s.due;
    ends = ends_as stepped made s.behind s.is settles;
  })
  sort_made begun stepped made out (parts.HeldUp h) settles =
      let both = held_on stepped h.before made (ap (λ (w : CallWrites). w.access) h.same ∙ h.was) h.fault settles in
      stuck begun h.before out h.was h.ended both.0 (both.1 ∙ h.same) h.pool_same h.locks_same

  pub sorted : TakesStep hash seat p did old new pool pool' locks locks' →
      IsSorted hash seat p did old new pool pool' locks locks'
  sorted (parts.Refuses fault out same pools tables) = Idles (Refused fault out.1 same) out.0 pools tables
  sorted (parts.Rests out same pools tables) = Idles (Over out.1 same) out.0 pools tables
  sorted (parts.Makes begun stepped made out makes settles) = sort_made begun stepped made out makes settles
