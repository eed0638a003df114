-- A step in a sound world carries the plan out further.
use Rattle.std.proofs.Common.{◌≡◌, refl, sym, ap, ◌∙◌, subst, ℕ, ◌+◌, ◌≤◌, Bool, true, false, not, ◌&&◌, List, length, Option, Some, None, if◌then◌else◌, arith, inl, inr, ◌⊎◌}
use Rattle.std.specs.Prelude.{slice_get, option_map}
use Rattle.std.proofs.lemmas.Bool.{true≢false}
use Rattle.std.proofs.lemmas.Option.{slice_get_within}
use Rattle.record_file.proofs.of_step_rules.LockStepLemmas.{KeepsOthers-same}
use Rattle.record_file.specs.step_rules.Known.{AllKnown}
use Rattle.record_file.specs.step_rules.Searching.{WalksTo}
use Rattle.call_writes.proofs.WriteBeginLemmas.{begun_room}
use Rattle.call_writes.proofs.BegunLemmas.{doing_start, owned_start, row_start, sees_start}
use Rattle.call_writes.proofs.CarryLemmas.{IsMade, all_made, neither}
use Rattle.record_file.proofs.OperationLemmas.{ended_free}
use Rattle.call_writes.proofs.WriteNames.{FileFault, Turn}
use Rattle.call_writes.proofs.SortLemmas.{Anew, EndsAs, Fails, Fills, Goes, Idles, IsIdle, IsSorted, LetsGo, Over, Refused, StartsAs, Stepping, Steps, Stuck, Under}
use Rattle.call_writes.proofs.WriteStepLemmas.{full_unwritten, unpaid}
use Rattle.xsi_remove.specs.UnderWay.{StepsAccess, StepsUnderWay}
use Rattle.call_writes.specs.declared.deed.Deed.TheVariants as deeds
use Rattle.call_writes.specs.declared.writes.CallWrites.{CallWrites}
use Rattle.call_writes.specs.WriteWords.{MakesAccess, RecordKey, Record, value_of, Plan, Records, overlaid, Due, Trying, Full, Undoing, Writing, Deed, PoolState, Table, Lock, Change, Store, store_of, pair, IsSeat, Progress, Ended, is_fault, is_write, HasEnded, HasNoRoom, Step, world, AccessView, access_key, access_locks, access_turn, has_no_room}
use Rattle.call_writes.specs.Carrying.{IsCarrying, IsDoing, IsGoingOn, IsUnderWay}
use Rattle.call_writes.specs.CarrySteps.{AsTheyWere, Carries, Leaves, TrialLacksRoom}
use Rattle.call_writes.specs.Dues.{CanGoOn, IsBehind, next_deed, owes}
use Rattle.call_writes.specs.MakeSteps.{PaysDue}
use Rattle.call_writes.specs.Views.{IsOver, facts_under, is_full, is_full_at, set_out, turn_under, writes_facts, writes_locks, writes_turn}

-- ---- deeds and dues

a_trial : (p : Plan) (place : ℕ) (d : Deed) → next_deed p (Trying place) ≡ Some d →
    (r : Record) × (d ≡ deeds.Trial r) × (place ≤ length p.trials)
a_trial p place d next = by (slice_get p.trials place) refl next
  where
    by : (found : Option Record) → slice_get p.trials place ≡ found → option_map deeds.Trial found ≡ Some d →
        (r : Record) × (d ≡ deeds.Trial r) × (place ≤ length p.trials)
    by None at next = absurd cc
    by (Some r) at next =
        let within = slice_get_within p.trials place r at in
        (r, (let same : deeds.Trial r ≡ d = cc in sym same), omega (arith, within))

full_can : (p : Plan) (standing : ℕ) (records : Records) → standing ≤ length p.trials →
    CanGoOn p (Trying standing) records → CanGoOn p (Full standing) records
full_can p standing records few can = record { owed = can.owed; in_range = can.in_range; may = few }

-- that a trial has no room is due after an access only where it was before
never_full : (p : Plan) (due : Due) (standing : ℕ) (b : Bool) → (due ≡ Full standing → ⊥) →
    (IsBehind p due (Full standing) → ⊥) → PaysDue p b due (Full standing) → ⊥
never_full p due standing true other behind pays = behind pays
never_full p due standing false other behind pays = other (sym pays)

not_behind : (p : Plan) (due : Due) (standing : ℕ) → is_full_at due None ≡ false → IsBehind p due (Full standing) → ⊥
not_behind p (Trying place) standing before is = absurd (by _ is)
  where
    by : (b : Bool) → Full standing ≡ (if b then Trying (place + 1) else Trying place) → ⊥
    by true is = absurd cc
    by false is = absurd cc
not_behind p (Full n) standing before is = absurd cc
not_behind p (Undoing n) standing before is = absurd cc
not_behind p (Writing from) standing before (slot, is, rest) = absurd cc

-- where no trial has found no room, none is due to have
open_due : (due : Due) (o : Option AccessView) → is_full_at due o ≡ false → is_full_at due None ≡ false
open_due (Trying place) o before = refl
open_due (Full standing) o before = before
open_due (Undoing standing) o before = refl
open_due (Writing from) o before = refl

module _ (hash : RecordKey → ℕ) (seat : ℕ) (p : Plan) (did : Progress FileFault) (old new : CallWrites)
    (pool pool' : PoolState) (locks locks' : Table) (seated : IsSeat locks seat) (names : List Lock)
    (records : Records) (change : Change) (c : IsCarrying hash seat names p old records pool locks change) where
  start_turn : (a : AccessView) → StartsAs hash p old a → (s : Store) →
      access_turn a s ≡ writes_turn hash p old s
  start_turn a (Under was) s =
      sym (ap (λ (o : Option AccessView). turn_under (set_out hash (next_deed p old.due) o) s) was)
  start_turn a (Anew d rests next serves same) s =
      ap (λ (x : AccessView). access_turn x s) same
      ∙ sym (ap (λ (o : Option AccessView). turn_under (set_out hash (next_deed p old.due) o) s) rests
      ∙ ap (λ (o : Option Deed). turn_under (set_out hash o None) s) next)

  open_start : (a : AccessView) (place : ℕ) → StartsAs hash p old a → old.due ≡ Trying place → is_full old ≡ false →
      has_no_room a ≡ false
  open_start a place (Under was) due before =
      sym (ap (λ (x : Due). is_full_at x old.access) due ∙ ap (is_full_at (Trying place)) was) ∙ before
  open_start a place (Anew d rests next serves same) due before = ap has_no_room same ∙ begun_room hash d

  -- ---- nothing is left to do

  at_rest : IsOver p old →
      Carries {F = FileFault} hash seat names p Ended old old records pool pool locks locks change
  at_rest over = record {
    step = record {
      after = change;
      file = c.sees.file;
      others = KeepsOthers-same hash seat (world pool.images locks change) (world pool.images locks change)
          c.sees.sound refl;
      known = c.sees.known;
      does = refl;
      led = subst (λ (o : Option AccessView). WalksTo {F = FileFault} seat
          (writes_turn hash p old (store_of pool.images)).ask Ended (world pool.images locks change)
          (world pool.images locks change) (facts_under o)) (sym over.rests) tt;
    };
    after = records;
    leaves = AsTheyWere refl;
    still = λ unwritten. refl;
    carries = c;
    owed = λ key. refl;
    full = λ before full. absurd (true≢false (sym full ∙ before));
  }

  idles : IsOver p old → did ≡ Ended → new ≡ old → pool' ≡ pool → locks' ≡ locks →
      Carries hash seat names p did old new records pool pool' locks locks' change
  idles over same kept pools tables =
      subst (λ (x : Progress FileFault). Carries hash seat names p x old new records pool pool' locks locks' change)
      (sym same)
      (subst (λ (w : CallWrites). Carries {F = FileFault} hash seat names p Ended old w records pool pool' locks
      locks' change) (sym kept)
      (subst (λ (x : PoolState). Carries {F = FileFault} hash seat names p Ended old old records pool x locks locks'
      change) (sym pools)
      (subst (λ (t : Table). Carries {F = FileFault} hash seat names p Ended old old records pool pool locks t
      change) (sym tables) (at_rest over))))

  -- ---- the access makes its step

  module _ (s : Stepping hash seat p did old new pool pool' locks locks') (d : Deed)
      (doing : IsDoing hash names p old.due records d s.a) (fine : is_fault s.made ≡ false) where
    m : IsMade hash seat names p s.made s.a s.a' old.due s.due' records pool pool' locks locks' change d
    m = all_made hash seat names s.made s.a s.a' pool pool' locks locks' seated s.step p old.due s.due' s.pays records
        change d c.small c.can doing
        (sees_start hash seat names p old records pool locks change c s.a s.starts) c.bare
        (row_start hash seat names p old records pool locks change c did new pool' locks' s.a s.starts)
        (owned_start hash seat names p old records pool locks change c s.a d doing) c.stands fine

    -- a call of which this is known is after the step
    carries_to : (w : CallWrites) → AllKnown seat (world pool'.images locks' m.step.after) (writes_facts w) →
        WalksTo seat (access_turn s.a (store_of pool.images)).ask s.made (world pool.images locks change)
        (world pool'.images locks' m.step.after) (writes_facts w) →
        access_locks s.a' names ≡ writes_locks w names → Leaves p old.due w.due records m.after →
        CanGoOn p w.due m.after →
        ((key : RecordKey) → overlaid (owes p w.due) m.after key ≡ overlaid (owes p old.due) records key) →
        IsUnderWay hash names p w.due m.after w.access → IsGoingOn w.access →
        (is_full old ≡ false → is_full w ≡ true →
        TrialLacksRoom hash p old.due (world pool'.images locks' change)) →
        Carries hash seat names p s.made old w records pool pool' locks locks' change
    carries_to w known led locks_are leaves can owed under going full = record {
      step = subst (λ (turn : Turn). Step hash seat turn s.made (writes_facts w) pool pool' locks locks' change)
          (start_turn s.a s.starts (store_of pool.images)) (record {
            after = m.step.after;
            file = m.step.file;
            others = m.step.others;
            known = known;
            does = m.step.does;
            led = led;
          });
      after = m.after;
      leaves = leaves;
      still = m.still;
      carries = record {
        small = c.small;
        sees = record { honest = m.sees.honest; file = m.sees.file; sound = m.sees.sound; known = known };
        bare = c.bare;
        row = m.row ∙ locks_are;
        own = c.own;
        stands = m.stands;
        can = can;
        doing = under;
        going = going;
      };
      owed = owed;
      full = full;
    }

    -- ---- it turns to having no room

    unwritten_of : has_no_room s.a' ≡ true → s.a'.written ≡ false
    unwritten_of full = full_unwritten hash seat p did old new pool pool' locks locks' _ s.a'.written full

    was_unwritten : has_no_room s.a' ≡ true → (is_write s.made ≡ false) × (s.a.written ≡ false)
    was_unwritten full =
        neither (is_write s.made) s.a.written s.a'.written s.step.aim.written (unwritten_of full)

    due_same : has_no_room s.a' ≡ true → s.due' ≡ old.due
    due_same full = unpaid hash seat p did old new pool pool' locks locks' s.due' s.a.written s.a'.written
        (unwritten_of full) s.pays

    lacking : (r : Record) → d ≡ deeds.Trial r → has_no_room s.a ≡ false → has_no_room s.a' ≡ true →
        TrialLacksRoom hash p old.due (world pool'.images locks' change)
    lacking r is before full =
        let mine = subst (λ (x : Deed). IsDoing hash names p old.due records x s.a) is doing in
        record {
          entry = r;
          is = mine.next (was_unwritten full).1;
          lacks = subst (λ (k : RecordKey). HasNoRoom hash (pair k (value_of r)) (world pool'.images locks' change))
              mine.serves.key
              (subst (λ (bytes : List ℕ). HasNoRoom hash (pair (access_key s.a) bytes)
              (world pool'.images locks' change)) mine.serves.value (m.lacks before full));
        }

    lacks_at : (place : ℕ) → old.due ≡ Trying place → is_full old ≡ false → has_no_room s.a' ≡ true →
        TrialLacksRoom hash p old.due (world pool'.images locks' change)
    lacks_at place due before full =
        let next : next_deed p (Trying place) ≡ Some d =
        subst (λ (x : Due). next_deed p x ≡ Some d) due (doing.next (was_unwritten full).1) in
        let (r, is, few) = a_trial p place d next in
        lacking r is (open_start s.a place s.starts due before) full

    lacks_by : (due : Due) → s.due' ≡ due → is_full old ≡ false → is_full_at due (Some s.a') ≡ true →
        TrialLacksRoom hash p old.due (world pool'.images locks' change)
    lacks_by (Trying place) is before full = lacks_at place (sym (due_same full) ∙ is) before full
    lacks_by (Full standing) is before full =
        let shut : is_full_at old.due None ≡ false = open_due old.due old.access before in
        absurd (never_full p old.due standing (not s.a.written && s.a'.written)
        (λ same. true≢false (sym (ap (λ (x : Due). is_full_at x None) same) ∙ shut))
        (not_behind p old.due standing shut)
        (subst (PaysDue p (not s.a.written && s.a'.written) old.due) is s.pays))
    lacks_by (Undoing standing) is before full = absurd (true≢false (sym full))
    lacks_by (Writing from) is before full = absurd (true≢false (sym full))

    -- ---- how it ends

    goes_on : (HasEnded s.a'.operation → is_fault s.made ≡ true) →
        Carries hash seat names p s.made old (record { due = s.due'; access = Some s.a' }) records pool pool' locks
        locks' change
    goes_on going = carries_to (record { due = s.due'; access = Some s.a' }) m.step.known m.step.led refl m.left.leaves
        m.left.can m.left.owed (d, m.doing) (λ ended. true≢false (sym (going ended) ∙ fine)) (lacks_by s.due' refl)

    lets_go : s.a'.written ≡ true → access_locks s.a' names ≡ names →
        Carries hash seat names p s.made old (record { due = s.due'; access = None }) records pool pool' locks locks'
        change
    lets_go written locks_are =
        carries_to (record { due = s.due'; access = None }) tt tt locks_are m.left.leaves m.left.can m.left.owed tt tt
        (λ before full. never s.due' refl before full)
      where
        never : (due : Due) → s.due' ≡ due → is_full old ≡ false → is_full_at due None ≡ true →
            TrialLacksRoom hash p old.due (world pool'.images locks' change)
        never (Trying place) is before full = absurd (true≢false (sym full))
        never (Full standing) is before full = lacks_by (Full standing) is before full
        never (Undoing standing) is before full = absurd (true≢false (sym full))
        never (Writing from) is before full = absurd (true≢false (sym full))

    fills : (standing : ℕ) → has_no_room s.a' ≡ true → s.due' ≡ Trying standing → access_locks s.a' names ≡ names →
        Carries hash seat names p s.made old (record { due = Full standing; access = None }) records pool pool' locks
        locks' change
    fills standing full due locks_are =
        let was : old.due ≡ Trying standing = sym (due_same full) ∙ due in
        let next : next_deed p (Trying standing) ≡ Some d =
        subst (λ (x : Due). next_deed p x ≡ Some d) was (doing.next (was_unwritten full).1) in
        let (r, is, few) = a_trial p standing d next in
        carries_to (record { due = Full standing; access = None }) tt tt locks_are
        (AsTheyWere (m.still (was_unwritten full).0))
        (full_can p standing m.after few (subst (λ (x : Due). CanGoOn p x m.after) due m.left.can))
        (λ key. ap (λ (x : Due). overlaid (owes p x) m.after key) (sym due) ∙ m.left.owed key) tt tt
        (λ before again. lacks_at standing was before full)

  kept_on : (made : Progress FileFault) (w : CallWrites) → did ≡ made → new ≡ w →
      Carries hash seat names p made old w records pool pool' locks locks' change →
      Carries hash seat names p did old new records pool pool' locks locks' change
  kept_on made w same kept carries =
      subst (λ (x : Progress FileFault). Carries hash seat names p x old new records pool pool' locks locks' change)
      (sym same)
      (subst (λ (x : CallWrites). Carries hash seat names p made old x records pool pool' locks locks' change)
      (sym kept) carries)

  ends : (s : Stepping hash seat p did old new pool pool' locks locks') (d : Deed) →
      IsDoing hash names p old.due records d s.a → is_fault did ≡ false → EndsAs s.made did s.due' s.a' new →
      Carries hash seat names p did old new records pool pool' locks locks' change
  ends s d doing fine (Goes going same kept) =
      kept_on s.made (record { due = s.due'; access = Some s.a' }) same kept
      (goes_on s d doing (sym (ap is_fault same) ∙ fine) going)
  ends s d doing fine (LetsGo ended written same kept) =
      kept_on s.made (record { due = s.due'; access = None }) same kept
      (lets_go s d doing (sym (ap is_fault same) ∙ fine) written (ended_free s.a'.operation names ended))
  ends s d doing fine (Fills standing ended full due same kept) =
      kept_on s.made (record { due = Full standing; access = None }) same kept
      (fills s d doing (sym (ap is_fault same) ∙ fine) standing full due (ended_free s.a'.operation names ended))
  ends s d doing fine (Fails ended unwritten fine' untried fault kept) =
      absurd (true≢false (sym (ap is_fault fault) ∙ fine))

  at_idle : is_fault did ≡ false → new ≡ old → pool' ≡ pool → locks' ≡ locks → IsIdle p did old →
      Carries hash seat names p did old new records pool pool' locks locks' change
  at_idle fine kept pools tables (Refused fault refused same) = absurd (true≢false (sym (ap is_fault same) ∙ fine))
  at_idle fine kept pools tables (Over over same) = idles over same kept pools tables
  at_idle fine kept pools tables (Stuck a was ended fault) = absurd (true≢false (sym (ap is_fault fault) ∙ fine))

  pub carries : is_fault did ≡ false → IsSorted hash seat p did old new pool pool' locks locks' →
      Carries hash seat names p did old new records pool pool' locks locks' change
  carries fine (Idles why kept pools tables) = at_idle fine kept pools tables why
  carries fine (Steps s) =
      let both = doing_start hash seat names p old records pool locks change c s.a s.starts in
      ends s both.0 both.1 fine s.ends

  -- ---- the access that was under way

  ends_access : (s : Stepping hash seat p did old new pool pool' locks locks') → is_fault did ≡ false →
      EndsAs s.made did s.due' s.a' new →
      (did ≡ s.made) × ((new.access ≡ Some s.a') ⊎ HasEnded s.a'.operation)
  ends_access s fine (Goes going same kept) = (same, inl (ap (λ (w : CallWrites). w.access) kept))
  ends_access s fine (LetsGo ended written same kept) = (same, inr ended)
  ends_access s fine (Fills standing ended full due same kept) = (same, inr ended)
  ends_access s fine (Fails ended unwritten fine' untried fault kept) =
      absurd (true≢false (sym (ap is_fault fault) ∙ fine))

  steps_access : (s : Stepping hash seat p did old new pool pool' locks locks') → is_fault did ≡ false →
      StepsAccess hash seat did s.a new.access pool pool' locks locks' change
  steps_access s fine =
      let both = doing_start hash seat names p old records pool locks change c s.a s.starts in
      let ends = ends_access s fine s.ends in
      record {
        come = s.a';
        makes = subst (λ (x : Progress FileFault). MakesAccess hash seat x s.a s.a' pool pool' locks locks')
            (sym ends.0) s.step;
        turns_away = (m s both.0 both.1 (sym (ap is_fault ends.0) ∙ fine)).turns_away;
        stays = ends.1;
      }

  abbrev StepsFrom : Option AccessView → Type 0
  StepsFrom o = StepsUnderWay hash seat did o new.access pool pool' locks locks' change

  started : (a : AccessView) → StartsAs hash p old a →
      StepsAccess hash seat did a new.access pool pool' locks locks' change → StepsFrom old.access
  started a (Under was) steps = subst StepsFrom (sym was) steps
  started a (Anew d rests next serves same) steps = subst StepsFrom (sym rests) tt

  idle : is_fault did ≡ false → IsIdle p did old → StepsFrom old.access
  idle fine (Refused fault refused same) = absurd (true≢false (sym (ap is_fault same) ∙ fine))
  idle fine (Over over same) = subst StepsFrom (sym over.rests) tt
  idle fine (Stuck a was ended fault) = absurd (true≢false (sym (ap is_fault fault) ∙ fine))

  pub turns_away : is_fault did ≡ false → IsSorted hash seat p did old new pool pool' locks locks' →
      StepsUnderWay hash seat did old.access new.access pool pool' locks locks' change
  turns_away fine (Idles why kept pools tables) = idle fine why
  turns_away fine (Steps s) = started s.a s.starts (steps_access s fine)
