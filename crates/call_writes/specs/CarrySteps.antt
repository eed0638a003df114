-- What a step of a call that writes does. docs/STEPS.md, "Calls".
use Rattle.std.specs.Prelude.{ℕ, ◌≡◌, ◌↔◌, true, false, List, Some}
use Rattle.call_writes.specs.declared.writes.CallWrites.{CallWrites}
use Rattle.call_writes.specs.declared.deed.Deed.TheVariants as deeds
use Rattle.call_writes.specs.WriteWords.{RecordKey, Record, key_of, value_of, Plan, Records, overlaid, PoolState, Table, Lock, Change, store_of, pair, Progress, Moved, Ended, WriteRecord, HasNoRoom, Step, World, world, is_write, Deed, Due, Trying, Full}
use Rattle.call_writes.specs.Dues.{IsBehind, after_deed, next_deed, owes}
use Rattle.call_writes.specs.Views.{IsOver, is_full, writes_facts, writes_turn}
use Rattle.call_writes.specs.Carrying.{IsCarrying}

-- ---- whatever the device gives

-- what is due stays, or a trial has no room, or a WriteRecord has paid for the deed
pub data Advances {F : Type 0} (p : Plan) (did : Progress F) (due due' : Due) : Type 0 where
  Stays : due' ≡ due → Advances p did due due'
  FindsNoRoom : (standing : ℕ) → due ≡ Trying standing → due' ≡ Full standing → Advances p did due due'
  IsPaid : did ≡ Moved WriteRecord → IsBehind p due due' → Advances p did due due'

pub record KeepsPlan {F : Type 0} (p : Plan) (did : Progress F) (old new : CallWrites) : Type 0 where
  -- it has ended exactly where nothing is left to do, and stays so
  pub ended : (did ≡ Ended) ↔ IsOver p old
  pub rests : did ≡ Ended → new ≡ old
  pub due : Advances p did old.due new.due

-- ---- on an honest device, in a sound world

-- the records after a step: a WriteRecord makes of them what its deed says, and nothing else changes them
pub data Leaves (p : Plan) (due due' : Due) (records after : Records) : Type 0 where
  AsTheyWere : after ≡ records → Leaves p due due' records after
  AsMade : (d : Deed) → next_deed p due ≡ Some d → after ≡ after_deed d records → IsBehind p due due' →
      Leaves p due due' records after

-- a trial that is due has no room
pub record TrialLacksRoom (hash : RecordKey → ℕ) (p : Plan) (due : Due) (w : World) : Type 0 where
  pub entry : Record
  pub is : next_deed p due ≡ Some (deeds.Trial entry)
  pub lacks : HasNoRoom hash (pair (key_of entry) (value_of entry)) w

-- a step of the rules, behind which the plan is carried out further, and what will stand once nothing is owed is the
-- same
pub record Carries {F : Type 0} (hash : RecordKey → ℕ) (seat : ℕ) (names : List Lock) (p : Plan) (did : Progress F)
    (old new : CallWrites) (records : Records) (pool pool' : PoolState) (locks locks' : Table) (change : Change)
    : Type 0 where
  pub step : Step hash seat (writes_turn hash p old (store_of pool.images)) did (writes_facts new) pool pool' locks
      locks' change
  pub after : Records
  pub leaves : Leaves p old.due new.due records after
  pub still : is_write did ≡ false → after ≡ records
  pub carries : IsCarrying hash seat names p new after pool' locks' step.after
  pub owed : (key : RecordKey) →
      overlaid (owes p new.due) after key ≡ overlaid (owes p old.due) records key
  pub full : is_full old ≡ false → is_full new ≡ true →
      TrialLacksRoom hash p old.due (world pool'.images locks' change)
