-- An access of the one seat, from its beginning to its end, on an honest device.
use Rattle.std.proofs.Common.{◌≡◌, ◌≢◌, ◌≤◌, ℕ, Bool, true, false, IsTrue, List, [], ◌∷◌, length, if◌then◌else◌, Option, Some, None, refl, sym, ap, subst, ◌∙◌}
use Rattle.std.specs.Option.{option_map}
use Rattle.std.proofs.lemmas.Bool.{true≢false}
use Rattle.bucket_page.specs.Keys.{is_same}
use Rattle.bucket_page.specs.Records.{pair}
use Rattle.bucket_page.specs.declared.record_key.RecordKey.{RecordKey}
use Rattle.bucket_page.proofs.KeyLaws.{same_is}
use Rattle.buffer_pool.specs.Pool.{PoolState}
use Rattle.file_pages.specs.Files.{store_of}
use Rattle.file_pages.specs.declared.fault.FileFault.{FileFault}
use Rattle.hash_file.specs.Chain.{contents}
use Rattle.hash_file.specs.Change.{Change, Quiet}
use Rattle.hash_file.specs.Sound.{IsSoundFile}
use Rattle.hash_file.specs.Store.{Store}
use Rattle.page_locks.specs.Locks.{kind_of}
use Rattle.page_locks.specs.Table.{IsLawful, Table, row_of}
use Rattle.page_locks.specs.declared.lock.LockKind.TheVariants.{Exclusive}
use Rattle.queue_records.specs.Keys.{guard_of}
use Rattle.queue_records.specs.Spelling.{key_of, value_of}
use Rattle.queue_records.specs.declared.record.Record.{Record}
use Rattle.record_file.specs.AccessSteps.{Faces, MakesAccess, TellsOf}
use Rattle.record_file.specs.AccessWords.{Blocked, HasNoRoom, Known, NearsOrSpares, Progress, Step, is_fault, world}
use Rattle.record_file.specs.Accesses.{AccessView, Allows, AllowsInsert, Serves, access_facts, access_key, access_left, access_locks, access_turn, has_no_room}
use Rattle.record_file.specs.Lengths.{MOST_STEPS}
use Rattle.record_file.specs.Purposes.{Purpose, ToInsert, StandsAt, aimed_at, left_by}
use Rattle.record_file.proofs.LengthLemmas.{has_few_steps}
use Rattle.record_file.proofs.OperationLemmas.{others_hold, owns_any}
use Rattle.step_rules.specs.Known.{AllKnown}
use Rattle.step_rules.specs.Turns.{TurnsAt}
use Rattle.lone_access.specs.Alone.{lock_on}
use Rattle.lone_access.specs.OneAccess.{HoldsElse, IsBegun, IsLeft, IsUnderWay, Lacked}
use Rattle.lone_access.proofs.AloneLemmas.{bare_lock, no_writer, not_in_way, owns_lock, quiet_world}

pub not_same : (a b : RecordKey) → a ≢ b → is_same a b ≡ false
not_same a b other = by (is_same a b) refl
  where
    by : (same : Bool) → is_same a b ≡ same → same ≡ false
    by true is = absurd (other (same_is a b is))
    by false is = refl

-- what stands at the key of an insert is its record
pub own_value : (s : Store) (key : RecordKey) (a : AccessView) (found : Option Record) (r : Record) →
    StandsAt s key found → AllowsInsert r a found → (value : List ℕ) → contents s key ≡ Some value → value_of r ≡ value
own_value s key a found r stands allows value at =
    by a.written (ap (option_map value_of) (sym allows.stands) ∙ sym stands.holds ∙ at)
  where
    by : (written : Bool) → option_map value_of (if written then Some r else None) ≡ Some value → value_of r ≡ value
    by true is = cc
    by false is = absurd cc

module _ (hash : RecordKey → ℕ) (p : Purpose) (old : PoolState) where
  -- ---- its beginning

  pub begins : (found : Option Record) (a : AccessView) (locks : Table) → IsBegun hash p found a old →
      locks ≡ lock_on (access_key a) ∷ [] → IsLawful locks → IsUnderWay hash p old a old locks
  begins found a locks b is lawful = record {
    serves = b.serves;
    keyed = b.keyed;
    change = Quiet;
    sees = record {
      honest = b.rest.honest;
      file = b.rest.file;
      sound = quiet_world (access_key a) locks is hash old.images b.rest.sound lawful;
      known = subst (λ (facts : List Known). AllKnown 1 (world old.images locks Quiet) facts) (sym b.facts) tt;
    };
    found = found;
    stands = b.stands;
    allows = b.allows;
    others = λ other apart. refl;
    lacks = λ r is full. absurd (true≢false (sym full ∙ b.room));
  }

  pub begins_short : (a : AccessView) (pool : PoolState) (locks : Table) → IsUnderWay hash p old a pool locks →
      access_left a (store_of pool.images) ≤ MOST_STEPS
  begins_short a pool locks u = has_few_steps hash 1 a.operation pool locks u.change u.sees

  -- ---- a step

  module _ (a a' : AccessView) (pool pool' : PoolState) (locks locks' : Table) (did : Progress FileFault)
      (key : RecordKey) (u : IsUnderWay hash p old a pool locks) (named : access_key a ≡ key)
      (row : row_of locks 1 ≡ access_locks a (lock_on key))
      (step : MakesAccess hash 1 did a a' pool pool' locks locks') where
    faces : Faces hash 1 p u.found a pool locks u.change
    faces = record {
      serves = u.serves;
      keyed = u.keyed;
      sees = u.sees;
      before = lock_on key;
      bare = bare_lock key;
      owns = owns_any a.operation (lock_on key)
          (subst (λ (k : RecordKey). kind_of (lock_on key) (guard_of k) ≡ Some Exclusive) (sym named) (owns_lock key));
      row = row;
      stands = u.stands;
      allows = u.allows;
    }

    pub nears : NearsOrSpares did (access_left a (store_of pool.images)) (access_left a' (store_of pool'.images)) pool
        pool'
    nears = step.progress p u.found u.change faces

    module _ (fine : is_fault did ≡ false) where
      pub made : Step hash 1 (access_turn a (store_of pool.images)) did (access_facts a') pool pool' locks locks'
          u.change
      made = step.step p u.found u.change faces fine

      told : TellsOf hash 1 did p u.found a a' (world pool.images locks u.change) (world pool'.images locks' u.change)
      told = step.answer p u.found u.change faces fine

      pub goes_on : length pool'.images ≡ length old.images → IsUnderWay hash p old a' pool' locks'
      goes_on as_many = record {
        serves = step.aim.serves p u.serves;
        keyed = ap hash step.aim.key ∙ u.keyed ∙ sym step.aim.pseudokey;
        change = made.after;
        sees = record {
          honest = subst IsTrue (sym step.writes.honest) u.sees.honest;
          file = made.file;
          sound = made.others.sound;
          known = made.known;
        };
        found = left_by did p u.found;
        stands = stands;
        allows = told.allows;
        others = others;
        lacks = λ r is full. lacked r is full (has_no_room a) refl;
      }
        where
          stands : StandsAt (store_of pool'.images) (access_key a') (left_by did p u.found)
          stands = subst (λ (k : RecordKey). StandsAt (store_of pool'.images) k (left_by did p u.found))
              (sym step.aim.key) told.stands

          others : HoldsElse (aimed_at p) old.images pool'.images
          others other apart =
              others_hold hash 1 did (world pool.images locks u.change) (world pool'.images locks' made.after)
              u.sees.sound fine a.operation a.bytes made.does other
              (not_same (access_key a) other (λ same. apart (sym u.serves.key ∙ same)))
              ∙ u.others other apart

          lacked : (r : Record) → p ≡ ToInsert r → has_no_room a' ≡ true → (full : Bool) → has_no_room a ≡ full →
              Lacked hash r old
          lacked r is now true was = u.lacks r is was
          lacked r is now false was = record {
            images = pool'.images;
            locks = locks';
            change = made.after;
            as_many = as_many;
            sound = made.others.sound;
            lacks = record {
              page = none.page;
              lacks = record { home = none.lacks.home; absent = none.lacks.absent; full = none.lacks.full };
              stuck = none.stuck;
            };
            others = subst (λ (q : Purpose). HoldsElse (aimed_at q) old.images pool'.images) is others;
            own = own_value (store_of pool'.images) (key_of r) a' (left_by did p u.found) r
                (subst (λ (k : RecordKey). StandsAt (store_of pool'.images) k (left_by did p u.found))
                (step.aim.key ∙ serves.key) stands)
                (subst (λ (q : Purpose). Allows q a' (left_by did p u.found)) is told.allows);
          }
            where
              serves : Serves (ToInsert r) a
              serves = subst (λ (q : Purpose). Serves q a) is u.serves

              none : HasNoRoom hash (pair (key_of r) (value_of r)) (world pool'.images locks' u.change)
              none = subst (λ (k : RecordKey). HasNoRoom hash (pair k (value_of r))
                  (world pool'.images locks' u.change)) serves.key
                  (subst (λ (bytes : List ℕ). HasNoRoom hash (pair (access_key a) bytes)
                  (world pool'.images locks' u.change)) serves.value (told.lacks was now))

      -- ---- its end

      pub blocked_by_none : (other : ℕ) → did ≡ Blocked other → locks ≡ access_locks a (lock_on key) ∷ [] → ⊥
      blocked_by_none other is alone =
          let does : TurnsAt {F = FileFault} hash (access_turn a (store_of pool.images)) (Blocked other) 1
          (world pool.images locks u.change) (world pool'.images locks' made.after) =
          subst (λ (d : Progress FileFault). TurnsAt {F = FileFault} hash (access_turn a (store_of pool.images)) d 1
          (world pool.images locks u.change) (world pool'.images locks' made.after)) is made.does in
          not_in_way (access_locks a (lock_on key)) (world pool.images locks u.change) alone
          (access_turn a (store_of pool.images)).ask other does.0

  pub ends : (a : AccessView) (pool : PoolState) (locks : Table) (key : RecordKey) →
      IsUnderWay hash p old a pool locks → locks ≡ lock_on key ∷ [] → IsLeft hash p old a pool
  ends a pool locks key u is = record {
    rest = record {
      honest = u.sees.honest;
      file = u.sees.file;
      sound = subst (λ (c : Change). IsSoundFile hash (store_of pool.images) c)
          (u.sees.sound.led (no_writer key locks is)) u.sees.sound.file;
    };
    others = u.others;
    found = u.found;
    stands = subst (λ (k : RecordKey). StandsAt (store_of pool.images) k u.found) u.serves.key u.stands;
    allows = u.allows;
    lacks = u.lacks;
  }
