-- A step of the sweep in a sound world.
use Rattle.std.proofs.Common.{◌≡◌, refl, sym, ap, ◌∙◌, subst, ℕ, Bool, true, false, List, Option, Some, None, IsSome, IsTrue, arith}
use Rattle.std.specs.Prelude.{if◌then◌else◌}
use Rattle.std.proofs.lemmas.Bool.{true≢false}
use Rattle.bucket_page.specs.Keys.{is_same}
use Rattle.file_pages.specs.declared.fault.FileFault.{FileFault}
use Rattle.file_pages.specs.hash_file.Changes.{Remove}
use Rattle.call_writes.specs.call_decisions.Owing.{Sweeps, is_swept}
use Rattle.page_locks.proofs.TableLemmas.{row_of-same}
use Rattle.call_writes.proofs.WriteNames.{contents, holds_still, one_changed, wrote_not, wrote_of}
use Rattle.xsi_inquiry.specs.Writing.{with_at}
use Rattle.xsi_inquiry.specs.declared.write.Write.{Write}
use Rattle.call_writes.specs.xsi_remove.SweepSteps.{IsOf, IsOver, MakesSweep, Rests, SweepsAway, SweepsOn}
use Rattle.call_writes.specs.xsi_remove.Sweeps.{IsSweeping, IsWorking}
use Rattle.call_writes.proofs.RecordLemmas.{apart_round, deleted_elsewhere, deleted_owed, none_swept, same_round, same_without, stands_none, swept_guard}
use Rattle.call_writes.proofs.PaymentNames.{Blocked, ends_swept, nears_next, nears_with, no_more, written_local}
use Rattle.call_writes.specs.PaymentStages as stages
use Rattle.call_writes.specs.PaymentWords.{RecordKey, PoolState, Table, Lock, Change, Store, store_of, row_of, IsSeat, NearsOrSpares, Progress, Moved, Ended, Fault, is_fault, Step, world, StandsAt, is_write, kind_of, Owns, Queue, State, guard_of, Plan, Records, Owes, overlaid, without_swept, writes_of, writes_left_in, Work, is_move, sweep_facts, sweep_left, sweep_locks, sweep_turn}
use Rattle.call_writes.specs.declared.writes.CallWrites.{CallWrites}
use Rattle.call_writes.specs.Payments.{owes_now, payment_left, unwritten}
use Rattle.call_writes.specs.Paying.{IsPayingSweep}
use Rattle.xsi_calls.specs.PaySteps.{Pays}

-- ---- the sweep

-- it is one of its queue
of_queue : (hash : RecordKey → ℕ) (id count : ℕ) (q : Queue) (s : State) (v : Option Work) →
    IsWorking hash id count q s v → IsOf id v
of_queue hash id count q s None works = tt
of_queue hash id count q s (Some w) works = works.its

-- while it goes on the rest of it is owed
owes_sweep : (p : Plan) (id : ℕ) (v : Option Work) → IsOf id v → (IsOver v → ⊥) →
    owes_now p (stages.Sweeping v) ≡ Sweeps id (writes_of p)
owes_sweep p id None its going = absurd (going tt)
owes_sweep p id (Some w) its going = ap (λ (n : ℕ). Sweeps n (writes_of p)) its

-- and it is one of no other queue
one_queue : (id other : ℕ) (v : Option Work) → IsOf id v → IsOf other v → (IsOver v → ⊥) → id ≡ other
one_queue id other None its others going = absurd (going tt)
one_queue id other (Some w) its others going = sym its ∙ others

-- in a sound world it ends with no message left
none_left : (hash : RecordKey → ℕ) (id count : ℕ) (q : Queue) (s : State) (v : Option Work) →
    IsWorking hash id count q s v → IsOver v → v ≡ None
none_left hash id count q s None works over = refl
none_left hash id count q s (Some w) works over = absurd (works.goes_on over)

-- ---- its step

-- the records after a step of the sweep, which stand under the names
record IsSweptOn {F : Type 0} (id : ℕ) (ws : List Write) (names : List Lock) (did : Progress F)
    (records : Records) (file : Store) : Type 0 where
  pub after : Records
  pub still : is_write did ≡ false → after ≡ records
  pub elsewhere : (key : RecordKey) → (is_swept id key ≡ true → ⊥) → after key ≡ records key
  pub stands : (key : RecordKey) → IsSome (kind_of names (guard_of key)) → StandsAt file key (after key)
  pub owed : (key : RecordKey) → overlaid (Sweeps id ws) after key ≡ overlaid (Sweeps id ws) records key

module _ (hash : RecordKey → ℕ) (seat : ℕ) (names : List Lock) (p : Plan) (did : Progress FileFault)
    (v v' : Option Work) (pool pool' : PoolState) (locks locks' : Table) (seated : IsSeat locks seat)
    (makes : MakesSweep hash seat did v v' pool pool' locks locks') (records : Records) (change : Change)
    (y : IsPayingSweep hash seat names p v records pool locks change) where
  -- what is swept is held exclusively
  owns_swept : (key : RecordKey) → is_swept y.id key ≡ true → Owns names key
  owns_swept key its = ap (kind_of names) (swept_guard y.id key its) ∙ y.faces.owns

  row_on : row_of locks' seat ≡ sweep_locks v' names
  row_on = ap (λ (t : Table). row_of t seat) (makes.row names y.faces.bare y.faces.row)
      ∙ row_of-same locks seat (sweep_locks v' names) seated

  honest_on : IsTrue pool'.honest
  honest_on = subst IsTrue (sym makes.writes.honest) y.faces.sees.honest

  module _ (fine : is_fault did ≡ false) where
    stepped : Step hash seat (sweep_turn v (store_of pool.images)) did (sweep_facts v') pool pool' locks locks' change
    stepped = makes.step names y.id y.count y.queue y.system change y.faces fine

    on : SweepsOn hash did y.id y.count y.queue y.system v v' (store_of pool.images) (store_of pool'.images)
    on = makes.sweeps names y.id y.count y.queue y.system change y.faces fine

    -- the step deletes a record
    module _ (wrote : is_write did ≡ true) where
      away : SweepsAway y.id (sweep_turn v (store_of pool.images))
      away = on.deletes wrote

      held_behind : (key : RecordKey) →
          contents (store_of pool'.images) key
          ≡ (if is_same away.key key then None else contents (store_of pool.images) key)
      held_behind = one_changed hash seat (sweep_turn v (store_of pool.images)) did (world pool.images locks change)
          (world pool'.images locks' stepped.after) (Remove away.key) y.faces.sees.sound (wrote_of did wrote)
          away.removes stepped.does

      stands_behind : (key : RecordKey) → IsSome (kind_of names (guard_of key)) →
          StandsAt (store_of pool'.images) key (with_at away.key None records key)
      stands_behind key held = by (is_same key away.key) refl
        where
          by : (b : Bool) → is_same key away.key ≡ b →
              StandsAt (store_of pool'.images) key (if b then None else records key)
          by true is = record {
            holds = held_behind key ∙ rw (same_round key away.key is) refl;
            spelled = tt;
          }
          by false apart =
              let there = y.stands key held in record {
                holds = held_behind key ∙ rw (apart_round key away.key apart) there.holds;
                spelled = there.spelled;
              }

      deleted : IsSweptOn y.id (writes_of p) names did records (store_of pool'.images)
      deleted = record {
        after = with_at away.key None records;
        still = λ unwritten. absurd (true≢false (sym wrote ∙ unwritten));
        elsewhere = deleted_elsewhere y.id away.key away.its records;
        stands = stands_behind;
        owed = deleted_owed y.id away.key away.its records (writes_of p);
      }

    -- or leaves all
    left : is_write did ≡ false → IsSweptOn y.id (writes_of p) names did records (store_of pool'.images)
    left unwritten = record {
      after = records;
      still = λ none. refl;
      elsewhere = λ key other. refl;
      stands = λ key held.
          let there = y.stands key held in record {
            holds = holds_still hash seat (sweep_turn v (store_of pool.images)) did (world pool.images locks change)
                (world pool'.images locks' stepped.after) y.faces.sees.sound fine (wrote_not did unwritten)
                stepped.does key ∙ there.holds;
            spelled = there.spelled;
          };
      owed = λ key. refl;
    }

    now : IsSweptOn y.id (writes_of p) names did records (store_of pool'.images)
    now = by (is_write did) refl
      where
        by : (b : Bool) → is_write did ≡ b → IsSweptOn y.id (writes_of p) names did records (store_of pool'.images)
        by true wrote = deleted wrote
        by false unwritten = left unwritten

    elsewhere : (key : RecordKey) → (Owns names key → ⊥) → now.after key ≡ records key
    elsewhere key none = now.elsewhere key (λ its. none (owns_swept key its))

    its_queue : IsOf y.id v
    its_queue = of_queue hash y.id y.count y.queue y.system v y.faces.sweeps.works

    leaves : (id : ℕ) → IsOf id v → (key : RecordKey) → is_swept id key ≡ false → now.after key ≡ records key
    leaves id its key other = now.elsewhere key (λ swept. true≢false (sym swept
        ∙ subst (λ (n : ℕ). is_swept n key ≡ false) (one_queue id y.id v its its_queue y.goes_on) other))

    owed_before : owes_now p (stages.Sweeping v) ≡ Sweeps y.id (writes_of p)
    owed_before = owes_sweep p y.id v its_queue y.goes_on

    -- ---- it goes on

    module _ (on_move : is_move did ≡ true → IsOver v' → ⊥) where
      going : IsOver v' → ⊥
      going = by did refl
        where
          as_before : v' ≡ v → IsOver v' → ⊥
          as_before is over = y.goes_on (subst IsOver is over)

          by : (d : Progress FileFault) → did ≡ d → IsOver v' → ⊥
          by (Moved kind) is = on_move (ap is_move is)
          by (Blocked other) is = as_before (subst (λ (x : Progress FileFault). Rests x v v') is makes.aim.rests)
          by (Fault fault) is = absurd (true≢false (sym (ap is_fault is) ∙ fine))
          by Ended is = as_before (subst (λ (x : Progress FileFault). Rests x v v') is makes.aim.rests)

      owed_behind : owes_now p (stages.Sweeping v') ≡ Sweeps y.id (writes_of p)
      owed_behind = owes_sweep p y.id v' (of_queue hash y.id on.count' y.queue y.system v' on.sweeps.works) going

      pub sweeps_on : Pays hash seat names p did (stages.Sweeping v) (stages.Sweeping v') records pool pool' locks
          locks' change
      sweeps_on = record {
        step = stepped;
        after = now.after;
        still = now.still;
        elsewhere = elsewhere;
        leaves = leaves;
        pays = record {
          id = y.id;
          count = on.count';
          queue = y.queue;
          system = y.system;
          faces = record {
            sees = record {
              honest = honest_on;
              file = stepped.file;
              sound = stepped.others.sound;
              known = stepped.known;
            };
            bare = y.faces.bare;
            owns = y.faces.owns;
            row = row_on;
            sweeps = on.sweeps;
          };
          goes_on = going;
          few = let fewer = makes.aim.fewer in let few = y.few in omega (arith, fewer, few);
          small = y.small;
          own = y.own;
          stands = now.stands;
          behind = λ others alike. y.behind others (λ key held.
              alike key held ∙ same_without y.id now.after records key (now.elsewhere key));
        };
        owed = λ key.
            ap (λ (o : Owes). overlaid o now.after key) owed_behind ∙ now.owed key
            ∙ sym (ap (λ (o : Owes). overlaid o records key) owed_before);
      }

    -- ---- it ends

    module _ (over : IsOver v') where
      none : v' ≡ None
      none = none_left hash y.id on.count' y.queue y.system v' on.sweeps.works over

      gone : (key : RecordKey) → is_swept y.id key ≡ true → now.after key ≡ None
      gone key its = stands_none (store_of pool'.images) key (now.after key)
          (ends_swept hash y.id on.count' y.queue y.system (store_of pool'.images)
          (subst (λ (x : Option Work). IsSweeping hash y.id on.count' y.queue y.system x (store_of pool'.images)) none
          on.sweeps) key its)
          (now.stands key (subst IsSome (sym (owns_swept key its)) refl))

      -- what is left is what was to be left
      all_gone : (key : RecordKey) → now.after key ≡ without_swept y.id records key
      all_gone key = none_swept y.id now.after key (gone key)
          ∙ same_without y.id now.after records key (now.elsewhere key)

      ends_at : Pays hash seat names p did (stages.Sweeping v) (stages.Writing unwritten) records pool pool' locks
          locks' change
      ends_at = record {
        step = record {
          after = stepped.after;
          file = stepped.file;
          others = stepped.others;
          known = tt;
          does = stepped.does;
          led = tt;
        };
        after = now.after;
        still = now.still;
        elsewhere = elsewhere;
        leaves = leaves;
        pays = record {
          carries = record {
            small = y.small;
            sees = record { honest = honest_on; file = stepped.file; sound = stepped.others.sound; known = tt };
            bare = y.faces.bare;
            row = row_on ∙ ap (λ (x : Option Work). sweep_locks x names) none;
            own = y.own;
            stands = now.stands;
            can = y.behind now.after (λ key held. all_gone key);
            doing = tt;
            going = tt;
          };
          decided = refl;
        };
        owed = λ key. written_local (writes_of p) now.after (without_swept y.id records) key (all_gone key)
            ∙ sym (ap (λ (o : Owes). overlaid o records key) owed_before);
      }

      pub ends_with : (w : CallWrites) → w ≡ unwritten →
          Pays hash seat names p did (stages.Sweeping v) (stages.Writing w) records pool pool' locks locks' change
      ends_with w fresh = subst (λ (x : CallWrites). Pays hash seat names p did (stages.Sweeping v) (stages.Writing x)
          records pool pool' locks locks' change) (sym fresh) ends_at

  -- ---- it comes nearer to its end

  abbrev left_before : ℕ
  left_before = payment_left p (stages.Sweeping v) (store_of pool.images)

  near : NearsOrSpares did (sweep_left v (store_of pool.images))
      (sweep_left v' (store_of pool'.images)) pool pool'
  near = makes.progress names y.id y.count y.queue y.system change y.faces

  pub nears_on : NearsOrSpares did left_before (payment_left p (stages.Sweeping v') (store_of pool'.images)) pool pool'
  nears_on = nears_with did (sweep_left v (store_of pool.images)) (sweep_left v' (store_of pool'.images))
      (writes_left_in p unwritten (store_of pool.images)) (writes_left_in p unwritten (store_of pool'.images)) pool
      pool' (no_more _ _ refl) near

  pub nears_end : is_move did ≡ true → (w : CallWrites) → w ≡ unwritten →
      NearsOrSpares did left_before (payment_left p (stages.Writing w) (store_of pool'.images)) pool pool'
  nears_end moved w fresh = nears_next did (sweep_left v (store_of pool.images))
      (sweep_left v' (store_of pool'.images)) (writes_left_in p unwritten (store_of pool.images))
      (writes_left_in p w (store_of pool'.images)) pool pool' moved
      (no_more _ _ (ap (λ (x : CallWrites). writes_left_in p x (store_of pool'.images)) fresh))
      near
