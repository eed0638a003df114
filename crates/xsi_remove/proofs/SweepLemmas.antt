-- A step of the sweep is one of its access, behind which what follows may have begun.
use Rattle.std.proofs.Common.{◌≡◌, refl, sym, ap, ◌∙◌, subst, ℕ, ◌+◌, ◌*◌, ◌≤◌, true, false, List, Option, Some, None, IsOk, IsErr, Result, Err, inl, inr, arith}
use Rattle.std.proofs.lemmas.Bool.{true≢false}
use Rattle.file_pages.specs.declared.fault.FileFault.{FileFault}
use Rattle.file_pages.specs.declared.fault.FileFault.TheVariants.{Failed}
use Rattle.record_file.specs.OperationSteps.{TurnsAwayOf}
use Rattle.record_file.specs.AccessSteps.{MakesAccess, Rests as RestsAccess}
use Rattle.xsi_remove.proofs.FreshLemmas.{IsFresh, same_in, fresh_led, no_more, nears_with, nears_next, failed_cause, faulted, over_none, fine_of}
use Rattle.xsi_remove.proofs.DeedLemmas.{IsDriven, driven, faced, hears_well, stepped, tells}
use Rattle.record_file.proofs.OperationLemmas.{asks_no_write, ended_free, find_writes_none, removes_its}
use Rattle.xsi_remove.proofs.HearLemmas.{Mishears, StepsHearing, steps_deaf, steps_heard}
use Rattle.xsi_remove.proofs.LeftLemmas.{swept_key}
use Rattle.xsi_remove.proofs.NextLemmas.{Follows, follows}
use Rattle.xsi_remove.specs.declared.work.Deed.{Deed}
use Rattle.xsi_remove.specs.declared.work.Deed.TheVariants.{Reading, DeletingMessage, DeletingType}
use Rattle.xsi_remove.specs.declared.work.Work.{Work}
use Rattle.page_locks.specs.Table.{with_row}
use Rattle.step_rules.specs.Known.{AllKnown}
use Rattle.step_rules.specs.Searching.{WalksTo}
use Rattle.xsi_remove.specs.Deeds.{behind, message_of, next_of, purpose_of}
use Rattle.xsi_remove.specs.Sweeps.{Faces, IsSweeping, deeds_left, records_left, sweep_left, TURN_STEPS}
use Rattle.xsi_remove.specs.SweepSteps.{MakesSweep, Rests, SweepsAway}
use Rattle.xsi_remove.specs.Works.{Hears, LeadsOn, heard_with, is_move}
use Rattle.xsi_remove.specs.Words.{RecordKey, PoolState, Table, Lock, Change, store_of, Progress, Moved, Blocked, Fault, Ended, Look, is_fault, HasEnded, NearsOrSpares, Step, world, Delete, ToFind, ToWrite, aimed_at, is_write, AccessView, Serves, access_answer, access_facts, access_left, access_turn, Queue, State, is_swept, MessageRead, Remove, key_of_type}

module _ (hash : RecordKey → ℕ) (seat : ℕ) (did : Progress FileFault) (w w' : Work) (pool pool' : PoolState)
    (locks locks' : Table) where
  module _ (on : StepsHearing hash seat did w w' pool pool' locks locks') where
    e : MakesAccess hash seat did w.access w'.access pool pool' locks locks'
    e = on.makes

    same_id : (id : ℕ) → w.turn.id ≡ id → w'.turn.id ≡ id
    same_id id is = ap (λ (x : Work). x.turn.id) on.same ∙ is

    -- where it rests it is what it was
    stays : w'.access ≡ w.access → (did ≡ Moved Look → ⊥) → w' ≡ w
    stays same quiet =
        on.same ∙ ap (λ (r : Option MessageRead). heard_with r w'.access w) (on.hears.quiet quiet)
        ∙ ap (λ (a : AccessView). heard_with w.turn.read a w) same

    not_looked : is_move did ≡ false → did ≡ Moved Look → ⊥
    not_looked still looked = true≢false (sym (ap is_move looked) ∙ still)

    rests : (d : Progress FileFault) → did ≡ d → Rests d (Some w) (Some w')
    rests (Moved kind) is = tt
    rests (Blocked other) is =
        ap Some (stays (subst (λ (x : Progress FileFault). RestsAccess x w.access w'.access) is e.aim.rests)
        (not_looked (ap is_move is)))
    rests (Fault fault) is = tt
    rests Ended is =
        ap Some (stays (subst (λ (x : Progress FileFault). RestsAccess x w.access w'.access) is e.aim.rests)
        (not_looked (ap is_move is)))

    module _ (held : List Lock) (id count : ℕ) (q : Queue) (s : State) (change : Change)
        (f : Faces hash seat held id count q s (Some w) pool locks change) where
      near : NearsOrSpares did (access_left w.access (store_of pool.images))
          (access_left w'.access (store_of pool'.images)) pool pool'
      near = e.progress (purpose_of w.deed w.turn)
          (records_left id count s (Some w) (aimed_at (purpose_of w.deed w.turn))) change
          (faced hash seat did w w'.access pool pool' locks locks' e held id count q s change f)

      module _ (fine : is_fault did ≡ false) where
        made : Step hash seat (access_turn w.access (store_of pool.images)) did (access_facts w'.access) pool pool'
            locks locks' change
        made = stepped hash seat did w w'.access pool pool' locks locks' e held id count q s change f fine

        turned : TurnsAwayOf hash seat w.access.operation w'.access.operation (world pool'.images locks' change)
        turned = (tells hash seat did w w'.access pool pool' locks locks' e held id count q s change f fine).turns_away

        is_driven : IsDriven hash id count q s w' (store_of pool'.images)
        is_driven = subst (λ (x : Work). IsDriven hash id count q s x (store_of pool'.images)) (sym on.same)
            (driven hash seat did w w'.access pool pool' locks locks' e held id count q s change f fine w'.turn.read
            on.hears)

        away : is_write did ≡ true → SweepsAway id (access_turn w.access (store_of pool.images))
        away wrote = by w.deed refl f.sweeps.works.serves
          where
            deletes : (key : RecordKey) → is_swept id key ≡ true → Serves (ToWrite (Delete key)) w.access →
                SweepsAway id (access_turn w.access (store_of pool.images))
            deletes key its serves = record {
              key = key;
              its = its;
              removes = removes_its w.access.operation w.access.bytes (store_of pool.images) key serves.kind
                  ∙ ap (λ (k : RecordKey). Some (Remove k)) serves.key;
            }

            by : (x : Deed) → w.deed ≡ x → Serves (purpose_of w.deed w.turn) w.access →
                SweepsAway id (access_turn w.access (store_of pool.images))
            by Reading is serves =
                let finds : Serves (ToFind (message_of w.turn)) w.access =
                subst (λ (x : Deed). Serves (purpose_of x w.turn) w.access) is serves in
                absurd (find_writes_none hash seat did (world pool.images locks change)
                (world pool'.images locks' made.after) f.sees.sound fine w.access.operation w.access.bytes
                (asks_no_write w.access.operation w.access.bytes (store_of pool.images) (message_of w.turn) finds.kind)
                made.does wrote)
            by DeletingMessage is serves =
                deletes (message_of w.turn) (swept_key DeletingMessage w.turn id f.sweeps.works.its)
                (subst (λ (x : Deed). Serves (purpose_of x w.turn) w.access) is serves)
            by (DeletingType mtype) is serves =
                deletes (key_of_type w.turn.id mtype) (swept_key (DeletingType mtype) w.turn id f.sweeps.works.its)
                (subst (λ (x : Deed). Serves (purpose_of x w.turn) w.access) is serves)

    -- ---- its access goes on

    module _ (going : is_move did ≡ true → HasEnded w'.access.operation → ⊥) where
      goes_on : (HasEnded w.access.operation → ⊥) → is_fault did ≡ false →
          HasEnded w'.access.operation → ⊥
      goes_on before fine = by did refl
        where
          as_before : w'.access ≡ w.access → HasEnded w'.access.operation → ⊥
          as_before is over = before (subst (λ (a : AccessView). HasEnded a.operation) is over)

          by : (d : Progress FileFault) → did ≡ d → HasEnded w'.access.operation → ⊥
          by (Moved kind) is = going (ap is_move is)
          by (Blocked other) is =
              as_before (subst (λ (x : Progress FileFault). RestsAccess x w.access w'.access) is e.aim.rests)
          by (Fault fault) is = absurd (true≢false (sym (ap is_fault is) ∙ fine))
          by Ended is =
              as_before (subst (λ (x : Progress FileFault). RestsAccess x w.access w'.access) is e.aim.rests)

      makes_on : MakesSweep hash seat did (Some w) (Some w') pool pool' locks locks'
      makes_on = record {
        writes = e.writes;
        cause = e.cause;
        aim = record {
          ended = e.aim.ended;
          rests = rests did refl;
          queue = same_id;
          fewer = let turns = ap (λ (x : Work). x.turns) on.same in omega (arith, turns);
        };
        row = e.row;
        progress = λ held id count q s change f.
            let more = ap (λ (x : Work). deeds_left x.deed + x.turns * TURN_STEPS) on.same in
            nears_with did (access_left w.access (store_of pool.images))
            (access_left w'.access (store_of pool'.images)) (deeds_left w.deed + w.turns * TURN_STEPS)
            (deeds_left w'.deed + w'.turns * TURN_STEPS) pool pool' (no_more _ _ more)
            (near held id count q s change f);
        step = made;
        sweeps = λ held id count q s change f fine.
            let d = is_driven held id count q s change f fine in record {
              count' = count;
              counts = inl refl;
              sweeps = record {
                filed = f.sweeps.filed;
                alive = f.sweeps.alive;
                stands = d.stands;
                works = record {
                  its = d.its;
                  at = d.at;
                  read = d.read;
                  told = d.told;
                  enough = d.enough;
                  serves = d.serves;
                  keyed = d.keyed;
                  allows = d.allows;
                  goes_on = goes_on f.sweeps.works.goes_on fine;
                };
              };
              deletes = away held id count q s change f fine;
            };
        turns_away = λ held id count q s change f fine. record {
          come = w'.access;
          makes = e;
          turns_away = turned held id count q s change f fine;
          stays = inl refl;
        };
      }

    -- ---- its access has ended

    module _ (moved : is_move did ≡ true) (over : HasEnded w'.access.operation) (answered : (key : RecordKey) →
        Serves (ToFind key) w'.access → access_answer w'.access ≡ None → ⊥) where
      what_follows : (held : List Lock) (id count : ℕ) (q : Queue) (s : State) (change : Change) →
          Faces hash seat held id count q s (Some w) pool locks change →
          Follows hash id count q s w' (store_of pool'.images) w'.deed (next_of hash w')
      what_follows held id count q s change f =
          follows hash id count q s w' (store_of pool'.images) f.sweeps.filed f.sweeps.alive
          (is_driven held id count q s change f (fine_of did moved)) over answered

      -- nothing can follow
      makes_stop : next_of hash w' ≡ None →
          MakesSweep hash seat (Fault Failed) (Some w) (Some w') pool pool' locks locks'
      makes_stop none = record {
        writes = faulted pool pool' e.writes;
        cause = failed_cause pool pool';
        aim = record {
          ended = (λ is. absurd (true≢false (ap is_fault is)), λ was. absurd (over_none did moved (e.aim.ended.1 was)));
          rests = tt;
          queue = same_id;
          fewer = let turns = ap (λ (x : Work). x.turns) on.same in omega (arith, turns);
        };
        row = e.row;
        progress = λ held id count q s change f.
            let next = what_follows held id count q s change f in
            absurd (let clash : ◌≡◌ {A = Option (Option Work)} None (Some next.sweep) = sym none ∙ next.is in cc);
        step = λ held id count q s change f fine. absurd cc;
        sweeps = λ held id count q s change f fine. absurd cc;
        turns_away = λ held id count q s change f fine. absurd cc;
      }

      -- this follows
      makes_next : (v : Option Work) → next_of hash w' ≡ Some v →
          MakesSweep hash seat did (Some w) v pool pool' locks locks'
      makes_next v next = record {
        writes = e.writes;
        cause = e.cause;
        aim = record {
          ended = e.aim.ended;
          rests = moves did moved;
          queue = λ id is. fresh.queue id (same_id id is);
          fewer = let turns = ap (λ (x : Work). x.turns) on.same in omega (arith, turns, fresh.fewer);
        };
        row = λ before bare row. e.row before bare row
            ∙ ap (with_row locks seat) (ended_free w'.access.operation before over ∙ sym (fresh.locks before));
        progress = λ held id count q s change f.
            let led = what_follows held id count q s change f in
            let is : led.sweep ≡ v = same_in led.sweep v (sym led.is ∙ next) in
            let more = ap (λ (x : Work). deeds_left x.deed + x.turns * TURN_STEPS) on.same in
            nears_next did (access_left w.access (store_of pool.images))
            (access_left w'.access (store_of pool'.images)) (deeds_left w.deed + w.turns * TURN_STEPS)
            (sweep_left v (store_of pool'.images)) pool pool' moved
            (subst (λ (n : ℕ). sweep_left v (store_of pool'.images) ≤ n) more
            (subst (λ (x : Option Work). sweep_left x (store_of pool'.images)
            ≤ deeds_left w'.deed + w'.turns * TURN_STEPS) is led.few)) (near held id count q s change f);
        step = λ held id count q s change f fine.
            let step = made held id count q s change f fine in record {
              after = step.after;
              file = step.file;
              others = step.others;
              known = subst (AllKnown seat (world pool'.images locks' step.after)) (sym fresh.facts) tt;
              does = step.does;
              led = subst (WalksTo seat (access_turn w.access (store_of pool.images)).ask did
                  (world pool.images locks change) (world pool'.images locks' step.after)) (sym fresh.facts) tt;
            };
        sweeps = λ held id count q s change f fine.
            let led = what_follows held id count q s change f in
            let is : led.sweep ≡ v = same_in led.sweep v (sym led.is ∙ next) in record {
              count' = led.count';
              counts = led.counts;
              sweeps = subst (λ (x : Option Work). IsSweeping hash id led.count' q s x
                  (store_of pool'.images)) is led.sweeps;
              deletes = away held id count q s change f fine;
            };
        turns_away = λ held id count q s change f fine. record {
          come = w'.access;
          makes = e;
          turns_away = turned held id count q s change f fine;
          stays = inr over;
        };
      }
        where
          fresh : IsFresh w' v
          fresh = fresh_led hash w' (behind w'.deed w'.turn w'.access.written) v next

          moves : (d : Progress FileFault) → is_move d ≡ true → Rests d (Some w) v
          moves (Moved kind) is = tt
          moves (Blocked other) is = absurd cc
          moves (Fault fault) is = tt
          moves Ended is = absurd cc

  -- ---- it heard of no Message

  makes_deaf : Mishears hash seat did w w' pool pool' locks locks' →
      MakesSweep hash seat (Fault Failed) (Some w) (Some w') pool pool' locks locks'
  makes_deaf deaf = record {
    writes = faulted pool pool' deaf.makes.writes;
    cause = failed_cause pool pool';
    aim = record {
      ended = (
        λ is. absurd (true≢false (ap is_fault is)),
        λ was. absurd (over_none did (ap is_move deaf.looked) (deaf.makes.aim.ended.1 was)),
      );
      rests = tt;
      queue = λ id is. ap (λ (x : Work). x.turn.id) deaf.same ∙ is;
      fewer = let turns = ap (λ (x : Work). x.turns) deaf.same in omega (arith, turns);
    };
    row = deaf.makes.row;
    progress = λ held id count q s change f. absurd (hears_well hash seat did w w'.access pool pool' locks locks'
        deaf.makes held id count q s change f (ap is_fault deaf.looked) deaf.looked deaf.unread deaf.cause);
    step = λ held id count q s change f fine. absurd cc;
    sweeps = λ held id count q s change f fine. absurd cc;
    turns_away = λ held id count q s change f fine. absurd cc;
  }

  -- ---- as the turn heard of it

  module _ (v : Option Work) (is : v ≡ Some w) (a : AccessView)
      (makes : MakesAccess hash seat did w.access a pool pool' locks locks') (with_it : Work)
      (there : ◌≡◌ {A = Option Work} (Some (record w { access = a })) (Some with_it)) {X E : Type 0}
      (result : Result X E) (hears : Hears did result with_it w') where
    hears_it : Hears did result (record w { access = a }) w'
    hears_it = subst (λ (x : Work). Hears did result x w') (sym (same_in (record w { access = a }) with_it there)) hears

    pub makes_misheard : IsErr result → MakesSweep hash seat (Fault Failed) v (Some w') pool pool' locks locks'
    makes_misheard err =
        subst (λ (x : Option Work). MakesSweep hash seat (Fault Failed) x (Some w') pool pool' locks locks') (sym is)
        (makes_deaf (steps_deaf hash seat did w w' a pool pool' locks locks' makes result hears_it err))

    module _ (ok : IsOk result) where
      heard : StepsHearing hash seat did w w' pool pool' locks locks'
      heard = steps_heard hash seat did w w' a pool pool' locks locks' makes result hears_it ok

      pub makes_kept : (is_move did ≡ true → HasEnded w'.access.operation → ⊥) →
          MakesSweep hash seat did v (Some w') pool pool' locks locks'
      makes_kept going =
          subst (λ (x : Option Work). MakesSweep hash seat did x (Some w') pool pool' locks locks') (sym is)
          (makes_on heard going)

      module _ (moved : is_move did ≡ true) (over : HasEnded w'.access.operation) (answered : (key : RecordKey) →
          Serves (ToFind key) w'.access → access_answer w'.access ≡ None → ⊥) where
        pub makes_led : (next : Option Work) → next_of hash w' ≡ Some next →
            MakesSweep hash seat did v next pool pool' locks locks'
        makes_led next leads =
            subst (λ (x : Option Work). MakesSweep hash seat did x next pool pool' locks locks') (sym is)
            (makes_next heard moved over answered next leads)

        pub makes_failed : (w'' : Work) (fault : FileFault) → LeadsOn (Err fault) (next_of hash w') w' w'' →
            MakesSweep hash seat (Fault fault) v (Some w'') pool pool' locks locks'
        makes_failed w'' fault leads =
            subst (λ (x : Option Work). MakesSweep hash seat (Fault fault) x (Some w'') pool pool' locks locks')
            (sym is)
            (subst (λ (x : FileFault). MakesSweep hash seat (Fault x) (Some w) (Some w'') pool pool' locks locks')
            (sym leads.2)
            (subst (λ (x : Work). MakesSweep hash seat (Fault Failed) (Some w) (Some x) pool pool' locks locks')
            (sym leads.1) (makes_stop heard moved over answered leads.0)))
