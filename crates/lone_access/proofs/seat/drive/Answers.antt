-- The seat's row follows the access, which holds nothing once it has ended. No step of an honest device fails.
use Rattle.std.proofs.Common.{◌≡◌, List, [], ◌∷◌, refl, sym, ap, ◌∙◌, arith}
use Rattle.page_locks.specs.declared.lock.Lock.{Lock}
use Rattle.record_file.specs.Accesses.{AccessView, access_key, access_locks}
use Rattle.record_file.proofs.OperationLemmas.{ended_free}
use Rattle.lone_access.specs.Alone.{lock_on}
use Rattle.lone_access.proofs.AloneLemmas.{ends_row, follows, is_seat, row_is}
use Rattle.lone_access.proofs.KeepingLemmas.{keeps_on, keeps_step, risen_since}
use Rattle.lone_access.proofs.UnderWayLemmas.{begins, begins_short, blocked_by_none, ends, goes_on, nears}
use Rattle.lone_access.proofs.seat.drive.Goals as goal

pub loop-moves-init : goal.loop-moves-init
loop-moves-init g c = record {
  few = omega arith;
  alone = record {
    ready = c.requires.alone.ready;
    row = c.requires.alone.row
        ∙ ap (λ (held : List Lock). held ∷ []) (sym (c.requires.begun (lock_on (access_key c.args.access.now))));
  };
  keeps = record { honest = refl; as_many = refl; later = omega arith };
  key = refl;
  goes = λ p found b.
      let u = begins (g.K.PseudoKey.of_key c.args.keys.now) p c.args.pool.now found c.args.access.now c.args.locks.now
      b c.requires.alone.row c.keeps_limits.ensures in
      let short = begins_short (g.K.PseudoKey.of_key c.args.keys.now) p c.args.pool.now c.args.access.now
      c.args.pool.now c.args.locks.now u in
      (u, omega (arith, short));
}

pub step-requires-clause-row : goal.step-requires-clause-row
step-requires-clause-row g c =
    ends_row (access_locks c.loop-moves.access) (access_key c.args.access.now) _ c.loop-moves.invariant.alone.row

pub step-requires-clause-seat : goal.step-requires-clause-seat
step-requires-clause-seat g c =
    is_seat (access_locks c.loop-moves.access) (access_key c.args.access.now) _ c.loop-moves.invariant.alone.row

pub loop-moves-preserved : goal.loop-moves-preserved
loop-moves-preserved g c =
    let key = access_key c.args.access.now in
    let row = row_is (access_locks c.loop-moves.access) key _ c.loop-moves.invariant.alone.row in
    let as_many = c.step.ensures.writes.as_many ∙ c.loop-moves.invariant.keeps.as_many in
    let test = c.loop-moves-test.true in
    record {
      few = omega (arith, test);
      alone = record {
        ready = c.step.ensures.writes.ready;
        row = follows (access_locks c.loop-moves.access) key _ c.loop-moves.invariant.alone.row
            (access_locks c.step.new.self) _ c.step.ensures.row;
      };
      keeps = keeps_on _ _ _ c.loop-moves.invariant.keeps (keeps_step _ _ _ c.step.ensures.writes);
      key = c.step.ensures.aim.key ∙ c.loop-moves.invariant.key;
      goes = λ p found b.
          let at = c.loop-moves.invariant.goes p found b in
          let less = nears (g.K.PseudoKey.of_key c.args.keys.now) p c.args.pool.now c.loop-moves.access c.step.new.self
          c.loop-moves.pool c.step.new.pool c.loop-moves.locks c.step.new.locks _ key at.0 c.loop-moves.invariant.key
          row c.in-Moved.ensures in
          let few = at.1 in (
            goes_on (g.K.PseudoKey.of_key c.args.keys.now) p c.args.pool.now c.loop-moves.access c.step.new.self
                c.loop-moves.pool c.step.new.pool c.loop-moves.locks c.step.new.locks _ key at.0
                c.loop-moves.invariant.key row c.in-Moved.ensures refl as_many,
            omega (arith, less, few),
          );
    }

pub returns-in-Ended-clause-alone : goal.returns-in-Ended-clause-alone
returns-in-Ended-clause-alone g c =
    let aim = c.in-Ended.ensures.aim in
    let key = access_key c.args.access.now in
    let free : access_locks c.step.new.self (lock_on key) ≡ lock_on key =
    ap (λ (a : AccessView). access_locks a (lock_on key)) aim.rests
    ∙ ended_free c.loop-moves.access.operation (lock_on key) (aim.ended.0 refl) in
    record {
      ready = c.step.ensures.writes.ready;
      row = follows (access_locks c.loop-moves.access) key _ c.loop-moves.invariant.alone.row
          (access_locks c.step.new.self) _ c.step.ensures.row
          ∙ ap (λ (held : List Lock). held ∷ []) free;
    }

pub returns-in-Ended-clause-put : goal.returns-in-Ended-clause-put
returns-in-Ended-clause-put g c = λ p found b.
    let aim = c.in-Ended.ensures.aim in
    let key = access_key c.args.access.now in
    let row = row_is (access_locks c.loop-moves.access) key _ c.loop-moves.invariant.alone.row in
    let as_many = c.step.ensures.writes.as_many ∙ c.loop-moves.invariant.keeps.as_many in
    let free : access_locks c.step.new.self (lock_on key) ≡ lock_on key =
    ap (λ (a : AccessView). access_locks a (lock_on key)) aim.rests
    ∙ ended_free c.loop-moves.access.operation (lock_on key) (aim.ended.0 refl) in
    ends (g.K.PseudoKey.of_key c.args.keys.now) p c.args.pool.now c.step.new.self c.step.new.pool c.step.new.locks key
    (goes_on (g.K.PseudoKey.of_key c.args.keys.now) p c.args.pool.now c.loop-moves.access c.step.new.self
    c.loop-moves.pool c.step.new.pool c.loop-moves.locks c.step.new.locks _ key
    (c.loop-moves.invariant.goes p found b).0 c.loop-moves.invariant.key row c.in-Ended.ensures refl as_many)
    (follows (access_locks c.loop-moves.access) key _ c.loop-moves.invariant.alone.row
    (access_locks c.step.new.self) _ c.step.ensures.row
    ∙ ap (λ (held : List Lock). held ∷ []) free)

-- a transfer that is told has failed in the last step
pub returns-in-Fault-clause-cause : goal.returns-in-Fault-clause-cause
returns-in-Fault-clause-cause g c =
    let cause = c.step.ensures.cause c.in-Fault.fault c.in-Fault.is in
    record {
      page = cause.page;
      risen = λ is. risen_since _ _ _ c.loop-moves.invariant.keeps.later (cause.risen is);
    }

pub returns-in-Fault-clause-told : goal.returns-in-Fault-clause-told
returns-in-Fault-clause-told g c = λ p found b.
    let key = access_key c.args.access.now in
    let row = row_is (access_locks c.loop-moves.access) key _ c.loop-moves.invariant.alone.row in
    let spares = nears (g.K.PseudoKey.of_key c.args.keys.now) p c.args.pool.now c.loop-moves.access c.step.new.self
    c.loop-moves.pool c.step.new.pool c.loop-moves.locks c.step.new.locks _ key
    (c.loop-moves.invariant.goes p found b).0 c.loop-moves.invariant.key row c.in-Fault.ensures in
    record {
      risen = risen_since _ _ _ c.loop-moves.invariant.keeps.later spares.devices.risen;
      told = spares.devices.told;
    }

-- nobody else stands in the way
pub returns-in-Blocked-clause-told : goal.returns-in-Blocked-clause-told
returns-in-Blocked-clause-told g c = λ p found b.
    let key = access_key c.args.access.now in
    let row = row_is (access_locks c.loop-moves.access) key _ c.loop-moves.invariant.alone.row in
    absurd (blocked_by_none (g.K.PseudoKey.of_key c.args.keys.now) p c.args.pool.now c.loop-moves.access
    c.step.new.self c.loop-moves.pool c.step.new.pool c.loop-moves.locks c.step.new.locks _ key
    (c.loop-moves.invariant.goes p found b).0 c.loop-moves.invariant.key row c.in-Blocked.ensures refl _ refl
    c.loop-moves.invariant.alone.row)

-- and it has ended by then
pub returns-clause-told : goal.returns-clause-told
returns-clause-told g c = λ p found b.
    let few = (c.loop-moves.invariant.goes p found b).1 in
    let test = c.loop-moves-test.false in
    absurd (omega (arith, few, test))
