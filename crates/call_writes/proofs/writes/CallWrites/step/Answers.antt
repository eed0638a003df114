-- A step is refused, or nothing is left to do, or an access makes its step and is let go.
use Rattle.std.proofs.Common.{refl, sym, ap, ◌∙◌, subst, Ok, Result, Bool, Option, Some, rules}
use Rattle.std.specs.Option.{option_copied_mut}
use Rattle.std.proofs.lemmas.Bool.{true≢false}
use Rattle.call_writes.proofs.MakesLemmas.{makes_writes}
use Rattle.call_writes.proofs.WriteNames.{FileFault}
use Rattle.call_writes.specs.declared.writes.CallWrites.{CallWrites}
use Rattle.call_writes.specs.WriteWords.{AccessView}
use Rattle.call_writes.specs.MakeSteps.{Goes, HeldUp, Makes, Refuses, Rests, SetsOut, Stays}
use Rattle.call_writes.proofs.writes.CallWrites.step.Goals as goal
use Rattle.call_writes.proofs.writes.CallWrites.step.Goals.{then-owed+then-has_written, else-owed, else-owed-via-then-owed+else-has_written, else-owed-via-else-owed}

pub returns-in-Err : goal.returns-in-Err
returns-in-Err g c =
    makes_writes _ c.args.seat c.args.plan.now _ c.args.self.now _ c.args.pool.now _ c.args.locks.now _
    c.requires.seat c.requires.ready (Refuses c.in-Err.fault c.in-Err.ensures refl refl refl)

pub returns-in-Ok-false : goal.returns-in-Ok-false
returns-in-Ok-false g c =
    makes_writes _ c.args.seat c.args.plan.now _ c.args.self.now _ c.args.pool.now _ c.args.locks.now _
    c.requires.seat c.requires.ready
    (Rests (subst (λ (r : Result Bool FileFault). SetsOut (g.K.PseudoKey.of_key c.args.keys.now)
    c.args.plan.now r c.args.self.now c.set_out.new.self)
    (c.in-Ok-false.is ∙ ap Ok c.in-Ok-false.field-0-test) c.set_out.ensures) refl refl refl)

-- an access that has ended before is refused
pub returns-then-has_ended : goal.returns-then-has_ended
returns-then-has_ended g c =
    let left : Option AccessView → CallWrites = λ a. record { due = c.set_out.new.self.due; access = a } in
    let was = sym c.get_mut.ensures.value ∙ ap option_copied_mut c.in-Some.is in
    makes_writes _ c.args.seat c.args.plan.now _ c.args.self.now _ c.args.pool.now _ c.args.locks.now _
    c.requires.seat c.requires.ready
    (Makes c.set_out.new.self (left (Some c.in-Some.access.now)) _
    (subst (λ (r : Result Bool FileFault). SetsOut (g.K.PseudoKey.of_key c.args.keys.now)
    c.args.plan.now r c.args.self.now c.set_out.new.self)
    (c.in-Ok-true.is ∙ ap Ok c.in-Ok-true.field-0-test) c.set_out.ensures)
    (HeldUp (record {
      before = c.in-Some.access.now;
      was = was;
      ended = c.has_ended.ensures.ended.0 c.if-has_ended.true;
      fault = refl;
      same = sym (ap left was);
      pool_same = refl;
      locks_same = refl;
    })) (Stays refl refl (λ a found over. refl)))

pub returns : goal.returns
returns g c =
    makes_writes _ c.args.seat c.args.plan.now _ c.args.self.now _ c.args.pool.now _ c.args.locks.now _
    c.requires.seat c.requires.ready
    (Makes c.set_out.new.self c.if-owed.self c.step-did.result
    (subst (λ (r : Result Bool FileFault). SetsOut (g.K.PseudoKey.of_key c.args.keys.now)
    c.args.plan.now r c.args.self.now c.set_out.new.self)
    (c.in-Ok-true.is ∙ ap Ok c.in-Ok-true.field-0-test) c.set_out.ensures)
    (Goes (record {
      before = c.in-Some.access.now;
      was = sym c.get_mut.ensures.value ∙ ap option_copied_mut c.in-Some.is;
      going = λ over. true≢false (sym (c.has_ended.ensures.ended.1 over) ∙ c.if-has_ended.false);
      behind = c.step-did.new.self;
      is = elim c.if-owed.branch [ then-owed+then-has_written w ↦ search rules | else-owed w ↦ search rules ];
      made = c.step-did.ensures;
      due = elim c.if-owed.branch [
        | then-owed+then-has_written w ↦
            rw (w.self-is, sym w.if-owed.ensures, sym w.if-has_written.ensures) w.behind-self.ensures
        | else-owed w ↦ rw w.self-is (elim w.else-owed.branch [
          | else-owed-via-then-owed+else-has_written v ↦
              rw (v.self-is, sym v.if-owed.ensures, sym v.if-has_written.ensures) refl
          | else-owed-via-else-owed v ↦ rw (v.self-is, sym v.if-owed.ensures) refl
        ])
      ];
    })) c.settle.ensures)
