use Rattle.std.proofs.Common.{refl, sym, true, ◌∙◌}
use Rattle.replays.specs.Texts.{Effects}
use Rattle.msgq.proofs.NewLemmas.{one_new, several_new}
use Rattle.msgq.proofs.scripts.serve_beside.Goals as goal

-- all lines are of one seat
pub returns-then-is_of_one_seat : goal.returns-then-is_of_one_seat
returns-then-is_of_one_seat g c =
    one_new c.args.text.now c.in-Ok.script c.in-Ok.ensures c.serve_text.result c.args.output.now
    c.serve_text.new.output (sym c.is_of_one_seat.ensures ∙ c.if-is_of_one_seat.true) c.serve_text.ensures

-- or they are of several, and the file is new
pub returns : goal.returns
returns g c =
    let new = c.in_default.ensures.ok refl in
    let effects : Effects = record {
      content = c.format.new.device;
      left = c.run_on-ending.result.device;
      synced = true;
      was = 0;
      faults = 0;
      old = c.args.output.now;
      new = c.run_on-ending.new.output;
      untold = c.run_on-ending.result.is_untold;
    } in
    several_new c.args.text.now c.in-Ok.script c.in-Ok.ensures c.run_on-ending.result.ending effects
    (sym c.is_of_one_seat.ensures ∙ c.if-is_of_one_seat.false) new c.run_on-ending.ensures.ran
