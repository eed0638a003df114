use Rattle.std.proofs.Common.{◌≡◌, refl, sym, ap, ◌∙◌, subst, ℕ, ◌≤◌, length, arith}
use Rattle.std.proofs.lemmas.Option.{slice_get_read}
use Rattle.msgq_cli.specs.declared.line.Line.{Line}
use Rattle.replays.specs.Events.{BeginsCommand, told}
use Rattle.replays.specs.Places.{ProgressState}
use Rattle.replays.specs.declared.progress.Place.{Place}
use Rattle.replays.proofs.PlaceLemmas.{next_is_seat, next_within}
use Rattle.replays.proofs.line_events.begin_next.Goals as goal

-- the next line of a seat is one of the script
pub bounds-lines-place : goal.bounds-lines-place
bounds-lines-place g c =
    let next = sym (ap (λ (p : Place). p.next) c.place.ensures) ∙ c.in-Some.is in
    rw c.lines.ensures (next_within c.args.script.now c.args.seat c.in-Some.place c.keeps_order.ensures next)

pub offset_bounds-lines-place : goal.offset_bounds-lines-place
offset_bounds-lines-place g c =
    let next = sym (ap (λ (p : Place). p.next) c.place.ensures) ∙ c.in-Some.is in
    let within = next_within c.args.script.now c.args.seat c.in-Some.place c.keeps_order.ensures next in
    let long : length c.lines.result.now ≡ length c.args.script.now.lines = ap length c.lines.ensures in
    let few = c.lines.type_inv.1 in
    omega (arith, within, long, few)

-- its command was begun, and it is replied at once or goes on
pub returns : goal.returns
returns g c =
    let next = sym (ap (λ (p : Place). p.next) c.place.ensures) ∙ c.in-Some.is in
    let within = next_within c.args.script.now c.args.seat c.in-Some.place c.keeps_order.ensures next in
    let is = rw c.lines.ensures at c.index-lines-place.is in
    let begins = rw c.lines.ensures at c.begin_command-reply.ensures in
    let place = c.in-Some.place in
    let is_seat = next_is_seat c.args.script.now.places c.args.seat place next in
    let reply = c.begin_command-reply.result in
    rw next (record {
      seat_is = (is_seat.0, subst (λ (n : ℕ). c.args.seat ≤ n) c.requires.seats is_seat.1);
      line = c.index-lines-place.result;
      stands = slice_get_read c.args.script.now.lines (length c.args.script.now.lines) place c.index-lines-place.result
          refl within is;
      reply = reply;
      kernel = subst (λ (l : Line). BeginsCommand c.args.seat l.command reply c.args.kernel.now
          c.begin_command-reply.new.kernel) (sym is) begins;
      script = c.tell.ensures ∙ ap (λ (s : ProgressState). told c.args.seat place reply s) c.begin.ensures;
      did_is = c.deed_at_once-deed.ensures;
    })
