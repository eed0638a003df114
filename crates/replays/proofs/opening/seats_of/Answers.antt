use Rattle.replays.proofs.OpeningLemmas.{greatest_within}
use Rattle.replays.proofs.opening.seats_of.Goals as goal

pub returns : goal.returns
returns c =
    let within = greatest_within c.args.script.now c.keeps_seats.ensures in
    record {
      value = c.greatest_seat.ensures;
      some = rw c.greatest_seat.ensures within.0;
      few = rw c.greatest_seat.ensures within.1;
    }
