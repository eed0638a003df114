use Rattle.std.proofs.Common.{Ok, sym, ◌∙◌}
use Rattle.frames.proofs.GivenLaws.{incoming_is}
use Rattle.frames.proofs.reading.incoming.Goals as goal

pub returns : goal.returns
returns c = incoming_is _ _ _ (Ok _) (sym c.read.ensures ∙ c.in-Some.is) c.in_ok-kind.ensures
