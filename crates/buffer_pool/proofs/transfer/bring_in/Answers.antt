-- A page that has a frame is in it.
use Rattle.std.proofs.Common.{◌∙◌, sym}
use Rattle.buffer_pool.proofs.TableLemmas.{within_if_found}
use Rattle.buffer_pool.proofs.transfer.bring_in.Goals as goal

pub touch-requires : goal.touch-requires
touch-requires g c = within_if_found _ c.in-Some.frame c.args.page
    (c.requires.sound.whole.in_frame c.args.page c.in-Some.frame (sym c.place.ensures ∙ c.in-Some.is))
