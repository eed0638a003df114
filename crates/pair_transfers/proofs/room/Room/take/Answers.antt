-- What has no memory has zeros, and takes zeros.
use Rattle.std.proofs.Common.{rules, ◌≡◌, ◌∙◌, sym, [], length}
use Rattle.std.specs.Vec.{vec_len}
use Rattle.pair_transfers.proofs.RoomLemmas.{has_none, stays}
use Rattle.pair_transfers.specs.declared.room.TheConstants.{ZEROS}
use Rattle.pair_transfers.proofs.room.Room.take.Goals as goal

pub returns : goal.returns
returns c =
    let many : vec_len c.self.inside.pages ≡ length c.self.inside.pages.items = search rules in
    let none : c.self.inside.pages.items ≡ [] =
    has_none _ _ many (sym c.is_empty.ensures ∙ c.if-not-is_empty.false) in
    stays ZEROS c.self.inside.pages.items c.add.new.pages.items c.add.result none c.add.ensures.ok c.add.ensures.err
    ∙ c.self.view_is
