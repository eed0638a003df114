-- A type that stands on the list is found.
use Rattle.std.proofs.Common.{to_z, of_z, w64, sym, subst}
use Rattle.std.specs.List.{Contains}
use Rattle.std.proofs.lemmas.Int.{to_z-of_z}
use Rattle.record_walk.proofs.ListLemmas.{search_failed}
use Rattle.record_walk.proofs.lists.place_of_type.Goals as goal

pub returns-in-Err-clause-there : goal.returns-in-Err-clause-there
returns-in-Err-clause-there c =
    let m = to_z-of_z w64 c.args.mtype c.ranges.mtype in
    absurd (search_failed (to_z w64 (of_z w64 c.args.mtype)) c.args.list.now c.requires.ascend c.in-Err.field-0
    c.in-Err.ensures.bound c.in-Err.ensures.position (subst (Contains c.args.list.now) (sym m) c.requires.stands))
