use Rattle.split_merge.proofs.EntryLemmas.{behind_covered}
use Rattle.split_merge.proofs.merge_place.Joint.behind_entry.Goals as goal

pub retargets_from-requires-clause-covered : goal.retargets_from-requires-clause-covered
retargets_from-requires-clause-covered c =
    rw (c.from.ensures, c.stride.ensures)
    (behind_covered c.args.self c.requires.entry.joint c.args.entry c.requires.entry.covered)
