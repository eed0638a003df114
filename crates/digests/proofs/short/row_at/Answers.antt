use Rattle.digests.proofs.ColumnLemmas.{below_four}
use Rattle.digests.proofs.short.row_at.Goals as goal

pub returns : goal.returns
returns c = below_four _ c.load.ensures c.load-2.ensures c.load-3.ensures c.load-4.ensures
