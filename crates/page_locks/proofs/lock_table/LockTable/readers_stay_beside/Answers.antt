use Rattle.page_locks.proofs.WriterLemmas.{beside_selective}
use Rattle.page_locks.proofs.lock_table.LockTable.readers_stay_beside.Goals as goal

pub returns : goal.returns
returns c = λ seat other name kind apart.
    beside_selective c.args.self.now c.keeps_limits.ensures.pairs seat other name apart kind
