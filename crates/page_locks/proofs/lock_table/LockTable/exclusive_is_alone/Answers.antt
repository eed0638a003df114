use Rattle.page_locks.proofs.WriterLemmas.{exclusive_alone}
use Rattle.page_locks.proofs.lock_table.LockTable.exclusive_is_alone.Goals as goal

pub returns : goal.returns
returns c = λ seat other name apart. exclusive_alone c.args.self.now c.keeps_limits.ensures.pairs seat other name apart
