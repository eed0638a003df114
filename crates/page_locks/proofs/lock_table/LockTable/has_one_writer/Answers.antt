use Rattle.page_locks.proofs.WriterLemmas.{one_writer}
use Rattle.page_locks.proofs.lock_table.LockTable.has_one_writer.Goals as goal

pub returns : goal.returns
returns c = λ name. one_writer c.args.self.now name c.keeps_limits.ensures.pairs
