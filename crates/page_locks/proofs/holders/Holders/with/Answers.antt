use Rattle.page_locks.proofs.HolderLemmas.{ChangesSeat-read}
use Rattle.page_locks.proofs.holders.Holders.with.Goals as goal

-- a reader's bit is its own
pub returns-in-Read : goal.returns-in-Read
returns-in-Read c =
    rw c.in-Read.is (ChangesSeat-read c.args.self c.args.seat c.requires.some c.requires.few c.requires.fresh)
