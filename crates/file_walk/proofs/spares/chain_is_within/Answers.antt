-- A page without a bucket is on no chain, and ranges that lie side by side are of different pages.
use Rattle.file_walk.proofs.SparesLemmas.{chain_room}
use Rattle.file_walk.proofs.spares.chain_is_within.Goals as goal

pub returns : goal.returns
returns c = chain_room c.args.file.now c.args.chain.now c.requires
