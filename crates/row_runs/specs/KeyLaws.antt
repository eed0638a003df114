-- Pseudokeys have 32 bits, which the law of `PseudoKey` cites.
use Rattle.std.proofs.Common.{ℕ, ◌<◌, ◌^◌, arith}
use Rattle.bucket_page.specs.declared.record_key.RecordKey.{RecordKey}
use Rattle.bucket_page.specs.PseudokeyLaws.{sha_key_small, number_key_small}
use Rattle.row_runs.specs.declared.keys.Keys.{Keys}
use Rattle.row_runs.specs.declared.keys.Keys.TheVariants.{Sha, Number, Zero}
use Rattle.row_runs.specs.Keys.{pseudokey}

pub pseudokey_small : (keys : Keys) (key : RecordKey) → pseudokey keys key < 2 ^ 32
pseudokey_small Sha key = sha_key_small key
pseudokey_small Number key = number_key_small key
pseudokey_small Zero key = omega arith
