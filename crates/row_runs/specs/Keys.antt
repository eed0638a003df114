-- The pseudokeys of the files of rows.
use Rattle.std.specs.Prelude.{ℕ}
use Rattle.bucket_page.specs.declared.record_key.RecordKey.{RecordKey}
use Rattle.bucket_page.specs.Pseudokeys.{sha_key, number_key}
use Rattle.row_runs.specs.declared.keys.Keys.{Keys}
use Rattle.row_runs.specs.declared.keys.Keys.TheVariants.{Sha, Number, Zero}

-- that of a key by digests or by numbers, or 0
abbrev pub pseudokey : Keys → RecordKey → ℕ
pseudokey Sha key = sha_key key
pseudokey Number key = number_key key
pseudokey Zero key = 0
