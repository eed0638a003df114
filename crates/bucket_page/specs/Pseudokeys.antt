-- Pseudokeys, and which of them a bucket holds.
use Rattle.std.specs.Prelude.{ℕ, ◌^◌, ◌%◌}
use Rattle.sha2.specs.Sha256.{sha256}
use Rattle.bucket_page.specs.declared.record_key.RecordKey.{RecordKey}
use Rattle.directory.specs.numbers.Numbers.{four_at}
use Rattle.bucket_page.specs.Keys.{key_bytes}

-- the first four bytes of the key's digest; unfoldable, so that it never computes
unfoldable pub sha_key : RecordKey → ℕ
sha_key key = four_at 0 (sha256 (key_bytes key))

-- the low 32 bits of the key's number
abbrev pub number_key : RecordKey → ℕ
number_key key = key.number % 2 ^ 32
