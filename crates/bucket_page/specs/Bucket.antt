-- What a bucket says, apart from its bytes.
use Rattle.std.specs.Prelude.{ℕ, List}
use Rattle.bucket_page.specs.Records.{Pair}

-- the records whose pseudokeys have the bits of the pattern as their low bits, as many as the depth
-- says; the next page on the chain is 0 for the last
pub record Bucket : Type 0 where
  pub depth : ℕ
  pub pattern : ℕ
  pub next : ℕ
  pub records : List Pair

abbrev pub bucket : ℕ → ℕ → ℕ → List Pair → Bucket
bucket depth pattern next records =
    record { depth = depth; pattern = pattern; next = next; records = records }
