-- Which buckets may be written by a split or a merge.
use Rattle.std.specs.Prelude.{ℕ, ◌<◌, ◌≤◌, length}
use Rattle.bucket_page.specs.Bucket.{Bucket}
use Rattle.bucket_page.specs.Dividing.{AreBuddies, FitTogether, ShareNoKey}
use Rattle.directory.specs.declared.layout.TheConstants.{GREATEST_DEPTH, ROOT_PAGE}
use Rattle.hash_file.specs.Store.{Store, bucket_at}
use Rattle.file_pages.specs.Writes.{IsBucketThere}

-- a page behind the directory is there
pub record IsThere (page : ℕ) (s : Store) : Type 0 where
  pub behind : ROOT_PAGE ≤ page
  pub within : page < length s.pages

-- a bucket is there that may be split
pub record MaySplit (page : ℕ) (s : Store) : Type 0 where
  pub there : IsBucketThere page s
  pub shallow : (bucket_at s page).depth < GREATEST_DEPTH

-- two buckets that may be made one
pub record AreJoinable (left right : Bucket) : Type 0 where
  pub buddies : AreBuddies left right
  pub apart : ShareNoKey left.records right.records
  pub room : FitTogether left.records right.records

-- two buckets are there that may be made one
pub record MayJoin (left right : ℕ) (s : Store) : Type 0 where
  pub left_there : IsBucketThere left s
  pub right_there : IsBucketThere right s
  pub joinable : AreJoinable (bucket_at s left) (bucket_at s right)
