-- Small files by hand, in which the definitions compute: a bucket split twice, two merged, a freed page taken again.
-- Keys are numbers, and a key's pseudokey is its number. Each file is made by a change of one above it.
use Rattle.std.specs.Prelude.{ℕ, ◌≡◌, List, [], ◌∷◌, ◌++◌, map, replicate, take}
use Rattle.directory.specs.Ranges.{whole_range, lower_half_of, upper_half_of}
use Rattle.bucket_page.specs.declared.record_key.RecordKey.{RecordKey}
use Rattle.bucket_page.specs.declared.page.PageKind.TheVariants as kinds
use Rattle.bucket_page.specs.Bucket.{bucket}
use Rattle.bucket_page.specs.Records.{Pair, pair}
use Rattle.hash_file.specs.Store.{Store, page_at, records_at}
use Rattle.hash_file.specs.Chain.{chain}
use Rattle.hash_file.specs.Change.{Quiet, Taken, Filled, Linked, Absorbed, Buried, Drained, Freed}
use Rattle.hash_file.specs.Sound.{IsSoundFile}
use Rattle.hash_file.specs.Changes.{Put, write_record, take_page, copy_directory, raise_depth, write_new, write_old, retarget, set_counts, split_counts, merge_counts, write_left, write_tombstone, write_free, link_free, lower_depth}

abbrev pub number_of : RecordKey → ℕ
number_of key = key.number

abbrev pub key : ℕ → RecordKey
key n = record { kind = 0; queue = 0; number = n }

abbrev pub one : ℕ → Pair
one n = pair (key n) (n ∷ [])

abbrev pub put : ℕ → ℕ → Store → Store
put page n s = write_record page (Put (one n)) s

-- the numbers of the records on a page
abbrev pub numbers_at : Store → ℕ → List ℕ
numbers_at s n = map (λ (p : Pair). p.key.number) (records_at s n)

-- a file of four pages from the root on, with three records in its one bucket
abbrev pub first : Store
first = record {
  layout = record { root = 257; greatest = 3 };
  header = record { depth = 0; pages = 261; first_free = 258; counts = 1 ∷ 0 ∷ 0 ∷ 0 ∷ [] };
  entries = 257 ∷ replicate 7 0;
  pages = replicate 257 (kinds.Free 0)
      ++ kinds.Bucket (bucket 0 0 0 (one 0 ∷ one 1 ∷ one 2 ∷ []))
      ∷ kinds.Free 259 ∷ kinds.Free 260 ∷ kinds.Free 0 ∷ [];
}

-- ---- two splits: the record of 3 does not fit, then that of 6

abbrev pub doubled : Store
doubled = raise_depth (copy_directory 1 (take_page first))

abbrev pub filled : Store
filled = write_new number_of 257 258 doubled

abbrev pub linked : Store
linked = write_old number_of 257 258 filled

abbrev pub retargeted : Store
retargeted = retarget 1 (upper_half_of whole_range) 258 linked

abbrev pub split : Store
split = set_counts (split_counts 0 retargeted.header.counts) retargeted

abbrev pub with_3 : Store
with_3 = put 258 3 split

abbrev pub with_4 : Store
with_4 = put 257 4 with_3

abbrev pub filled_again : Store
filled_again = write_new number_of 257 259 (raise_depth (copy_directory 1 (take_page with_4)))

abbrev pub linked_again : Store
linked_again = write_old number_of 257 259 filled_again

abbrev pub split_again : Store
split_again =
    let named : Store = retarget 1 (upper_half_of (lower_half_of whole_range)) 259 linked_again in
    set_counts (split_counts 1 named.header.counts) named

abbrev pub with_6 : Store
with_6 = put 259 6 split_again

-- ---- a merge

abbrev pub absorbed : Store
absorbed = write_left 257 258 with_3

abbrev pub buried : Store
buried = write_tombstone 257 258 absorbed

abbrev pub drained : Store
drained =
    let named : Store = retarget 1 (upper_half_of whole_range) 257 buried in
    set_counts (merge_counts 0 named.header.counts) named

abbrev pub freed : Store
freed = write_free 258 drained

abbrev pub merged_whole : Store
merged_whole = link_free 258 freed

abbrev pub halved : Store
halved = lower_depth merged_whole

-- ---- what comes of them

pub record TwoSplits : Type 0 where
  pub first_chain : chain with_3 ≡ 257 ∷ 258 ∷ []
  pub first_lower : numbers_at with_3 257 ≡ 0 ∷ 2 ∷ []
  pub first_upper : numbers_at with_3 258 ≡ 1 ∷ 3 ∷ []
  pub first_counts : with_3.header.counts ≡ 0 ∷ 2 ∷ 0 ∷ 0 ∷ []
  pub chain : chain with_6 ≡ 257 ∷ 259 ∷ 258 ∷ []
  pub lower : numbers_at with_6 257 ≡ 0 ∷ 4 ∷ []
  pub upper : numbers_at with_6 259 ≡ 2 ∷ 6 ∷ []
  pub other : numbers_at with_6 258 ≡ 1 ∷ 3 ∷ []
  pub depth : with_6.header.depth ≡ 2
  pub entries : take 4 with_6.entries ≡ 257 ∷ 258 ∷ 259 ∷ 258 ∷ []
  pub counts : with_6.header.counts ≡ 0 ∷ 1 ∷ 2 ∷ 0 ∷ []
  pub free : with_6.header.first_free ≡ 260

pub record MergeAndHalving : Type 0 where
  pub both : numbers_at absorbed 257 ≡ 0 ∷ 1 ∷ 2 ∷ 3 ∷ []
  pub still : numbers_at absorbed 258 ≡ 1 ∷ 3 ∷ []
  pub off : chain absorbed ≡ 257 ∷ []
  pub tombstone : page_at buried 258 ≡ kinds.Tombstone 257
  pub entries : take 2 drained.entries ≡ 257 ∷ 257 ∷ []
  pub free_page : page_at freed 258 ≡ kinds.Free 259
  pub free : halved.header.first_free ≡ 258
  pub depth : halved.header.depth ≡ 0
  pub counts : halved.header.counts ≡ 1 ∷ 0 ∷ 0 ∷ 0 ∷ []
  pub chain : chain halved ≡ 257 ∷ []

-- the next split takes the freed page again
abbrev pub taken_again : Store
taken_again =
    write_old number_of 257 258
    (write_new number_of 257 258 (raise_depth (copy_directory 1 (take_page halved))))

pub record FreedPageTakenAgain : Type 0 where
  pub chain : chain taken_again ≡ 257 ∷ 258 ∷ []
  pub lower : numbers_at taken_again 257 ≡ 0 ∷ 2 ∷ []
  pub upper : numbers_at taken_again 258 ≡ 1 ∷ 3 ∷ []
  pub free : taken_again.header.first_free ≡ 259

-- ---- and all of them are sound, each in its phase

pub record AreSound : Type 0 where
  pub first : IsSoundFile number_of first Quiet
  pub doubled : IsSoundFile number_of doubled (Taken 258)
  pub filled : IsSoundFile number_of filled (Filled 257 258)
  pub linked : IsSoundFile number_of linked (Linked 257 258 whole_range)
  pub retargeted : IsSoundFile number_of retargeted (Linked 257 258 whole_range)
  pub split : IsSoundFile number_of split Quiet
  pub with_3 : IsSoundFile number_of with_3 Quiet
  pub absorbed : IsSoundFile number_of absorbed (Absorbed 257 258 whole_range)
  pub buried : IsSoundFile number_of buried (Buried 257 258 whole_range)
  pub drained : IsSoundFile number_of drained (Drained 257 258)
  pub freed : IsSoundFile number_of freed (Freed 258)
  pub merged_whole : IsSoundFile number_of merged_whole Quiet
  pub halved : IsSoundFile number_of halved Quiet
