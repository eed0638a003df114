-- For each change one that is wrong, in the small files made by hand: none leaves the file sound, or holding what it
-- held.
use Rattle.std.specs.Prelude.{true, false, List}
use Rattle.directory.specs.Ranges.{whole_range, lower_half_of}
use Rattle.bucket_page.specs.Records.{Pair}
use Rattle.bucket_page.specs.Dividing.{with_bit, joined, upper_half}
use Rattle.hash_file.specs.Store.{Store, bucket_at, records_at}
use Rattle.hash_file.specs.Change.{Change, Quiet, Taken, Linked, Buried, Freed}
use Rattle.hash_file.specs.Sound.{IsSoundFile}
use Rattle.hash_file.specs.Changes.{with_bucket, take_page, raise_depth, write_old, set_counts, split_counts, write_left, write_tombstone, write_free, link_free, lower_depth}
use Rattle.hash_file.specs.Kept.{KeepsContents}
use Rattle.hash_file.specs.Examples.{number_of, put, first, doubled, linked, retargeted, split, with_3, with_4, with_6, filled_again, buried, drained}

abbrev IsUnsound : Store → Change → Type 0
IsUnsound s c = IsSoundFile number_of s c → ⊥

abbrev LosesContents : Store → Store → Type 0
LosesContents old new = KeepsContents old new → ⊥

-- the records of both halves go by the bit behind the one that parts them
abbrev pub parted_wrongly : Store
parted_wrongly =
    let lower : List Pair = with_bit false 1 number_of (records_at doubled 257) in
    let upper : List Pair = with_bit true 1 number_of (records_at doubled 257) in
    with_bucket 257 (record (bucket_at linked 257) { records = lower })
    (with_bucket 258 (record (bucket_at linked 258) { records = upper }) linked)

pub record WrongChanges : Type 0 where
  -- WriteRecord, in a bucket whose range has not the pseudokey
  pub record_in_another_bucket : IsUnsound (put 257 5 split) Quiet
  -- TakePage, of a page that stays on the free list
  pub taken_page_stays_free : IsUnsound first (Taken 258)
  -- RaiseDepth, with no CopyDirectory before it
  pub entries_not_copied : IsUnsound (raise_depth (take_page first)) (Taken 258)
  -- WriteNew, with the next link of the last bucket
  pub new_bucket_ends_the_chain : IsUnsound (write_old number_of 257 259 (with_bucket 259
      (record (upper_half number_of (bucket_at with_4 257)) { next = 0 }) filled_again))
      (Linked 257 259 (lower_half_of whole_range))
  -- WriteNew and WriteOld, with records parted by a bit further up
  pub parted_by_the_next_bit : IsUnsound parted_wrongly (Linked 257 258 whole_range)
  -- WriteOld, with no WriteNew before it
  pub old_bucket_first : LosesContents doubled (write_old number_of 257 258 doubled)
  -- SetCounts, with no Retarget before it
  pub never_retargets : IsUnsound (set_counts (split_counts 0 linked.header.counts) linked) Quiet
  -- the end of a split with no SetCounts
  pub counts_not_set : IsUnsound retargeted Quiet
  -- WriteLeft, of the left bucket's records alone
  pub keeps_only_the_left : LosesContents with_3
      (with_bucket 257 (record (joined (bucket_at with_3 257) (bucket_at with_3 258)) {
        records = records_at with_3 257;
      }) with_3)
  -- Tombstone, that names the page behind the right one
  pub tombstone_to_the_next_page : IsUnsound (write_tombstone 258 259 (write_left 257 259 with_6))
      (Buried 257 259 (lower_half_of whole_range))
  -- WriteFree, while an entry names the page
  pub frees_without_drain : IsUnsound (write_free 258 buried) (Freed 258)
  -- LinkFree, of a page that is a tombstone still
  pub links_a_tombstone : IsUnsound (link_free 258 drained) Quiet
  -- LowerDepth, while a bucket is as deep
  pub depth_lowered_below_a_bucket : IsUnsound (lower_depth split) Quiet
