-- A deed done at once: the bucket that was looked at, and why what was written is that of the deed.
use Rattle.std.proofs.Common.{◌≡◌, refl, sym, ap, ◌∙◌, subst, ℕ, ◌+◌, ◌≤◌, ◌<◌, true, false, List, [], length, Option, Some, None, IfNone, IfSome, IsSome, Ok, is_some, slice_get, slice_set}
use Rattle.std.proofs.lemmas.Option.{get_or_from_slice_get, slice_get_within}
use Rattle.std.specs.Borrow.{Bor}
use Rattle.std.specs.Option.{option_map}
use Rattle.std.specs.Prelude.{unwrap_or}
use Rattle.bucket_page.specs.Bucket.{Bucket}
use Rattle.bucket_page.specs.Changes.{Changes, IsBucketPage, IsPlace, fronted, inserted, place_in, removed}
use Rattle.bucket_page.specs.Reading.{bucket_in, page_in, records_in}
use Rattle.bucket_page.specs.declared.layout.TheConstants.{RECORD_HEAD_BYTES, ROOM_BYTES}
use Rattle.bucket_page.specs.declared.place.Place.{Place}
use Rattle.directory.specs.declared.layout.TheConstants.{ROOT_PAGE}
use Rattle.file_pages.proofs.PageLemmas.{copied_was}
use Rattle.file_pages.proofs.ReadLemmas.{seen}
use Rattle.file_pages.proofs.RecordLemmas.{stored_there, writes_there}
use Rattle.file_pages.proofs.StoreLemmas.{page_is, pages_are}
use Rattle.file_pages.specs.Files.{image}
use Rattle.file_pages.specs.Reads.{sight_of}
use Rattle.file_pages.specs.Writes.{IsBucketThere}
use Rattle.hash_file.specs.Changes.{RecordWrite, records_after, write_record}
use Rattle.hash_file.specs.Store.{is_bucket}
use Rattle.record_file.specs.Words.{RecordKey, Pair, pair, lookup, record_bytes, value_of_key, PoolState, IsReady, OnlyWrites, Put, Replace, Remove, store_of, records_at}
use Rattle.record_file.specs.AccessWords.{Links, value_of}
use Rattle.record_file.specs.BucketAccesses.{has_room, is_due, with_front}
use Rattle.record_file.specs.Readings.{HasFrontOn, HasFrontSet}
use Rattle.record_file.specs.WritesAhead.{IsBucketAhead, WritesOn}
use Rattle.record_file.specs.declared.bucket_access.Deed.TheVariants as deeds
use Rattle.record_file.proofs.ReadLemmas.{some_of}
use Rattle.record_file.proofs.RoomLemmas.{room_is}

-- ---- the bucket that was looked at

module _ (images : List (List ℕ)) (page : ℕ) (payload : List ℕ) (behind : ROOT_PAGE ≤ page)
    (here : slice_get images page ≡ Some payload) where
  within : page < length images
  within = slice_get_within images page payload here

  same : payload ≡ image images page
  same = sym (get_or_from_slice_get images page payload [] here)

  there : IsBucketPage payload → IsBucketThere page (store_of images)
  there bucket = record {
    behind = behind;
    within = subst (λ (n : ℕ). page < n) (sym (pages_are images)) within;
    bucket = ap is_bucket (page_is images page behind within ∙ ap page_in (sym same))
        ∙ (seen (Ok (sight_of (bucket_in payload))) payload bucket refl).bucket;
  }

  pub ahead_if : (r : Option Bucket) → IfSome r (λ (b : Bucket). IsBucketPage payload × (b ≡ bucket_in payload)) →
      IfSome r (IsBucketAhead page images)
  ahead_if None told = tt
  ahead_if (Some b) told = record {
    there = there told.0;
    is = told.1 ∙ sym (copied_was images page payload same behind within told.0);
    image = λ other here'.
        let one = some_of payload other (sym here ∙ here') in
        (subst IsBucketPage one told.0, told.1 ∙ ap bucket_in one);
  }

-- ---- what the walk told

module _ (key : RecordKey) (b : Bucket) (told : Option (Bor (List ℕ))) where
  pub none_told : told ≡ None → IfNone told (lookup key b.records ≡ None) → lookup key b.records ≡ None
  none_told is none = subst (λ (r : Option (Bor (List ℕ))). IfNone r (lookup key b.records ≡ None)) is none

  pub some_told : (value : Bor (List ℕ)) → told ≡ Some value →
      IfSome told (λ (v : Bor (List ℕ)). lookup key b.records ≡ Some v.now) → lookup key b.records ≡ Some value.now
  some_told value is some =
      subst (λ (r : Option (Bor (List ℕ))). IfSome r (λ (v : Bor (List ℕ)). lookup key b.records ≡ Some v.now)) is some

-- no merge is due by what the bucket told of itself
pub not_due : (b : Bucket) (depth used n : ℕ) → depth ≡ b.depth → used ≡ length (record_bytes b.records) →
    false ≡ is_due depth used n → is_due b.depth (length (record_bytes b.records)) n ≡ false
not_due b depth used n deep full none = (λ j. is_due (sym deep j) (sym full j) n) ∙ sym none

-- ---- the place of its key in the image that is lent

module _ (images : List (List ℕ)) (page : ℕ) (b : Bucket) (ahead : IsBucketAhead page images b) (key : RecordKey)
    (place : Place) (placed : place ≡ place_in key b.records) (old : List ℕ) (here : slice_get images page ≡ Some old)
  where
    pub bucket_here : IsBucketPage old
    bucket_here = (ahead.image old here).0

    pub says_here : b ≡ bucket_in old
    says_here = (ahead.image old here).1

    pub placed_here : IsPlace place (records_in old)
    placed_here = placed ∙ (λ j. place_in (ap (λ (p : Place). p.key) (sym placed) j) (says_here j).records)

    pub held_here : (value : Option (List ℕ)) → lookup key b.records ≡ value → lookup place.key (records_in old) ≡ value
    held_here value was = (λ j. lookup (ap (λ (p : Place). p.key) placed j) (sym says_here j).records) ∙ was

    pub long_here : (value front : List ℕ) → lookup key b.records ≡ Some value → length front ≤ length value →
        length front ≤ length (value_of_key place.key (records_in old))
    long_here value front was short =
        subst (λ (x : Option (List ℕ)). length front ≤ length (unwrap_or x [])) (sym (held_here (Some value) was)) short

    pub some_here : (value : List ℕ) → lookup key b.records ≡ Some value → IsSome (lookup place.key (records_in old))
    some_here value was = ap is_some (held_here (Some value) was)

    pub room_here : (n : ℕ) → has_room (length (record_bytes b.records)) n ≡ true →
        length (record_bytes (records_in old)) + (RECORD_HEAD_BYTES + n) ≤ ROOM_BYTES
    room_here n room =
        subst (λ (x : Bucket). length (record_bytes x.records) + (RECORD_HEAD_BYTES + n) ≤ ROOM_BYTES) says_here
        (room_is (length (record_bytes b.records)) n room)

-- ---- what was written

module _ (pool pool' : PoolState) (ready : IsReady pool) (page : ℕ) (key : RecordKey) (b : Bucket)
    (ahead : IsBucketAhead page pool.images b) (place : Place) (placed : place ≡ place_in key b.records)
    (old new : List ℕ) (here : slice_get pool.images page ≡ Some old)
    (stored : pool' ≡ record pool { images = slice_set pool.images page new }) where
  held_there : (value : Option (List ℕ)) → lookup key b.records ≡ value →
      lookup key (records_at (store_of pool.images) page) ≡ value
  held_there value was = ap (λ (x : Bucket). lookup key x.records) (sym ahead.is) ∙ was

  -- any record of the bucket
  module _ (w : RecordWrite) (changes : Changes (records_after w) old new) where
    bucket : IsBucketPage old
    bucket = (ahead.image old here).0

    written : store_of pool'.images ≡ write_record page w (store_of pool.images)
    written = ap (λ (p : PoolState). store_of p.images) stored
        ∙ stored_there pool page old new here ahead.there.behind bucket w changes

    writes : OnlyWrites true pool pool'
    writes = writes_there pool page old new here ahead.there.behind bucket w changes pool' ready stored

  -- a put
  pub put_done : (value : List ℕ) → lookup key b.records ≡ None →
      has_room (length (record_bytes b.records)) (length value) ≡ true →
      Changes (inserted (pair place.key value)) old new → WritesOn deeds.Put page None key value pool pool'
  put_done value none room changes =
      let w : RecordWrite = Put (pair key value) in
      let change = subst (λ (p : Place). Changes (inserted (pair p.key value)) old new) placed changes in
      record {
        has = sym (ap (option_map length) (held_there None none));
        last = subst (λ (x : Bucket). length (record_bytes x.records) + (RECORD_HEAD_BYTES + length value)
            ≤ ROOM_BYTES) ahead.is (room_is (length (record_bytes b.records)) (length value) room);
        writes = writes w change;
        is = λ honest. written w change;
      }

  -- a replace, and a removal
  module _ (value : List ℕ) (has : lookup key b.records ≡ Some value) where
    length_is : Some (length value) ≡ option_map length (lookup key (records_at (store_of pool.images) page))
    length_is = sym (ap (option_map length) (held_there (Some value) has))

    pub replace_done : (front : List ℕ) → Changes (fronted place.key front) old new →
        WritesOn deeds.Replace page (Some (length value)) key front pool pool'
    replace_done front changes =
        let store : List Pair → RecordWrite =
        λ (ps : List Pair). Replace (pair key (with_front front (value_of_key key ps))) in
        let change = subst (λ (p : Place). Changes (fronted p.key front) old new) placed changes in
        let same : records_in old ≡ records_at (store_of pool.images) page =
        ap (λ (x : Bucket). x.records) (sym (ahead.image old here).1 ∙ ahead.is) in
        record {
          has = length_is;
          last = refl;
          writes = writes (store (records_in old)) change;
          is = λ honest. written (store (records_in old)) change
              ∙ ap (λ (ps : List Pair). write_record page (store ps) (store_of pool.images)) same;
        }

    -- the front of the value with links set in it is that of the value there
    pub front_on : (links : Links) (front : List ℕ) → HasFrontSet value links front →
        HasFrontOn page (length value) key pool links front
    front_on links front set = record {
      within = set.long;
      whole = set.whole;
      set = λ r such here.
          set.set r such (some_of value (value_of r) (sym (held_there (Some value) has) ∙ here));
    }

    pub remove_done : (bytes : List ℕ) →
        is_due b.depth (length (record_bytes b.records)) (length value) ≡ false →
        Changes (removed place.key) old new → WritesOn deeds.Remove page (Some (length value)) key bytes pool pool'
    remove_done bytes due changes =
        let change = subst (λ (p : Place). Changes (removed p.key) old new) placed changes in
        record {
          has = length_is;
          last = subst (λ (x : Bucket). is_due x.depth (length (record_bytes x.records)) (length value) ≡ false)
              ahead.is due;
          writes = writes (Remove key) change;
          is = λ honest. written (Remove key) change;
        }
