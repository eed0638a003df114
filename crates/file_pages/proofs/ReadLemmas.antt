-- A page that is pinned, read and given back: what the pool is then, and why it was not pinned.
use Rattle.std.proofs.Common.{◌≡◌, refl, ◌∙◌, sym, ap, subst, ℕ, zero, suc, ◌-◌, ◌<◌, ◌≤◌, List, [], Bool, true, IsTrue, Option, None, Some}
use Rattle.std.proofs.Common.{length, arith, slice_get, slice_set, Result, Ok, Err, IsErr, IsErrAnd, IsErrOf, IfErr, IfOk, IfNone, IfSome, ◌⊎◌, inl, inr}
use Rattle.file_pages.proofs.Names.{Bucket, DIRECTORY_PAGES, Device, HasRisen, IsBucketPage, IsCrowded, IsWell, KeepsSeals, Malformed, MayNotPin, NoMemory, PageKind, PoolFault, PoolState, ROOT_PAGE, RecordKey, Spells, TooFewFrames, bucket_again, bucket_in, bucket_of, cases_lt, count_none, directory_well, entries_at, get_or_from_slice_get, is_bucket, lookup, page_at, page_in, page_is, pins_at, records_in, rest_again}
use Rattle.buffer_pool.proofs.SparedLemmas.{spared_is}
use Rattle.std.specs.Option.{option_map}
use Rattle.std.specs.Result.{result_ok}
use Rattle.directory.specs.Entries.{slot_at}
use Rattle.page_device.specs.declared.fault.DeviceFault.TheVariants as device
use Rattle.bucket_page.specs.declared.page.PageKind.TheVariants as kinds
use Rattle.file_pages.specs.declared.fault.FileFault.{FileFault}
use Rattle.file_pages.specs.declared.fault.FileFault.TheVariants.{Pool}
use Rattle.file_pages.specs.declared.sight.BucketSight.{BucketSight}
use Rattle.file_pages.specs.Fault.{FileHasCause, IsDevicesFault, IsOfPage}
use Rattle.file_pages.specs.Files.{store_of, image, SpellsFile, IsFilePool, IsReady}
use Rattle.file_pages.specs.Pinning.{IsPinned}
use Rattle.file_pages.proofs.StoreLemmas.{page_is as stored_page_is}
use Rattle.file_pages.specs.Reads.{IsCopied, IsSeen, OnlyReads, sight_of}

-- the seals of a file stay, where those of its pool do
file_kept : (s t : PoolState) → t.images ≡ s.images → KeepsSeals s.stored t.stored → IsFilePool s → IsFilePool t
file_kept s t same seals f = record {
  file = subst SpellsFile (sym same) f.file;
  sealed = λ n within. seals n (f.sealed n (subst (λ (xs : List (List ℕ)). n < length xs) same within));
}

-- the pool after a page was pinned and given back
pub only_reads : (ok : Bool) (s t u : PoolState) (page right : ℕ) → IsReady s → IsPinned page s t right
    → u ≡ record t { pins = slice_set t.pins right (pins_at t right - 1) } → OnlyReads ok s u
only_reads ok s t u page right ready pinned is = subst (OnlyReads ok s) (sym is) (record {
  ready = record {
    rest = λ k. rest_again s t page right ready.rest pinned.pins pinned.right_is pinned.once k;
    frames = omega (arith, ready.frames, pinned.keeps.frames);
  };
  honest = pinned.keeps.honest;
  later = pinned.later;
  stored = spared_is t (record t { pins = slice_set t.pins right (pins_at t right - 1) }) refl refl ∙ pinned.stored;
  as_many = pinned.keeps.as_many;
  images = pinned.keeps.images;
  file = λ honest done f. file_kept s (record t { pins = slice_set t.pins right (pins_at t right - 1) })
      (pinned.keeps.images honest) (pinned.keeps.seals honest refl) f;
})

pub not_past : (n page : ℕ) → (n ≤ page → ⊥) → page < n
not_past n page inside = at (cases_lt page n)
  where
    at : (page < n) ⊎ (n ≤ page) → page < n
    at (inl within) = within
    at (inr past) = absurd (inside past)

-- what is known of a page that is pinned
module _ (s t : PoolState) (page right : ℕ) (payload : List ℕ) (pinned : IsPinned page s t right)
    (is : slice_get t.images right ≡ Some payload) where
  -- its image was that of the pool before
  pub image_was : IsTrue s.honest → image s.images page ≡ payload
  image_was honest =
      ap (λ (xs : List (List ℕ)). image xs page) (sym (pinned.keeps.images honest))
      ∙ ap (image t.images) (sym pinned.right_is) ∙ get_or_from_slice_get t.images right payload [] is

  pub page_there : page < length s.images
  page_there = pinned.within

  -- and what it says is what the file has there
  pub page_was : IsTrue s.honest → ROOT_PAGE ≤ page → page_at (store_of s.images) page ≡ page_in payload
  page_was honest behind = stored_page_is s.images page behind page_there ∙ ap page_in (image_was honest)

-- each page of a file is well formed
pub is_well : (images : List (List ℕ)) → SpellsFile images → (page : ℕ) → page < length images →
    IsWell (image images page)
is_well images file zero within = inr file.header
is_well images file (suc n) within = at (cases_lt n DIRECTORY_PAGES)
  where
    at : (n < DIRECTORY_PAGES) ⊎ (DIRECTORY_PAGES ≤ n) → IsWell (image images (suc n))
    at (inl entries) = directory_well (entries_at (image images (suc n))) (image images (suc n))
        (file.directory (suc n) (omega arith) (omega arith))
    at (inr behind) = inl (file.spelled (suc n) (omega arith) within)

-- a page of a file is not pinned only where the device failed
pub pin_fails : {T : Type 0} (fault : PoolFault) (s t : PoolState) (page : ℕ) → IsTrue s.honest → IsFilePool s
    → IsReady s →
    page < length s.images →
    (IsErrOf {T = T} (Err fault) (Device device.PastEnd) → length s.images ≤ page) →
    (IsErrOf {T = T} (Err fault) TooFewFrames → IsCrowded page s) → MayNotPin page s fault →
    (IsErrOf {T = T} (Err fault) (Device device.Device) → HasRisen s.faults t.faults)
    → IsDevicesFault s t (Pool fault)
pin_fails (Device device.Device) s t page honest f ready within past crowded told failed = record {
  risen = failed refl;
  told = refl;
}
pin_fails (Device device.BadDigest) s t page honest f ready within past crowded told failed =
    absurd (told honest (f.sealed page within))
pin_fails (Device device.PastEnd) s t page honest f ready within past crowded told failed =
    absurd (omega (arith, past refl, within))
pin_fails (Device device.DeviceFull) s t page honest f ready within past crowded told failed = absurd told
pin_fails (Device device.NoMemory) s t page honest f ready within past crowded told failed = absurd told
pin_fails Malformed s t page honest f ready within past crowded told failed =
    absurd (told honest (is_well s.images f.file page within))
pin_fails TooFewFrames s t page honest f ready within past crowded told failed =
    absurd (omega (arith, (crowded refl).all_pinned, count_none s.pins ready.rest, ready.frames))
pin_fails NoMemory s t page honest f ready within past crowded told failed = absurd told

-- whatever the device, it is not pinned only for what a page or a transfer may come to: there is a frame, and a step
-- takes no memory
pin_of_page : {T : Type 0} (fault : PoolFault) (s : PoolState) (page : ℕ) → IsReady s →
    (IsErrOf {T = T} (Err fault) TooFewFrames → IsCrowded page s) → MayNotPin page s fault → IsOfPage (Pool fault)
pin_of_page (Device device.Device) s page ready crowded told = tt
pin_of_page (Device device.BadDigest) s page ready crowded told = tt
pin_of_page (Device device.PastEnd) s page ready crowded told = tt
pin_of_page (Device device.DeviceFull) s page ready crowded told = told
pin_of_page (Device device.NoMemory) s page ready crowded told = told
pin_of_page Malformed s page ready crowded told = tt
pin_of_page TooFewFrames s page ready crowded told =
    omega (arith, (crowded refl).all_pinned, count_none s.pins ready.rest, ready.frames)
pin_of_page NoMemory s page ready crowded told = told

pub pin_has_cause : {T : Type 0} (fault : PoolFault) (s t : PoolState) (page : ℕ) → IsReady s →
    (IsErrOf {T = T} (Err fault) TooFewFrames → IsCrowded page s) → MayNotPin page s fault →
    (IsErrOf {T = T} (Err fault) (Device device.Device) → HasRisen s.faults t.faults) → FileHasCause s t (Pool fault)
pin_has_cause {T = T} fault s t page ready crowded told failed = record {
  page = pin_of_page {T = T} fault s page ready crowded told;
  risen = λ same. let is : fault ≡ Device device.Device = cc in failed (ap Err is);
}

-- ---- what is seen of a page

-- a page that is a bucket's is so of its bytes
pub bucket_spelled : (bytes : List ℕ) → Spells (page_in bytes) bytes → is_bucket (page_in bytes) ≡ true
    → IsBucketPage bytes
bucket_spelled bytes it bucket = at (page_in bytes) it bucket
  where
    at : (p : PageKind) → Spells p bytes → is_bucket p ≡ true → IsBucketPage bytes
    at (kinds.Bucket b) spells is =
        subst (λ (c : Bucket). Spells (kinds.Bucket c) bytes)
        (sym (ap bucket_in spells.spelled ∙ (bucket_again b spells.in_range).value)) spells
    at (kinds.Directory es) spells is = absurd cc
    at (kinds.Tombstone link) spells is = absurd cc
    at (kinds.Free next) spells is = absurd cc

pub seen : (r : Result BucketSight FileFault) (bytes : List ℕ) → IfOk r (λ _. IsBucketPage bytes)
    → IfOk r (λ sight. sight ≡ sight_of (bucket_in bytes)) → IfOk r (λ sight. IsSeen sight (page_in bytes))
seen (Ok sight) bytes it says =
    let is = page_is (kinds.Bucket (bucket_in bytes)) bytes it in
    record { bucket = ap is_bucket is; says = says ∙ ap (λ (p : PageKind). sight_of (bucket_of p)) (sym is) }
seen (Err fault) bytes it says = tt

-- what was copied of the bucket is so of the page
pub copied_of : (r : Result (Option ℕ) FileFault) (bytes : List ℕ) (p : PageKind) (key : RecordKey) (old new : List ℕ)
    → p ≡ page_in bytes → IfOk r (λ _. IsBucketPage bytes)
    → IfOk r (λ found. IsCopied found (lookup key (records_in bytes)) old new)
    → IfOk r (λ found. IsCopied found (lookup key (bucket_of p).records) old new)
copied_of (Ok found) bytes p key old new was it said =
    let is = was ∙ page_is (kinds.Bucket (bucket_in bytes)) bytes it in
    subst (λ (q : PageKind). IsCopied found (lookup key (bucket_of q).records) old new) (sym is) said
copied_of (Err fault) bytes p key old new was it said = tt

-- what a slot says is the entry
pub same_slot : (r : Result ℕ FileFault) {there slot : ℕ} {page was : List ℕ} {here : ℕ}
    → IfOk r (λ bucket. bucket ≡ slot_at slot page)
    → slot ≡ there → page ≡ was → slot_at there was ≡ here → IfOk r (λ bucket. bucket ≡ here)
same_slot (Ok bucket) it slot page here = it ∙ (λ j. slot_at (slot j) (page j)) ∙ here
same_slot (Err fault) it slot page here = tt

-- the value that a bucket lends, or none, is the page's
pub lent_of : {B : Type 0} (now : B → List ℕ) (r : Option B) (bytes : List ℕ) (b : Bucket) (p : PageKind)
    (key : RecordKey) → p ≡ page_in bytes → IsBucketPage bytes → b ≡ bucket_in bytes
    → IfSome r (λ (value : B). lookup key b.records ≡ Some (now value)) → IfNone r (lookup key b.records ≡ None)
    → lookup key (bucket_of p).records ≡ option_map now r
lent_of {B = B} now r bytes b p key was it is some none =
    ap (λ (q : PageKind). lookup key (bucket_of q).records) (was ∙ page_is (kinds.Bucket (bucket_in bytes)) bytes it)
    ∙ ap (λ (c : Bucket). lookup key c.records) (sym is) ∙ either r some none
  where
    either : (r : Option B) → IfSome r (λ (value : B). lookup key b.records ≡ Some (now value))
        → IfNone r (lookup key b.records ≡ None) → lookup key b.records ≡ option_map now r
    either None some none = none
    either (Some value) some none = some

-- what is told is told also where no fault is
pub if_told : {X : Type 0} (r : Result X FileFault) (P : X → Type 0) → IfOk r P → IfSome (result_ok r) P
if_told (Ok x) P is = is
if_told (Err fault) P is = tt

-- ---- one step behind another

risen_after : {old mid new : ℕ} → old ≤ mid → HasRisen mid new → HasRisen old new
risen_after before (inl more) = inl (omega (arith, before, more))
risen_after before (inr most) = inr most

-- the device's fault after a read is so of both
pub devices_after : {s t v : PoolState} {fault : FileFault} → s.faults ≤ t.faults → IsDevicesFault t v fault
    → IsDevicesFault s v fault
devices_after before failed = record { risen = risen_after before failed.risen; told = failed.told }

pub fails_after : {T : Type 0} (r : Result T FileFault) (s t v : PoolState) → IsTrue s.honest → IsFilePool s
    → OnlyReads true s t → (IsTrue t.honest → IsFilePool t → IfErr r (IsDevicesFault t v))
    → IfErr r (IsDevicesFault s v)
fails_after (Ok value) s t v honest file reads failed = tt
fails_after (Err fault) s t v honest file reads failed =
    devices_after reads.later (failed (reads.honest ∙ honest) (reads.file honest refl file))

-- what `?` hands on is the fault that was told
pub handed_on : {T : Type 0} (r : Result T FileFault) (fault : FileFault) (P : FileFault → Type 0)
    → IsErrAnd r (λ e. e ≡ fault) → P fault → IfErr r P
handed_on (Ok value) fault P same it = tt
handed_on (Err e) fault P same it = subst P (sym same) it

-- what never fails tells no fault
pub never_fails : {T : Type 0} (r : Result T FileFault) (P : FileFault → Type 0) → (IsErr r → ⊥) → IfErr r P
never_fails (Ok value) P never = tt
never_fails (Err fault) P never = absurd (never refl)

-- two reads are one
pub reads_on : (ok : Bool) (s t u : PoolState) → OnlyReads true s t → OnlyReads ok t u → OnlyReads ok s u
reads_on ok s t u first next = record {
  ready = next.ready;
  honest = next.honest ∙ first.honest;
  later = omega (arith, first.later, next.later);
  stored = next.stored ∙ first.stored;
  as_many = next.as_many ∙ first.as_many;
  images = λ honest. next.images (first.honest ∙ honest) ∙ first.images honest;
  file = λ honest done f. next.file (first.honest ∙ honest) done (first.file honest refl f);
}
