-- A page as it is to be written, and pages that are written one after another.
use Rattle.std.proofs.Common.{arith, ℕ, ◌≡◌, ◌≢◌, ◌≤◌, ◌<◌, ◌+◌, ⊎_elim, refl, sym, ap, ◌∙◌, subst, false, List, [], ◌++◌, Result, Err, length, slice_index_or, take, drop}
use Rattle.std.specs.Prelude.{IsErrOf, nat_lt, slice_set}
use Rattle.std.proofs.lemmas.Bool.{cases_eq, cases_lt}
use Rattle.std.proofs.lemmas.Bool.Decides.{nat_tests}
use Rattle.std.proofs.lemmas.List.{ext_get_or, get_or-set_other, get_or-set_same, take-append-drop}
use Rattle.page_device.specs.Device.{HasRisen, MayMeetTheEnd}
use Rattle.page_device.specs.declared.fault.DeviceFault.{DeviceFault}
use Rattle.page_device.specs.declared.fault.DeviceFault.TheVariants as devices
use Rattle.page_device.specs.declared.page.TheConstants.{PAYLOAD_BYTES}
use Rattle.page_device.specs.Sealed.{page_digest, payload_of}
use Rattle.buffer_pool.specs.Pool.{PoolState}
use Rattle.interleaving_core.specs.Renewing.{IsPage}
use Rattle.session.specs.Session.{AreAsSaved, AreItsPages, SessionState, pages_of, saved_of}

abbrev pub Pages : Type 0
Pages = List (List ℕ)

-- ---- a page as it is to be written

both_parts : (n : ℕ) (a b : List ℕ) → take n a ≡ take n b → drop n a ≡ drop n b → a ≡ b
both_parts n a b first rest =
    sym (take-append-drop n a) ∙ ap (λ (xs : List ℕ). xs ++ drop n a) first
    ∙ ap (λ (xs : List ℕ). take n b ++ xs) rest ∙ take-append-drop n b

-- there is one
pub same_page : (page : ℕ) (a b : List ℕ) (pool : PoolState) → IsPage page a pool → IsPage page b pool → a ≡ b
same_page page a b pool is too =
    let same : payload_of a ≡ payload_of b = is.payload ∙ sym too.payload in
    both_parts PAYLOAD_BYTES a b same (is.sealed ∙ ap (page_digest page) same ∙ sym too.sealed)

pub page_stays : (page : ℕ) (bytes : List ℕ) (old new : PoolState) → new.images ≡ old.images → IsPage page bytes old →
    IsPage page bytes new
page_stays page bytes old new same is = record {
  payload = is.payload ∙ ap (λ (images : Pages). slice_index_or images page []) (sym same);
  sealed = is.sealed;
}

-- all of them, by whomever they were written
pub same_pages : (a b : Pages) (k : SessionState) → AreItsPages a k → AreItsPages b k → a ≡ b
same_pages a b k its too = ext_get_or [] a b (its.many ∙ sym too.many) (λ page within.
    same_page page (slice_index_or a page []) (slice_index_or b page []) k.pool (its.each page within)
    (too.each page (subst (λ (n : ℕ). page < n) (its.many ∙ sym too.many) within)))

-- ---- one after another

-- those before this one are as they are to be written, and the others as they were saved
pub record AreWrittenTo (from : ℕ) (saved content : Pages) (k : SessionState) : Type 0 where
  pub below : (page : ℕ) → page < from → IsPage page (slice_index_or content page []) k.pool
  pub others : (page : ℕ) → from ≤ page → slice_index_or content page [] ≡ slice_index_or saved page []

pub none_written : (saved content : Pages) (k : SessionState) → content ≡ saved → AreWrittenTo 0 saved content k
none_written saved content k same = record {
  below = λ page before. absurd (omega arith);
  others = λ page behind. ap (λ (pages : Pages). slice_index_or pages page []) same;
}

-- those that were passed by were saved so
module _ (from to : ℕ) (saved content : Pages) (k : SessionState) (so_far : AreWrittenTo from saved content k)
    (same : saved_of k ≡ saved) (passed : AreAsSaved from to k) where
  pub up_to : (page : ℕ) → page < to → IsPage page (slice_index_or content page []) k.pool
  up_to page before = ⊎_elim (λ written. so_far.below page written) (λ behind.
      subst (λ (bytes : List ℕ). IsPage page bytes k.pool)
      (ap (λ (pages : Pages). slice_index_or pages page []) same ∙ sym (so_far.others page behind))
      (passed page behind before))
      (cases_lt page from)

-- one more
module _ (page : ℕ) (bytes : List ℕ) (saved content more : Pages) (old new : SessionState)
    (before : (n : ℕ) → n < page → IsPage n (slice_index_or content n []) old.pool)
    (others : (n : ℕ) → page ≤ n → slice_index_or content n [] ≡ slice_index_or saved n [])
    (within : page < length content) (is : IsPage page bytes new.pool) (same : new.pool.images ≡ old.pool.images)
    (put : more ≡ slice_set content page bytes) where
  elsewhere : (n : ℕ) → n ≢ page → slice_index_or more n [] ≡ slice_index_or content n []
  elsewhere n apart = ap (λ (pages : Pages). slice_index_or pages n []) put
      ∙ get_or-set_other content page n bytes [] apart

  there : slice_index_or more page [] ≡ bytes
  there = ap (λ (pages : Pages). slice_index_or pages page []) put ∙ get_or-set_same content page bytes [] within

  pub one_more : AreWrittenTo (page + 1) saved more new
  one_more = record {
    below = λ n lt. ⊎_elim (λ here.
        subst (λ (m : ℕ). IsPage m (slice_index_or more m []) new.pool) (sym here)
        (subst (λ (b : List ℕ). IsPage page b new.pool) (sym there) is))
        (λ apart.
        let less : n < page = omega arith in
        subst (λ (b : List ℕ). IsPage n b new.pool) (sym (elsewhere n apart))
        (page_stays n (slice_index_or content n []) old.pool new.pool same (before n less)))
        (cases_eq n page);
    others = λ n behind.
        let apart : n ≢ page = λ here. absurd (omega arith) in
        let past : page ≤ n = omega arith in
        elsewhere n apart ∙ others n past;
  }

pub all_written : (saved content : Pages) (k : SessionState) → length content ≡ pages_of k →
    ((page : ℕ) → page < pages_of k → IsPage page (slice_index_or content page []) k.pool) → AreItsPages content k
all_written saved content k many each = record {
  many = many;
  each = λ page within. each page (subst (λ (n : ℕ). page < n) many within);
}

-- they stay so where its images do
pub still_its : (content : Pages) (old new : SessionState) → new.pool.images ≡ old.pool.images →
    pages_of new ≡ pages_of old → AreItsPages content old → AreItsPages content new
still_its content old new same many its = record {
  many = its.many ∙ sym many;
  each = λ page within. page_stays page (slice_index_or content page []) old.pool new.pool same (its.each page within);
}

-- ---- a write fails

-- the fault that a call tells
pub told_as : (fault other : DeviceFault) → fault ≡ other → IsErrOf {T = Unit {0}} (Err fault) other
told_as fault other same = let told : DeviceFault → Result (Unit {0}) DeviceFault = λ f. Err f in ap told same

-- that of a page that is there fails only as a transfer does
pub write_failed : (fault : DeviceFault) (page many a b : ℕ) → page < many → MayMeetTheEnd fault →
    (fault ≡ devices.PastEnd → many ≤ page) → (fault ≡ devices.Device → HasRisen a b) → HasRisen a b
write_failed devices.Device page many a b within may past failed = failed refl
write_failed devices.BadDigest page many a b within may past failed = absurd may
write_failed devices.PastEnd page many a b within may past failed =
    let le = past refl in absurd (omega (arith, le))
write_failed devices.DeviceFull page many a b within may past failed = absurd may
write_failed devices.NoMemory page many a b within may past failed = absurd may

-- no page was written
pub zero_of : (n : ℕ) → nat_lt 0 n ≡ false → n ≡ 0
zero_of n none = grind (arith, nat_tests)
