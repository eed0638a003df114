-- A payload that was read as a bucket is read so again, and look-ups go record by record.
use Rattle.std.proofs.Common.{◌≡◌, ◌==◌, Bool, true, false, ℕ, List, ◌∷◌, Option, Some, None, Ok, refl, sym, ap, ◌∙◌}
use Rattle.directory.specs.declared.layout.TheConstants.{DIRECTORY}
use Rattle.bucket_page.specs.declared.layout.TheConstants.{BUCKET, TOMBSTONE}
use Rattle.bucket_page.specs.declared.page.Malformed.{Malformed}
use Rattle.bucket_page.specs.declared.page.PageKind.{PageKind}
use Rattle.bucket_page.specs.declared.page.PageKind.TheVariants as kinds
use Rattle.bucket_page.specs.Keys.{is_same}
use Rattle.bucket_page.specs.Reading.{answer, bucket_fault, bucket_in, fault_of, has_depth, has_lengths, has_pattern, kind_at, link_page_at, page_in}
use Rattle.record_walk.specs.Tested.{tested_in}
use Rattle.record_walk.specs.LookupWords.{Bucket, Pair, RecordKey, lookup, reading}

-- ---- the bucket

value_is : (f : Option Malformed) (x p : PageKind) → answer f x ≡ Ok p → (f ≡ None) × (x ≡ p)
value_is None x p is = (refl, cc)
value_is (Some f) x p is = absurd cc

-- a page of another kind is no bucket
no_link : (bytes : List ℕ) (tomb : Bool) (b : Bucket) → kind_at bytes == TOMBSTONE ≡ tomb →
    link_page_at bytes ≡ kinds.Bucket b → ⊥
no_link bytes true b t e = let e' = rw t at e in absurd cc
no_link bytes false b t e = let e' = rw t at e in absurd cc

no_bucket : (bytes : List ℕ) (dir : Bool) (b : Bucket) → kind_at bytes == BUCKET ≡ false →
    kind_at bytes == DIRECTORY ≡ dir → page_in bytes ≡ kinds.Bucket b → ⊥
no_bucket bytes true b other d e = let e' = rw (other, d) at e in absurd cc
no_bucket bytes false b other d e =
    let e' = rw (other, d) at e in no_link bytes (kind_at bytes == TOMBSTONE) b refl e'

kind_is : (bytes : List ℕ) (is : Bool) (b : Bucket) → kind_at bytes == BUCKET ≡ is →
    page_in bytes ≡ kinds.Bucket b → (is ≡ true) × (bucket_in bytes ≡ b)
kind_is bytes true b k e = let e' = rw k at e in (refl, cc)
kind_is bytes false b k e = absurd (no_bucket bytes (kind_at bytes == DIRECTORY) b k refl e)

-- without a fault the depth and the lengths are right
depth_and_lengths : (bytes : List ℕ) (d p l : Bool) → has_depth bytes ≡ d → has_pattern bytes ≡ p →
    has_lengths bytes ≡ l → bucket_fault bytes ≡ None → (d ≡ true) × (l ≡ true)
depth_and_lengths bytes false p l e f g none = let none' = rw e at none in absurd cc
depth_and_lengths bytes true false l e f g none = let none' = rw (e, f) at none in absurd cc
depth_and_lengths bytes true true false e f g none = let none' = rw (e, f, g) at none in absurd cc
depth_and_lengths bytes true true true e f g none = (refl, refl)

pub tested_again : (payload : List ℕ) (b : Bucket) → reading payload ≡ Ok (kinds.Bucket b) →
    tested_in payload ≡ Some b
tested_again payload b e =
    let value = value_is (fault_of payload) (page_in payload) (kinds.Bucket b) e in
    let kind = kind_is payload (kind_at payload == BUCKET) b refl value.1 in
    let none = rw kind.0 at value.0 in
    let right = depth_and_lengths payload (has_depth payload) (has_pattern payload) (has_lengths payload) refl refl
    refl none in
    rw (kind.0, right.0, right.1) (ap Some kind.1)

-- ---- its records

-- a look-up ends at a record of the key
pub lookup_here : (key : RecordKey) (p : Pair) (ps qs : List Pair) (same : Bool) → qs ≡ p ∷ ps →
    same ≡ is_same p.key key → same ≡ true → lookup key qs ≡ Some p.value
lookup_here key p ps qs same is test here = ap (lookup key) is ∙ rw (sym test ∙ here) refl

-- and goes on behind a record of another key
pub lookup_on : (key : RecordKey) (p : Pair) (ps qs : List Pair) (same : Bool) → qs ≡ p ∷ ps →
    same ≡ is_same p.key key → same ≡ false → lookup key ps ≡ lookup key qs
lookup_on key p ps qs same is test other = sym (ap (lookup key) is ∙ rw (sym test ∙ other) refl)
