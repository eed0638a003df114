-- Pages that were read, one after the other.
use Rattle.std.proofs.Common.{◌≡◌, ◌≢◌, ◌⊎◌, ◌<◌, ◌≤◌, ◌+◌, ◌^◌, ℕ, zero, suc, List, [], Some, Err, inl, inr, refl, sym, ap, subst, ◌∙◌, arith, slice_get}
use Rattle.std.proofs.lemmas.Option.{get_or_from_slice_get}
use Rattle.bucket_page.specs.declared.page.PageKind.{PageKind}
use Rattle.bucket_page.specs.Spelling.{Spells}
use Rattle.directory.specs.declared.header.Header.{Header}
use Rattle.directory.specs.declared.layout.TheConstants.{LAYOUT}
use Rattle.directory.specs.declared.read.HeaderFault.TheVariants as headers
use Rattle.directory.specs.Reading.{reading}
use Rattle.directory.specs.Spelling.{SpellsHeader}
use Rattle.file_walk.specs.Files.{page_on}
use Rattle.file_walk.specs.Order.{IsRefusedIn}
use Rattle.page_device.specs.Device.{HasRisen}
use Rattle.page_device.specs.Sealed.{IsSealed, payload_of}
use Rattle.migration.specs.Gathering.{MayHaveFailed, MissesPages}
use Rattle.migration.specs.Readable.{IsPageAt, IsReadable}

may_on : (a b d : ℕ) → b ≤ d → MayHaveFailed a b → MayHaveFailed a d
may_on a b d later (inl rose) = inl (omega (arith, rose, later))
may_on a b d later (inr most) = inr (omega (arith, most, later))

may_since : (a b d : ℕ) → a ≤ b → MayHaveFailed b d → MayHaveFailed a d
may_since a b d less (inl rose) = inl (omega (arith, less, rose))
may_since a b d less (inr most) = inr most

-- a count is at most the greatest
pub has_risen : (a b count : ℕ) → count ≡ b → count < 2 ^ 64 → MayHaveFailed a b → HasRisen a b
has_risen a b count is fits (inl rose) = inl rose
has_risen a b count is fits (inr most) = inr (omega (arith, is, fits, most))

-- one page more
pub misses_more : (pages pages' : List (List ℕ)) (read read' last a b d : ℕ) → pages' ≡ pages → a ≤ b → b ≤ d →
    MissesPages pages read last a b →
    (read' ≡ 0 → (read ≡ 0) × (IsReadable pages' last → MayHaveFailed b d)) → MissesPages pages read' (last + 1) a d
misses_more pages pages' read read' last a b d same less later misses added = λ none n below readable.
    let both = added none in
    elim (before_or_at n last below) [
      | inl before ↦ may_on a b d later (misses both.0 n before readable)
      | inr is ↦ may_since a b d less
          (both.1 (subst (λ (place : ℕ). IsReadable pages' place) is
          (subst (λ (content : List (List ℕ)). IsReadable content n) (sym same) readable)))
    ]
  where
    before_or_at : (n last : ℕ) → n < last + 1 → (n < last) ⊎ (n ≡ last)
    before_or_at zero zero below = inr refl
    before_or_at zero (suc last) below = inl (omega arith)
    before_or_at (suc n) zero below = absurd (omega (arith, below))
    before_or_at (suc n) (suc last) below = elim (before_or_at n last (omega (arith, below))) [
      | inl before ↦ inl (omega (arith, before))
      | inr is ↦ inr (ap suc is)
    ]

no_page : (n : ℕ) (payload : List ℕ) → (n ≡ 0 → (header : Header) → SpellsHeader header payload → ⊥) →
    (n ≢ 0 → (page : PageKind) → Spells page payload → ⊥) → IsPageAt n payload → ⊥
no_page zero payload header behind is = header refl is.0 is.1
no_page (suc n) payload header behind is = behind (λ zeroed. absurd (omega (arith, zeroed))) is.0 is.1

-- a page that was read, and says nothing that such a page says
pub unreadable : (content : List (List ℕ)) (n : ℕ) (page payload : List ℕ) → slice_get content n ≡ Some page →
    payload ≡ payload_of page → (n ≡ 0 → (header : Header) → SpellsHeader header payload → ⊥) →
    (n ≢ 0 → (kind : PageKind) → Spells kind payload → ⊥) → IsReadable content n → ⊥
unreadable content n page payload at is header behind readable =
    let same : page_on content n ≡ page = get_or_from_slice_get content n page [] at in
    no_page n payload header behind (subst (IsPageAt n) (ap payload_of same ∙ sym is) readable.spelled)

-- page 0 was read, and is the header of another version
pub refused_header : (content : List (List ℕ)) (n : ℕ) (page payload : List ℕ) → slice_get content n ≡ Some page →
    n ≡ 0 → IsSealed n page → payload ≡ payload_of page → reading payload ≡ Err headers.BadVersion →
    IsRefusedIn LAYOUT content headers.BadVersion
refused_header content n page payload at first sealed is read =
    let at_first : slice_get content 0 ≡ Some page =
    subst (λ (place : ℕ). slice_get content place ≡ Some page) first at in
    let there : page ≡ page_on content 0 = sym (get_or_from_slice_get content 0 page [] at_first) in
    record {
      sealed = subst (λ (bytes : List ℕ). IsSealed 0 bytes) there
          (subst (λ (place : ℕ). IsSealed place page) first sealed);
      read = subst (λ (bytes : List ℕ). reading (payload_of bytes) ≡ Err headers.BadVersion) there
          (subst (λ (bytes : List ℕ). reading bytes ≡ Err headers.BadVersion) is read);
    }
