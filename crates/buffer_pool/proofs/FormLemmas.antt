-- What spells a page spells the one that is read from it.
use Rattle.std.proofs.Common.{◌≡◌, ◌↔◌, ◌∙◌, refl, sym, ap, subst, ℕ, List, Bool, IsTrue, Option, Some, None, Result, Ok, Err, IfOk, OnOk, OnErr, inl, inr}
use Rattle.std.specs.Prelude.{is_ok}
use Rattle.bucket_page.specs.declared.page.PageKind.{PageKind}
use Rattle.bucket_page.specs.declared.page.Malformed.{Malformed}
use Rattle.bucket_page.specs.Reading.{page_in, kind_at, fault_of, answer}
use Rattle.bucket_page.specs.declared.layout.TheConstants.{FREE}
use Rattle.bucket_page.specs.declared.page.PageKind.TheVariants as kinds
use Rattle.bucket_page.specs.numbers.Numbers.{four_at}
use Rattle.bucket_page.specs.Spelling.{Spells}
use Rattle.bucket_page.proofs.PageLaws.{spelled_reads}
use Rattle.bucket_page.specs.directory.declared.header.Header.{Header}
use Rattle.bucket_page.specs.directory.declared.read.HeaderFault.{HeaderFault}
use Rattle.bucket_page.specs.directory.Pages.{SpellsDirectory}
use Rattle.bucket_page.specs.directory.Reading.{header_at, fault_of as header_fault_of, answer as header_answer}
use Rattle.bucket_page.specs.directory.Spelling.{SpellsHeader}
use Rattle.bucket_page.proofs.of_directory.HeaderLaws.{spelled_reads as header_reads}
use Rattle.buffer_pool.specs.Forms.{IsFreePage, IsHeaderPage, IsWell}

value_is : (f : Option Malformed) (x p : PageKind) → answer f x ≡ Ok p → x ≡ p
value_is None x p is = cc
value_is (Some f) x p is = absurd cc

-- the page that a payload spells is the one that is read from it
pub page_is : (p : PageKind) (bytes : List ℕ) → Spells p bytes → page_in bytes ≡ p
page_is p bytes it = value_is (fault_of bytes) (page_in bytes) p (spelled_reads p bytes it)

pub same_page : (p : PageKind) (bytes : List ℕ) → Spells p bytes → Spells (page_in bytes) bytes
same_page p bytes it = subst (λ (q : PageKind). Spells q bytes) (sym (page_is p bytes it)) it

pub page_well : (p : PageKind) (bytes : List ℕ) → Spells p bytes → IsWell bytes
page_well p bytes it = inl (same_page p bytes it)

-- a free page names the next one where its field stands
pub free_page : (next : ℕ) (bytes : List ℕ) → Spells (kinds.Free next) bytes → IsFreePage bytes
free_page next bytes it =
    let kind : kind_at bytes ≡ FREE = ap kind_at it.spelled in
    let reads : page_in bytes ≡ kinds.Free (four_at 4 bytes) = rw kind refl in
    subst (λ (p : PageKind). Spells p bytes) (sym (page_is (kinds.Free next) bytes it) ∙ reads) it

header_value : (f : Option HeaderFault) (x h : Header) → header_answer f x ≡ Ok h → x ≡ h
header_value None x h is = cc
header_value (Some f) x h is = absurd cc

pub header_is : (h : Header) (bytes : List ℕ) → SpellsHeader h bytes → header_at bytes ≡ h
header_is h bytes it = header_value (header_fault_of bytes) (header_at bytes) h (header_reads h bytes it)

pub same_header : (h : Header) (bytes : List ℕ) → SpellsHeader h bytes → IsHeaderPage bytes
same_header h bytes it = subst (λ (g : Header). SpellsHeader g bytes) (sym (header_is h bytes it)) it

-- ---- the tests

pub page_test : (r : Result PageKind Malformed) (ok : Bool) (bytes : List ℕ) → ok ≡ is_ok r
    → IfOk r (λ p. Spells p bytes)
    → ((p : PageKind) → Spells p bytes → r ≡ Ok p) → IsTrue ok ↔ Spells (page_in bytes) bytes
page_test (Ok p) ok bytes is spells only = (λ _. same_page p bytes spells, λ _. is)
page_test (Err e) ok bytes is spells only =
    (λ good. absurd cc, λ it. let e = only (page_in bytes) it in absurd cc)

pub header_test : (r : Result Header HeaderFault) (ok : Bool) (bytes : List ℕ) → ok ≡ is_ok r
    → IfOk r (λ h. SpellsHeader h bytes) → ((h : Header) → SpellsHeader h bytes → r ≡ Ok h)
    → IsTrue ok ↔ IsHeaderPage bytes
header_test (Ok h) ok bytes is spells only = (λ _. same_header h bytes spells, λ _. is)
header_test (Err e) ok bytes is spells only =
    (λ good. absurd cc, λ it. let e = only (header_at bytes) it in absurd cc)

-- ---- written

pub header_well : (h : Header) (bytes : List ℕ) → SpellsHeader h bytes → IsWell bytes
header_well h bytes it = inr (same_header h bytes it)

pub directory_well : (es bytes : List ℕ) → SpellsDirectory es bytes → IsWell bytes
directory_well es bytes it = page_well (kinds.Directory es) bytes
    (record { in_range = it.in_range; spelled = it.spelled })

-- it was changed, or is as it was
pub either_well : {T E : Type 0} (r : Result T E) (p : PageKind) (old new : List ℕ) → IsWell old
    → OnOk r (Spells p new) → OnErr r (new ≡ old) → IsWell new
either_well (Ok v) p old new was made same = page_well p new made
either_well (Err e) p old new was made same = subst IsWell (sym same) was
