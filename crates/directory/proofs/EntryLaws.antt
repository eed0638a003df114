-- The slots of a directory page written one after the other, and the entries that stand in them.
use Rattle.std.proofs.Common.{◌≡◌, ℕ, ◌+◌, ◌-◌, ◌*◌, ◌/◌, ◌<◌, ◌≤◌, List, ap, ◌∙◌, arith}
use Rattle.std.proofs.Math.Nat.{div-add-mod}
use Rattle.directory.specs.declared.layout.TheConstants.{FIRST_DIRECTORY_PAGE, PAGE_ENTRIES}
use Rattle.directory.specs.Pages.{IsDirectoryPage}
use Rattle.directory.specs.Entries.{page_of, slot_of, slot_at}

-- the slots below one have their values, and the others are as they were
pub record IsDoneTo (value : ℕ → ℕ) (slot : ℕ) (old new : List ℕ) : Type 0 where
  pub done : (other : ℕ) → other < slot → slot_at other new ≡ value other
  pub left : (other : ℕ) → slot ≤ other → slot_at other new ≡ slot_at other old
  pub page : IsDirectoryPage new

-- an entry stands in its slot of its page
pub place_of : (i page : ℕ) → page_of i ≡ page → PAGE_ENTRIES * (page - FIRST_DIRECTORY_PAGE) + slot_of i ≡ i
place_of i page on =
    let before : page - FIRST_DIRECTORY_PAGE ≡ i / PAGE_ENTRIES = omega (arith, on) in
    ap (λ (k : ℕ). PAGE_ENTRIES * k + slot_of i) before ∙ div-add-mod i PAGE_ENTRIES
