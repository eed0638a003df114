-- An entry of the lower half stands on no later page.
use Rattle.std.proofs.Common.{ℕ, ◌-◌, ◌%◌, ◌<◌, ◌≤◌, ◌^◌, arith}
use Rattle.std.proofs.Math.Nat.{div-add-mod, mod-lt}
use Rattle.directory.specs.Entries.{page_of}
use Rattle.file_pages.proofs.entries.source_of.Goals as goal

page_below : (i h : ℕ) → page_of (i - h) ≤ page_of i
page_below i h =
    let whole = div-add-mod i 512 in
    let part = div-add-mod (i - h) 512 in
    let bound : i % 512 < 512 = mod-lt i (omega arith) in
    omega arith

pub returns-then-page-lower-clause-stands : goal.returns-then-page-lower-clause-stands
returns-then-page-lower-clause-stands c = λ i here upper.
    let at = c.lower_page-lower.ensures i here upper in
    let below = page_below i (2 ^ c.args.depth) in
    let past = c.if-page-lower.true in
    absurd (omega (arith, at, below, past, here))
