-- A stride on, the range has an entry again.
use Rattle.std.proofs.Common.{◌≡◌, ◌+◌, ℕ, suc, sym, ap, subst, ◌∙◌, add-one, arith}
use Rattle.split_merge.specs.Words.{Covers, upper_half_of}
use Rattle.split_merge.specs.Entries.{stride}
use Rattle.split_merge.proofs.PageLemmas.{below_rest, covers_next}
use Rattle.split_merge.proofs.order.after_retarget.Goals as goal

pub returns-then-next-depth-clause-placed : goal.returns-then-next-depth-clause-placed
returns-then-next-depth-clause-placed c =
    let placed = c.requires.placed in
    let on : c.stride.result ≡ stride (suc c.args.whole.depth) =
    c.stride.ensures ∙ ap stride (add-one c.args.whole.depth) in
    let less = below_rest _ _ _ c.if-next-depth.true in (
      placed.0,
      omega (arith, less),
      subst (λ (n : ℕ). Covers (upper_half_of c.args.whole) (c.args.entry + n)) (sym on)
          (covers_next (upper_half_of c.args.whole) c.args.entry placed.2),
    )
