use Rattle.std.proofs.Common.{◌≡◌, ℕ, ◌+◌, ◌*◌, ◌-◌, ◌%◌, ◌^◌, ap, ◌∙◌, arith}
use Rattle.std.proofs.Math.Nat.{mod-eq_of_lt}
use Rattle.directory.proofs.StrideLaws.{ahead_above, stride_fits}
use Rattle.directory.proofs.entries.first_in.Goals as goal

pub returns-else-low-range-clause-there : goal.returns-else-low-range-clause-there
returns-else-low-range-clause-there c =
    let fits = stride_fits c.args.range.depth c.requires.local_depth in
    let narrow : 1 * 2 ^ c.args.range.depth % 4294967296 ≡ 2 ^ c.args.range.depth =
    ap (λ (k : ℕ). k % 4294967296) (omega arith) ∙ mod-eq_of_lt (omega (arith, fits)) in
    ap (λ (k : ℕ). (c.args.entry + (c.args.range.pattern + k - c.index-low.result)) % 2 ^ c.args.range.depth) narrow
    ∙ ap (λ (k : ℕ). (c.args.entry + (c.args.range.pattern + 2 ^ c.args.range.depth - k)) % 2 ^ c.args.range.depth)
    c.index-low.ensures ∙ ahead_above c.args.entry c.args.range.pattern (2 ^ c.args.range.depth) c.requires.pattern
