use Rattle.std.proofs.Common.{◌≡◌, ℕ, ◌+◌, ◌*◌, ◌%◌, ◌^◌, ◌<◌, ap, ◌∙◌, arith}
use Rattle.std.proofs.Math.Nat.{mod-eq_of_lt}
use Rattle.directory.proofs.StrideLaws.{begun, one_more, stride_fits}
use Rattle.directory.proofs.entries.retarget.Goals as goal

pub loop-slot-init : goal.loop-slot-init
loop-slot-init c =
    begun _ _ _ _ _ _ c.requires.directory c.first_in-slot.ensures.first c.first_in-slot.ensures.there

pub loop-slot-preserved : goal.loop-slot-preserved
loop-slot-preserved c =
    let fits = stride_fits c.args.range.depth c.requires.local_depth in
    let wide = stride_fits c.args.depth c.requires.depth in
    let narrow : 1 * 2 ^ c.args.range.depth % 4294967296 ≡ 2 ^ c.args.range.depth =
    ap (λ (k : ℕ). k % 4294967296) (omega arith) ∙ mod-eq_of_lt (omega (arith, fits)) in
    let entries : 1 * 2 ^ c.args.depth % 4294967296 ≡ 2 ^ c.args.depth =
    ap (λ (k : ℕ). k % 4294967296) (omega arith) ∙ mod-eq_of_lt (omega (arith, wide)) in
    let within : c.first_entry-first.result + c.loop-slot.slot < 2 ^ c.args.depth =
    omega (arith, c.loop-slot-test.true, c.min-end.ensures, c.saturating_sub.ensures, entries) in
    rw narrow (one_more _ _ _ _ _ _ _ _ within c.loop-slot.invariant c.put_entry.ensures.ok c.put_entry.ensures.others
    c.put_entry.ensures.directory)
