use Rattle.std.proofs.Common.{◌≡◌, ℕ, ◌+◌, ◌*◌, ◌-◌, ◌^◌, ◌<◌, ◌≤◌, List, slice_index, ap, ◌∙◌, arith}
use Rattle.directory.specs.Entries.{entry_in, slot_of}
use Rattle.directory.proofs.CopyLaws.{all_copied, begun_above, one_copied}
use Rattle.directory.proofs.StrideLaws.{stride_fits}
use Rattle.directory.proofs.entries.copy_upper.Goals as goal

pub overflow_mul-half : goal.overflow_mul-half
overflow_mul-half c =
    let fits = stride_fits c.args.depth (omega (arith, c.requires.depth)) in
    omega (arith, fits, c.half_of-half.ensures)

pub loop-slot-init : goal.loop-slot-init
loop-slot-init c =
    begun_above c.args.depth c.first_entry-first.result _ c.args.lower.now c.args.payload.now c.requires.directory
    (omega (arith, c.half_of-half.ensures, c.saturating_sub-begin.ensures))

pub loop-slot-preserved : goal.loop-slot-preserved
loop-slot-preserved c =
    let from : 2 ^ c.args.depth ≤ c.first_entry-first.result + c.loop-slot.slot =
    omega (arith, c.half_of-half.ensures, c.saturating_sub-begin.ensures, c.loop-slot.auto.slot) in
    let to : c.first_entry-first.result + c.loop-slot.slot < 2 * 2 ^ c.args.depth =
    omega (arith, c.half_of-half.ensures, c.saturating_sub.ensures, c.min-end.ensures, c.loop-slot-test.true) in
    let put : _ ≡ entry_in c.args.lower.now (c.first_entry-first.result + c.loop-slot.slot - 2 ^ c.args.depth) =
    c.put_entry.ensures.ok
    ∙ c.entry-bucket.ensures
    ∙ ap (λ (k : ℕ). slice_index c.directory_of.result k) c.slot_of.ensures.value
    ∙ ap (λ (l : List ℕ). slice_index l
    (slot_of (c.first_entry-first.result + c.loop-slot.slot - c.half_of-half.result))) c.directory_of.ensures
    ∙ ap (λ (k : ℕ). entry_in c.args.lower.now (c.first_entry-first.result + c.loop-slot.slot - k))
    c.half_of-half.ensures in
    one_copied c.args.depth c.first_entry-first.result c.loop-slot.slot c.args.lower.now c.args.payload.now
    c.loop-slot.payload c.put_entry.new.payload from to c.loop-slot.invariant put
    c.put_entry.ensures.others c.put_entry.ensures.directory

pub returns-clause-ok : goal.returns-clause-ok
returns-clause-ok c i on =
    all_copied i c.args.page c.args.depth c.loop-slot.slot c.min-end.result c.args.lower.now c.args.payload.now
    c.loop-slot.payload on (rw c.first_entry-first.ensures at c.loop-slot.invariant) c.loop-slot-test.false
    (omega (arith, c.min-end.ensures, c.saturating_sub.ensures, c.half_of-half.ensures, c.first_entry-first.ensures))
