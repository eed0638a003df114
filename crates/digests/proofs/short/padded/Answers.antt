use Rattle.std.proofs.Common.{◌∙◌, ap, ℕ, ◌-◌, List, length, take, slice_set}
use Rattle.digests.proofs.ShortLemmas.{padded-is}
use Rattle.digests.proofs.short.padded.Goals as goal

pub returns : goal.returns
returns c =
    let size : ℕ = length c.args.message.now in
    padded-is c.args.message.now c.requires c.copy_from_slice.new.self
    (slice_set c.split_at_mut-end.result.0.now 0 128) c.copy_from_slice-2.new.self c.copy_from_slice.ensures.after
    (ap (λ (xs : List ℕ). slice_set xs 0 128) (c.split_at_mut-end.ensures.front
    ∙ ap (take (56 - size)) c.split_at_mut-text.ensures.back))
    (c.copy_from_slice-2.ensures.after ∙ c.to_be_bytes.ensures)
