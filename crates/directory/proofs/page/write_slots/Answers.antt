use Rattle.std.proofs.Common.{◌≡◌, ◌-◌, ◌∙◌, ◌++◌, length, ap, arith}
use Rattle.page_device.specs.declared.page.TheConstants.{PAYLOAD_BYTES}
use Rattle.directory.specs.declared.layout.TheConstants.{DIRECTORY, ENTRIES_BYTES, HEAD_BYTES}
use Rattle.numbers.specs.Numbers.{zeros}
use Rattle.directory.proofs.PageLaws.{one_byte}
use Rattle.directory.proofs.page.write_slots.Goals as goal

pub returns : goal.returns
returns c =
    let first = one_byte c.split_at_mut-first.result.0.now DIRECTORY c.split_at_mut-first.ensures.front_len in
    let reserved = c.blank.ensures ∙ ap zeros c.split_at_mut-reserved.ensures.front_len in
    let a = c.split_at_mut-first.ensures.back_len in
    let b = c.split_at_mut-reserved.ensures.back_len in
    let d = c.split_at_mut-places.ensures.back_len in
    let long : length c.split_at_mut-places.result.1.now ≡ PAYLOAD_BYTES - HEAD_BYTES - ENTRIES_BYTES =
    omega (arith, a, b, d, c.requires.long) in
    let last = c.blank-2.ensures ∙ ap zeros long in
    λ i. first i ++ (reserved i ++ (c.write_numbers.ensures i ++ last i))
