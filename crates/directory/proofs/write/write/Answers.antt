use Rattle.std.proofs.Common.{◌≡◌, ◌-◌, ◌∙◌, ◌++◌, length, ap, arith}
use Rattle.page_device.specs.declared.page.TheConstants.{PAYLOAD_BYTES}
use Rattle.directory.specs.declared.layout.TheConstants.{HEADER_BYTES}
use Rattle.numbers.specs.Numbers.{zeros}
use Rattle.directory.proofs.HeaderLaws.{four_written}
use Rattle.directory.proofs.write.write.Goals as goal

pub returns : goal.returns
returns c =
    let head = four_written c.split_at_mut-head.result.0.now 1 2 c.args.header.now.depth 0
    c.split_at_mut-head.ensures.front_len in
    let a = c.split_at_mut-head.ensures.back_len in
    let b = c.split_at_mut-magic.ensures.back_len in
    let d = c.split_at_mut-pages.ensures.back_len in
    let e = c.split_at_mut-first_free.ensures.back_len in
    let f = c.split_at_mut-counts.ensures.back_len in
    let long : length c.split_at_mut-counts.result.1.now ≡ PAYLOAD_BYTES - HEADER_BYTES =
    omega (arith, a, b, d, e, f, c.requires) in
    let rest = c.blank.ensures ∙ ap zeros long in
    λ i. head i ++
    (c.copy_from_slice.ensures.after i ++
    (c.write_four.ensures i ++ (c.write_four-2.ensures i ++ (c.write_numbers.ensures i ++ rest i))))
