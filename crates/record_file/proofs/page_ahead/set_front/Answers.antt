-- The front of the value, with the links set in it.
use Rattle.std.proofs.Common.{◌≡◌, ap, ◌∙◌, length, take, arith}
use Rattle.std.proofs.lemmas.List.{length-take-le, take_at}
use Rattle.record_file.proofs.ReadLemmas.{front_set}
use Rattle.record_file.proofs.page_ahead.set_front.Goals as goal

pub returns-clause-set : goal.returns-clause-set
returns-clause-set c =
    let n = c.front_bytes-bytes.result in
    let value = c.args.value.now in
    let front = c.relink.new.front in
    let copied = c.copy_from_slice.new.self in
    let within = c.if-value-bytes.false in
    let size = c.front_bytes-bytes.ensures in
    let long : length copied ≡ n =
    ap length c.copy_from_slice.ensures.after ∙ length-take-le n value (omega (arith, within)) in
    let start = take_at copied _ n long in
    let whole : length front ≡ n = c.relink.ensures.len ∙ ap length start ∙ long in
    rw (take_at front _ n whole) (record {
      long = omega (arith, within, size);
      whole = whole ∙ size;
      set = λ r such is. front_set c.args.links.now r n _ front such
          (start ∙ c.copy_from_slice.ensures.after ∙ ap (take n) is) size whole
          (λ rest same. c.relink.ensures.set r rest such same);
    })
