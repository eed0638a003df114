-- The number is written over the old one alone.
use Rattle.std.proofs.Common.{◌∙◌, ◌++◌, ℕ, Option, sym, ap}
use Rattle.std.specs.Prelude.{unwrap_or}
use Rattle.bucket_page.specs.numbers.Numbers.{eight, overwritten}
use Rattle.bucket_page.proofs.of_numbers.NumberLaws.{length-eight}
use Rattle.bucket_page.proofs.of_numbers.WrittenLaws.{written_between}
use Rattle.queue_records.proofs.relinking.set_number.Goals as goal

pub returns-clause-set : goal.returns-clause-set
returns-clause-set c before behind old len is =
    let number = c.in-Some.number in
    c.set_bytes.ensures ∙ (λ i. overwritten (is i) c.args.place (c.write_eight.ensures i))
    ∙ written_between before (eight old) (eight number) behind c.args.place len
    (length-eight old ∙ sym (length-eight number))
    ∙ ap (λ (o : Option ℕ). before ++ (eight (unwrap_or o old) ++ behind)) (sym c.in-Some.is)
