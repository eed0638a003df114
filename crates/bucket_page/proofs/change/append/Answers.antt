use Rattle.std.proofs.Common.{[], sym, ◌∙◌}
use Rattle.std.proofs.lemmas.List.{append-nil}
use Rattle.bucket_page.specs.Reading.{records_in}
use Rattle.bucket_page.proofs.ChangeLaws.{opened}
use Rattle.bucket_page.proofs.change.append.Goals as goal

pub returns : goal.returns
returns c =
    let says = opened c.args.payload.now c.requires.bucket in
    c.insert_record.ensures (records_in c.args.payload.now) [] (sym (append-nil (records_in c.args.payload.now)))
    (c.two_at-used.ensures ∙ says.used) c.requires.order
