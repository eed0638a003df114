use Rattle.std.proofs.Common.{refl, sym, ap, ◌∙◌, Some}
use Rattle.xsi_calls.proofs.HearLemmas.{hears_given, hears_record}
use Rattle.xsi_calls.proofs.hearing.hear.Goals as goal

pub returns-in-At-clause-hears : goal.returns-in-At-clause-hears
returns-in-At-clause-hears c =
    let e = c.tell.ensures in
    hears_record c.args.call.now c.args.inquiry.now c.tell.new.inquiry c.args.room.now c.tell.new.room c.args.found
    c.tell.result e.caller e.fewer e.follows e.most c.in-At.field-0 (c.requires ∙ ap Some c.in-At.is) e.told

pub returns-in_ok-is_given-in-Given-clause-hears : goal.returns-in_ok-is_given-in-Given-clause-hears
returns-in_ok-is_given-in-Given-clause-hears c =
    let e = c.tell_given.ensures in
    hears_given c.args.call.now c.args.inquiry.now c.tell_given.new.inquiry c.args.room.now c.args.room.now
    c.args.found c.tell_given.result e.caller e.fewer e.follows refl c.in-Given.id
    c.in_ok-is_given-in-Given.field-0 (c.requires ∙ ap Some c.in-Given.is) refl
    (λ counter is. sym c.in_ok-is_given-in-Given.was ∙ c.is_given.ensures counter is) e.told
