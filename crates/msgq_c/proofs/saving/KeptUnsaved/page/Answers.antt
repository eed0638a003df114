-- A page that is there.
use Rattle.std.proofs.Common.{arith, ◌<◌}
use Rattle.session.specs.Session.{pages_of}
use Rattle.msgq_c.proofs.PageLemmas.{given_is, given_kept, given_turned}
use Rattle.msgq_c.proofs.saving.KeptUnsaved.page.Goals as goal

pub returns-clause-is : goal.returns-clause-is
returns-clause-is c =
    let many = c.pages-pages.ensures.is in
    let before = c.if-page-pages.false in
    let within : c.args.page < pages_of c.args.self.now.session = omega (arith, many, before) in
    given_is c.args.page c.args.self.now c.page.new.self within c.page.result c.page.ensures

pub returns-clause-kept : goal.returns-clause-kept
returns-clause-kept c =
    let many = c.pages-pages.ensures.is in
    let before = c.if-page-pages.false in
    let within : c.args.page < pages_of c.args.self.now.session = omega (arith, many, before) in
    given_kept c.args.page c.args.self.now c.page.new.self within c.page.result c.page.ensures

pub returns-clause-turned : goal.returns-clause-turned
returns-clause-turned c =
    let many = c.pages-pages.ensures.is in
    let before = c.if-page-pages.false in
    let within : c.args.page < pages_of c.args.self.now.session = omega (arith, many, before) in
    given_turned c.args.page c.args.self.now c.page.new.self within c.page.result c.page.ensures
