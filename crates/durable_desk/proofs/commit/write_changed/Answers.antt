use Rattle.std.proofs.Common.{◌≤◌, ◌∙◌, arith, sym, refl}
use Rattle.std.specs.Prelude.{nat_lt}
use Rattle.page_device.specs.declared.fault.DeviceFault.TheVariants as devices
use Rattle.session.specs.Session.{pages_of}
use Rattle.session.proofs.WriteLemmas.{told_as, zero_of}
use Rattle.durable_desk.proofs.CommitLemmas.{begun, none_behind, none_left, not_written, one_written, unseen_still}
use Rattle.durable_desk.proofs.commit.write_changed.Goals as goal

pub loop-from-init : goal.loop-from-init
loop-from-init g c =
    begun g.P.PagePair.is_honest g.P.PagePair.file g.P.PagePair.journal g.P.PagePair.moment g.P.PagePair.left_since
    g.P.PagePair.may_leave c.args.desk.now c.args.device.now c.requires
    (g.met.P.PagePair.only_now c.args.device.now.pair) (g.met.P.PagePair.seen_may_stay c.args.device.now.pair)

pub loop-from-preserved : goal.loop-from-preserved
loop-from-preserved g c =
    let count = sym c.pages-pages.ensures.is ∙ c.pages-pages.ensures.saved in
    one_written g.P.PagePair.is_honest g.P.PagePair.file g.P.PagePair.journal g.P.PagePair.moment
    g.P.PagePair.left_since g.P.PagePair.may_leave c.loop-from.from c.args.desk.now c.loop-from.desk c.args.device.now
    c.loop-from.device c.requires c.loop-from.invariant c.in-Some.page c.in-Some-page.bytes c.page.new.self
    c.write.new.self count c.in-Some.ensures c.in-Some-page.ensures.given (c.in-Some-page.ensures.kept refl)
    c.in-Ok.ensures.ok c.in-Ok.ensures.others c.in-Ok.ensures.cause.later c.in-Ok.ensures.any_moment

-- no page is left that has changed
pub returns-in_default-clause-becomes : goal.returns-in_default-clause-becomes
returns-in_default-clause-becomes g c =
    let count = sym c.pages-pages.ensures.is ∙ c.pages-pages.ensures.saved in
    none_left g.P.PagePair.is_honest g.P.PagePair.file g.P.PagePair.journal g.P.PagePair.moment
    g.P.PagePair.left_since g.P.PagePair.may_leave c.loop-from.from c.args.desk.now c.loop-from.desk c.args.device.now
    c.loop-from.device c.requires c.loop-from.invariant (nat_lt 0 c.loop-from.from) count c.in_default.ensures
    (zero_of c.loop-from.from)

-- the write fails
pub returns-in_default-write-clause-becomes : goal.returns-in_default-write-clause-becomes
returns-in_default-write-clause-becomes g c =
    let count = sym c.pages-pages.ensures.is ∙ c.pages-pages.ensures.saved in
    let fault = c.in_default-write.field-0 in
    not_written g.P.PagePair.is_honest g.P.PagePair.file g.P.PagePair.journal g.P.PagePair.moment
    g.P.PagePair.left_since g.P.PagePair.may_leave c.loop-from.from c.args.desk.now c.loop-from.desk c.args.device.now
    c.loop-from.device c.requires c.loop-from.invariant c.in-Some.page c.in-Some-page.bytes c.page.new.self
    c.write.new.self count c.in-Some.ensures c.in-Some-page.ensures.given (c.in-Some-page.ensures.kept refl)
    fault c.in_default-write.ensures.cause
    (λ is. c.in_default-write.ensures.past.0 (told_as fault devices.PastEnd is))

pub returns-in_default-write-clause-any_moment : goal.returns-in_default-write-clause-any_moment
returns-in_default-write-clause-any_moment g c =
    let count = sym c.pages-pages.ensures.is ∙ c.pages-pages.ensures.saved in
    unseen_still g.P.PagePair.is_honest g.P.PagePair.file g.P.PagePair.journal g.P.PagePair.moment
    g.P.PagePair.left_since g.P.PagePair.may_leave c.loop-from.from c.args.desk.now c.loop-from.desk c.args.device.now
    c.loop-from.device c.requires c.loop-from.invariant c.in-Some.page c.in-Some-page.bytes c.page.new.self
    c.write.new.self count c.in-Some.ensures c.in-Some-page.ensures.given (c.in-Some-page.ensures.kept refl)
    c.in_default-write.ensures.any_moment

-- all were looked at
pub returns-clause-becomes : goal.returns-clause-becomes
returns-clause-becomes g c =
    let count = sym c.pages-pages.ensures.is ∙ c.pages-pages.ensures.saved in
    let behind = c.loop-from-test.false in
    let many = c.pages-pages.ensures.is in
    let past : pages_of c.args.desk.now.session ≤ c.loop-from.from = omega (arith, behind, many) in
    none_behind g.P.PagePair.is_honest g.P.PagePair.file g.P.PagePair.journal g.P.PagePair.moment
    g.P.PagePair.left_since g.P.PagePair.may_leave c.loop-from.from c.args.desk.now c.loop-from.desk c.args.device.now
    c.loop-from.device c.requires c.loop-from.invariant (nat_lt 0 c.loop-from.from) count past
    (zero_of c.loop-from.from)
