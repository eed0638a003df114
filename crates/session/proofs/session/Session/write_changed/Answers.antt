use Rattle.std.proofs.Common.{◌≤◌, arith}
use Rattle.page_device.specs.declared.fault.DeviceFault.TheVariants as devices
use Rattle.session.specs.Session.{pages_of}
use Rattle.session.proofs.ChangedLemmas.{begun, none_behind, none_left, not_given, not_written, one_written}
use Rattle.session.proofs.WriteLemmas.{told_as}
use Rattle.session.proofs.session.Session.write_changed.Goals as goal

pub loop-from-init : goal.loop-from-init
loop-from-init g c =
    begun g.E.PageDevice.content g.E.PageDevice.is_honest g.E.PageDevice.fault_count c.args.self.now c.args.device.now

pub loop-from-preserved : goal.loop-from-preserved
loop-from-preserved g c =
    one_written g.E.PageDevice.content g.E.PageDevice.is_honest g.E.PageDevice.fault_count c.loop-from.from
    c.args.self.now c.loop-from.self c.args.device.now c.loop-from.device c.loop-from.invariant c.requires
    c.in-Some.page c.in-Some.ensures.told c.in-Some.ensures.there.1 c.in-Some-page.bytes c.page.new.self
    c.write.new.self c.in-Some-page.ensures c.in-Ok.ensures.others c.in-Ok.ensures.honest c.in-Ok.ensures.cause.later
    c.in-Ok.ensures.ok

-- no page is left that has changed
pub returns-in_default : goal.returns-in_default
returns-in_default g c =
    none_left g.E.PageDevice.content g.E.PageDevice.is_honest g.E.PageDevice.fault_count c.loop-from.from
    c.args.self.now c.loop-from.self c.args.device.now c.loop-from.device c.loop-from.invariant c.requires
    c.in_default.ensures.told

-- a page can't be told
pub returns-in_default-page : goal.returns-in_default-page
returns-in_default-page g c =
    not_given g.E.PageDevice.content g.E.PageDevice.is_honest g.E.PageDevice.fault_count c.loop-from.from
    c.args.self.now c.loop-from.self c.args.device.now c.loop-from.device c.loop-from.invariant c.requires
    c.in-Some.page c.in-Some.ensures.told c.in-Some.ensures.there.1 c.page.new.self c.in_default-page.ensures

-- its write fails
pub returns-in_default-write : goal.returns-in_default-write
returns-in_default-write g c =
    let fault = c.in_default-write.field-0 in
    not_written g.E.PageDevice.content g.E.PageDevice.is_honest g.E.PageDevice.fault_count c.loop-from.from
    c.args.self.now c.loop-from.self c.args.device.now c.loop-from.device c.loop-from.invariant c.requires
    c.in-Some.page c.in-Some.ensures.told c.in-Some.ensures.there.1 c.in-Some-page.bytes c.page.new.self
    c.write.new.self c.in-Some-page.ensures c.in_default-write.ensures.others c.in_default-write.ensures.honest
    c.in_default-write.ensures.cause.later fault c.in_default-write.ensures.cause
    (λ is. c.in_default-write.ensures.past.0 (told_as fault devices.PastEnd is))

-- all were looked at
pub returns : goal.returns
returns g c =
    let behind = c.loop-from-test.false in
    let many = c.pages-pages.ensures.is in
    let past : pages_of c.args.self.now ≤ c.loop-from.from = omega (arith, behind, many) in
    none_behind g.E.PageDevice.content g.E.PageDevice.is_honest g.E.PageDevice.fault_count c.loop-from.from
    c.args.self.now c.loop-from.self c.args.device.now c.loop-from.device c.loop-from.invariant c.requires past
