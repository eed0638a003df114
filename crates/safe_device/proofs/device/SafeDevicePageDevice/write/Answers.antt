-- One page waits that did not, whatever the files.
use Rattle.std.proofs.Common.{rules, ◌≡◌, ◌++◌, [], ◌∷◌, ◌∙◌, ap, sym, subst, List}
use Rattle.page_device.specs.Device.{DiffersAtMostAt}
use Rattle.safe_device.specs.Device.{DeviceState, content_of}
use Rattle.safe_device.specs.declared.journal.PageImage.{PageImage}
use Rattle.safe_device.proofs.DeviceLemmas.{content_differs}
use Rattle.safe_device.proofs.Restoring.{Pages}
use Rattle.safe_device.proofs.device.SafeDevicePageDevice.write.Goals as goal

pub returns-clause-others : goal.returns-clause-others
returns-clause-others g c =
    let P = g.P.PagePair in
    let d = c.self-2.inside in
    let file = P.file d.file.pair in
    let image : PageImage = record { page = c.args.page; bytes = c.args.bytes.now } in
    let items : c.push.new.self.items ≡ d.pending.items ++ image ∷ [] = search rules in
    let was : content_of P.is_honest d.pages d.pending.items file ≡ c.args.self.now.content =
    ap (λ (s : DeviceState g.row.P.Denot). s.content) c.self-2.view_is ∙ c.make_room.ensures.content in
    subst (λ (ps : Pages). DiffersAtMostAt c.args.page ps
    (content_of P.is_honest d.pages c.push.new.self.items file)) was
    (subst (λ (l : List PageImage). DiffersAtMostAt c.args.page (content_of P.is_honest d.pages d.pending.items file)
    (content_of P.is_honest d.pages l file)) (sym items)
    (content_differs P.is_honest d.pages d.pending.items image file))
