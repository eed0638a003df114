-- What was recovered stands in the file.
use Rattle.std.proofs.Common.{◌∙◌, ap, sym, refl, List, length, IsTrue}
use Rattle.safe_device.specs.Device.{content_of}
use Rattle.safe_device.specs.Left.{calls_of}
use Rattle.safe_device.specs.declared.journal.PageImage.{PageImage}
use Rattle.safe_device.proofs.DeviceLemmas.{content_opened, opened_synced}
use Rattle.safe_device.proofs.Resting.{resting_held}
use Rattle.safe_device.proofs.Restoring.{Pages, saved}
use Rattle.safe_device.proofs.device.SafeDevice.new.Goals as goal

pub returns : goal.returns
returns g c =
    let P = g.P.PagePair in
    let file = c.in_ok-file.file in
    let made = c.in_ok-file.ensures in
    let pair = file.pair in
    let items = c.in_ok-pending.ensures.items in
    let content = λ (honest : IsTrue P.is_honest).
    ap (λ (l : List PageImage). content_of P.is_honest file.count l (P.file pair)) items
    ∙ content_opened P.is_honest file.count (P.file pair)
    (λ is. ap (λ (p : g.row.P.Denot). length (P.file p)) made.same ∙ sym (made.whole is)) honest
    ∙ ap P.file made.same in
    record {
      pair = made.same;
      content = content;
      failed = refl;
      usable = refl;
      synced =
          opened_synced file.begun file.count file.guarded.items file.count c.in_ok-pending.pending.items made.none refl
          items;
      commits = λ honest.
          resting_held (P.journal c.args.pair) (P.file c.args.pair) (c.requires honest).rests
          ∙ ap (λ (ps : Pages). saved ps (calls_of (P.journal c.args.pair))) (sym (content honest))
          ∙ ap
          (λ (p : g.row.P.Denot). saved (content_of P.is_honest file.count c.in_ok-pending.pending.items (P.file pair))
          (calls_of (P.journal p))) (sym made.same);
    }
