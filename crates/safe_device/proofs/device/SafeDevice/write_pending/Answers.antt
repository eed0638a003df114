-- Until a transfer has failed the file is safe, and has all its pages.
use Rattle.std.proofs.Common.{rules, ◌∙◌, ap, arith}
use Rattle.safe_device.specs.Device.{DeviceState}
use Rattle.safe_device.proofs.DeviceLemmas.{written_length}
use Rattle.safe_device.proofs.Restoring.{others_longer}
use Rattle.safe_device.proofs.device.SafeDevice.write_pending.Goals as goal

pub invariant_of-self : goal.invariant_of-self
invariant_of-self g c =
    let P = g.P.PagePair in
    record {
      roomy = c.self.invariant.roomy;
      many = λ honest.
          let longer = others_longer c.deref.result.now (P.file c.self.inside.file.pair)
          (P.file c.write_all.new.self.pair) c.write_all.ensures.others in
          let there = c.self.invariant.many honest in omega (arith, longer, there);
      whole = λ honest is. absurd cc;
      safe_file = λ honest is. absurd cc;
    }

pub invariant_of-self-2 : goal.invariant_of-self-2
invariant_of-self-2 g c =
    let P = g.P.PagePair in
    let usable = ap (λ (s : DeviceState g.row.P.Denot). s.is_broken) c.self.view_is ∙ c.requires.usable in
    let long = written_length P.is_honest c.self.inside.pages c.deref.result.now (P.file c.self.inside.file.pair)
    (P.file c.write_all.new.self.pair) (λ honest. c.self.invariant.whole honest usable) c.in-Ok.ensures.file in
    record {
      roomy = search rules;
      many = λ honest. let is = long honest in omega (arith, is);
      whole = λ honest is. long honest;
      safe_file = λ honest is. c.in-Ok.ensures.safe honest;
    }
