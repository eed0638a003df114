-- One page more was read.
use Rattle.std.proofs.Common.{rules, ◌≡◌, ◌∙◌, ◌<◌, ◌++◌, ◌∷◌, [], ap, sym, subst, length, slice_get, Some, IsTrue, refl}
use Rattle.page_device.proofs.CopyLemmas.{Pages, read-more}
use Rattle.durable_desk.proofs.OpeningLemmas.{content_same, read_on}
use Rattle.durable_desk.proofs.opening.read_all.Goals as goal

pub loop-number-preserved : goal.loop-number-preserved
loop-number-preserved g c =
    let content = c.args.device.now.content in
    let loop = c.loop-number in
    let page = c.read.new.into in
    let same = content_same c.args.device.now loop.device loop.invariant.same in
    let below : loop.number < length content = search rules in
    let found = λ (honest : IsTrue g.P.PagePair.is_honest).
    subst (λ (ps : Pages). slice_get ps loop.number ≡ Some page) same (c.in_ok-read.ensures.ok honest) in
    record {
      read = λ honest.
          c.in_ok-extend.ensures.ok refl ∙ ap (λ (ps : Pages). ps ++ page ∷ []) (loop.invariant.read honest)
          ∙ sym (read-more content loop.number page below (found honest));
      as_many = search rules;
      same = read_on c.args.device.now loop.device c.read.new.self loop.invariant.same c.read.ensures.rest;
    }
