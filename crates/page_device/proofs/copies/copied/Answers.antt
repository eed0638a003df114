-- One page more was read.
use Rattle.std.proofs.Common.{rules, ◌≡◌, ◌∙◌, ◌<◌, ◌++◌, ◌∷◌, [], ap, sym, subst, length, slice_get, Some, IsTrue, refl}
use Rattle.page_device.proofs.CopyLemmas.{Pages, read-more}
use Rattle.page_device.proofs.copies.copied.Goals as goal

pub loop-number-preserved : goal.loop-number-preserved
loop-number-preserved g c =
    let content = g.D.PageDevice.content c.args.device.now in
    let loop = c.loop-number in
    let page = c.read.new.into in
    let below : loop.number < length content = search rules in
    let found = λ (honest : IsTrue (g.D.PageDevice.is_honest c.args.device.now)).
    subst (λ (ps : Pages). slice_get ps loop.number ≡ Some page) loop.invariant.same
    (c.in_ok-read.ensures.ok (subst IsTrue (sym loop.invariant.honest) honest)) in
    record {
      read = λ honest.
          c.in_ok-extend.ensures.ok refl ∙ ap (λ (ps : Pages). ps ++ page ∷ []) (loop.invariant.read honest)
          ∙ sym (read-more content loop.number page below (found honest));
      as_many = search rules;
      same = search rules;
      honest = search rules;
      later = search rules;
    }
