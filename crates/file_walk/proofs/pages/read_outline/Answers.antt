-- The parts that were read are of one file.
use Rattle.std.proofs.Common.{sym, subst, ◌∙◌, ◌⊎◌, IsTrue}
use Rattle.std.proofs.lemmas.Result.{err_from_is_err_and}
use Rattle.file_walk.specs.Order.{IsOfMachine, IsFirstWrongIn}
use Rattle.file_walk.specs.Readings.{AreEntriesOf, AreFormsOf}
use Rattle.file_walk.proofs.ReadLemmas.{moved, outline_kept, outline_read, root_wrong}
use Rattle.file_walk.proofs.pages.read_outline.Goals as goal

pub invariant_of-result : goal.invariant_of-result
invariant_of-result g c =
    let h = c.in_ok-header.ensures in
    let e = c.in_ok-entries.ensures in
    outline_kept c.args.layout.now c.requires.layout (g.D.PageDevice.is_honest c.args.device.now)
    (g.D.PageDevice.content c.args.device.now) _ _ _ h.ok
    (moved c.args.layout.now c.requires.layout
    (λ x y. AreEntriesOf c.args.layout.now x y c.in_ok-header.header.depth c.in_ok-entries.entries.items) _ _ _ _
    h.honest
    h.same e.ok)
    (moved c.args.layout.now c.requires.layout (λ x y. AreFormsOf c.args.layout.now x y c.in_ok-forms.forms.items)
    _ _ _ _ (e.honest ∙ h.honest) (e.same ∙ h.same)
    c.in_ok-forms.ensures.ok)

pub returns-clause-ok : goal.returns-clause-ok
returns-clause-ok g c =
    let h = c.in_ok-header.ensures in
    let e = c.in_ok-entries.ensures in
    outline_read c.args.layout.now c.requires.layout (g.D.PageDevice.is_honest c.args.device.now)
    (g.D.PageDevice.content c.args.device.now) _ _ _ h.ok
    (moved c.args.layout.now c.requires.layout
    (λ x y. AreEntriesOf c.args.layout.now x y c.in_ok-header.header.depth c.in_ok-entries.entries.items) _ _ _ _
    h.honest
    h.same e.ok)
    (moved c.args.layout.now c.requires.layout (λ x y. AreFormsOf c.args.layout.now x y c.in_ok-forms.forms.items)
    _ _ _ _ (e.honest ∙ h.honest) (e.same ∙ h.same)
    c.in_ok-forms.ensures.ok)

pub returns-in_err-forms-clause-err : goal.returns-in_err-forms-clause-err
returns-in_err-forms-clause-err g c = λ is.
    let h = c.in_ok-header.ensures in
    let e = c.in_ok-entries.ensures in
    let p = err_from_is_err_and c.from_residual-in_err-forms.result c.from_residual-in_err-forms.ensures.1 in
    let b = moved c.args.layout.now c.requires.layout
    (λ x y. AreEntriesOf c.args.layout.now x y c.in_ok-header.header.depth c.in_ok-entries.entries.items) _ _ _ _
    h.honest h.same e.ok in
    rw (p.1, p.2) (root_wrong c.args.layout.now c.requires.layout (g.D.PageDevice.content c.args.device.now) _
    (h.ok.right is) (b.right is)
    (subst
    (λ pages. IsOfMachine c.in_err-forms.field-0.0 ⊎ IsFirstWrongIn c.args.layout.now pages
    c.args.layout.now.root_page c.in_err-forms.field-0.0)
    (e.same ∙ h.same)
    (c.in_err-forms.ensures.err (subst IsTrue (sym (e.honest ∙ h.honest)) is))))
