-- Page by page what is kept of it is put behind.
use Rattle.std.proofs.Common.{◌≡◌, ◌≤◌, ◌<◌, ◌+◌, map, take, lit≤, length, length-append, sym, subst, ap, ◌∙◌, IsTrue, arith}
use Rattle.std.proofs.lemmas.Result.{err_from_is_err_and}
use Rattle.file_walk.specs.declared.form.Form.TheVariants as forms
use Rattle.std.proofs.lemmas.List.{length-replicate, take_all, take-append-le}
use Rattle.file_walk.specs.Files.{said_on}
use Rattle.file_walk.specs.Outlines.{shown, bare}
use Rattle.file_walk.specs.Order.{AreRightIn}
use Rattle.file_walk.proofs.PagesLemmas.{read_none, read_more, forms_start, forms_more, forms_end, first_wrong}
use Rattle.file_walk.proofs.RunLemmas.{none_held, none_told, told_on, read_cause, other_cause, passed_cause}
use Rattle.file_walk.proofs.pages.forms_of.Goals as goal

pub loop-page-init : goal.loop-page-init
loop-page-init g c =
    let items = c.in_ok-reserve.ensures.items ∙ c.in_ok-forms.ensures.items_if_clones_equal (λ y same. same) in
    record {
      held = none_held _ _ _ c.in_ok-run.ensures;
      told = none_told _ _ c.in_ok-run.ensures;
      read = read_none c.args.layout.now c.requires.layout g.D.PageDevice.content g.D.PageDevice.is_honest
          g.D.PageDevice.fault_count _ _;
      number = ap length items ∙ length-replicate c.args.layout.now.root_page forms.Other;
      low = ap (take c.args.layout.now.root_page) items ∙ take_all c.args.layout.now.root_page _
          (subst (λ n. n ≤ c.args.layout.now.root_page) (sym (length-replicate c.args.layout.now.root_page forms.Other))
          (omega arith));
      value = λ is. ap (map shown) items ∙ forms_start c.args.layout.now c.requires.layout _;
    }

pub loop-page-preserved : goal.loop-page-preserved
loop-page-preserved g c =
    let before = c.loop-page.invariant in
    let taken = c.in_ok-form_of.ensures in
    let within : c.loop-page.page < length (g.D.PageDevice.content c.args.device.now) =
    let whole = c.requires.whole in let here = c.loop-page-test.true in omega arith in
    record {
      held = taken.held;
      told = told_on _ _ _ _ (taken.cause _ before.told);
      read = read_more c.args.layout.now c.requires.layout g.D.PageDevice.content g.D.PageDevice.is_honest
          g.D.PageDevice.fault_count _ _ _ _ _ before.read
          taken.same taken.honest (taken.cause _ before.told).later (λ is. (taken.ok is).right);
      number =
          ap length c.in_ok-push.ensures.items ∙ length-append c.loop-page.forms.items _
          ∙ ap (λ n. n + 1) before.number;
      low =
          ap (take c.args.layout.now.root_page) c.in_ok-push.ensures.items
          ∙ take-append-le c.args.layout.now.root_page c.loop-page.forms.items _
          (subst (λ n. c.args.layout.now.root_page ≤ n) (sym before.number) c.loop-page.auto.page)
          ∙ before.low;
      value = λ is.
          ap (map shown) c.in_ok-push.ensures.items
          ∙ forms_more c.args.layout.now c.requires.layout _ _ _ _ c.loop-page.auto.page within (before.value is)
          (subst (λ pages. shown c.in_ok-form_of.field-0 ≡ bare (said_on pages c.loop-page.page)) before.read.same
          (taken.ok (subst IsTrue (sym before.read.honesty) is)).value);
    }

pub returns-in_err-form_of-clause-err : goal.returns-in_err-form_of-clause-err
returns-in_err-form_of-clause-err g c = λ is.
    let before = c.loop-page.invariant in
    let within : c.loop-page.page < length (g.D.PageDevice.content c.args.device.now) =
    let whole = c.requires.whole in let here = c.loop-page-test.true in omega arith in
    let p = err_from_is_err_and c.from_residual-in_err-form_of.result c.from_residual-in_err-form_of.ensures.1 in
    rw (p.1, p.2) (first_wrong c.args.layout.now c.requires.layout _ _ _ _ _ before.read.same
    (before.read.right is) c.loop-page.auto.page within
    (c.in_err-form_of.ensures.err (subst IsTrue (sym before.read.honesty) is)))

pub returns-in_err-form_of-clause-cause : goal.returns-in_err-form_of-clause-cause
returns-in_err-form_of-clause-cause g c =
    let p = err_from_is_err_and c.from_residual-in_err-form_of.result c.from_residual-in_err-form_of.ensures.1 in
    read_cause _ _ _ _ (passed_cause _ _ _ _ _ _
    (c.in_err-form_of.ensures.cause _ c.loop-page.invariant.told) p.1 p.2)

pub returns-in_err-push-clause-cause : goal.returns-in_err-push-clause-cause
returns-in_err-push-clause-cause g c =
    let p = err_from_is_err_and c.from_residual-in_err-push.result c.from_residual-in_err-push.ensures.1 in
    let told_is = p.1 in let memory = p.2 in
    read_cause _ _ _ _ (other_cause _ _ _ _ _
    (c.in_ok-form_of.ensures.cause _ c.loop-page.invariant.told) (λ is. absurd cc))

pub returns-clause-ok : goal.returns-clause-ok
returns-clause-ok g c =
    let before = c.loop-page.invariant in
    let ended : c.loop-page.page ≡ length (g.D.PageDevice.content c.args.device.now) =
    let whole = c.requires.whole in omega (
      arith,
      c.loop-page.auto.page-end,
      c.loop-page-test.false,
      c.requires.least,
    ) in
    let long : c.args.layout.now.root_page ≤ length (g.D.PageDevice.content c.args.device.now) =
    let whole = c.requires.whole in let least = c.requires.least in omega arith in
    record {
      number = before.number ∙ ended;
      low = before.low;
      right = λ is. subst (AreRightIn c.args.layout.now _ c.args.layout.now.root_page) ended (before.read.right is);
      value = λ is. forms_end c.args.layout.now c.requires.layout _ _ _ long ended (before.value is);
    }
