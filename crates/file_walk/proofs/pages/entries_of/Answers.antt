-- Page by page the entries are kept, up to the end of the directory.
use Rattle.std.proofs.Common.{◌≡◌, ◌<◌, ◌++◌, take, length, sym, subst, ap, ◌∙◌, IsTrue, arith}
use Rattle.std.proofs.Math.Nat.{min-zero}
use Rattle.std.proofs.Math.Seq.{take-nil}
use Rattle.std.proofs.lemmas.Result.{err_from_is_err_and}
use Rattle.directory.specs.declared.layout.TheConstants.{FIRST_DIRECTORY_PAGE}
use Rattle.file_walk.specs.Files.{directory_entries, said_on}
use Rattle.file_walk.specs.Order.{AreRightIn}
use Rattle.file_walk.proofs.PagesLemmas.{read_none, read_more, entries_kept, entries_counted, entries_number, entries_whole, first_wrong}
use Rattle.file_walk.proofs.RunLemmas.{none_held, none_told, told_on, read_cause, passed_cause}
use Rattle.file_walk.proofs.pages.entries_of.Goals as goal

pub loop-page-init : goal.loop-page-init
loop-page-init g c =
    let none = c.in_ok-entries.ensures.items in
    record {
      held = none_held _ _ _ c.in_ok-run.ensures;
      told = none_told _ _ c.in_ok-run.ensures;
      read = read_none c.args.layout.now c.requires.layout g.D.PageDevice.content g.D.PageDevice.is_honest
          g.D.PageDevice.fault_count _ _;
      number = ap length none ∙ sym (min-zero _);
      value = λ is. none ∙ sym (take-nil _);
    }

pub loop-page-preserved : goal.loop-page-preserved
loop-page-preserved g c =
    let before = c.loop-page.invariant in
    let taken = c.in_ok-take_entries.ensures in
    let within : c.loop-page.page < length (g.D.PageDevice.content c.args.device.now) =
    let long = c.requires.whole in let here = c.loop-page-test.true in omega arith in
    record {
      held = taken.held;
      told = told_on _ _ _ _ (taken.cause _ before.told);
      read = read_more c.args.layout.now c.requires.layout g.D.PageDevice.content g.D.PageDevice.is_honest
          g.D.PageDevice.fault_count _ _ _ _ _ before.read
          taken.same taken.honest (taken.cause _ before.told).later taken.ok.right;
      number = entries_counted c.args.layout.now c.requires.layout _ _ _ _ c.loop-page.auto.page before.number
          taken.ok.number;
      value = λ is. entries_kept c.args.layout.now c.requires.layout _ _ _ _ _ c.loop-page.auto.page within
          (before.value is)
          (subst (λ pages. c.take_entries.new.entries.items
          ≡ take c.entries_at-most.result
          (c.loop-page.entries.items ++ directory_entries (said_on pages c.loop-page.page)))
          before.read.same (taken.ok.value (subst IsTrue (sym before.read.honesty) is)));
    }

pub returns-in_err-take_entries-clause-err : goal.returns-in_err-take_entries-clause-err
returns-in_err-take_entries-clause-err g c = λ is.
    let before = c.loop-page.invariant in
    let within : c.loop-page.page < length (g.D.PageDevice.content c.args.device.now) =
    let long = c.requires.whole in let here = c.loop-page-test.true in omega arith in
    let p = err_from_is_err_and c.from_residual-in_err-take_entries.result
    c.from_residual-in_err-take_entries.ensures.1 in
    rw (p.1, p.2) (first_wrong c.args.layout.now c.requires.layout _ _ _ _ _ before.read.same
    (before.read.right is) c.loop-page.auto.page within
    (c.in_err-take_entries.ensures.err (subst IsTrue (sym before.read.honesty) is)))

pub returns-in_err-take_entries-clause-cause : goal.returns-in_err-take_entries-clause-cause
returns-in_err-take_entries-clause-cause g c =
    let p = err_from_is_err_and c.from_residual-in_err-take_entries.result
    c.from_residual-in_err-take_entries.ensures.1 in
    read_cause _ _ _ _ (passed_cause _ _ _ _ _ _
    (c.in_err-take_entries.ensures.cause _ c.loop-page.invariant.told) p.1 p.2)

pub returns-clause-ok : goal.returns-clause-ok
returns-clause-ok g c =
    let before = c.loop-page.invariant in
    let ended : c.loop-page.page ≡ c.args.layout.now.root_page =
    omega (arith, c.loop-page.auto.page-end, c.loop-page-test.false) in
    record {
      number = entries_number c.args.layout.now c.requires.layout
          (g.D.PageDevice.content c.args.device.now) _ _ _ _ c.requires.depth
          c.entries_at-most.ensures
          ended before.number;
      right = λ is. subst (AreRightIn c.args.layout.now (g.D.PageDevice.content c.args.device.now) FIRST_DIRECTORY_PAGE)
          ended
          (before.read.right is);
      value = λ is. entries_whole c.args.layout.now c.requires.layout _ _ _ _ _ c.requires.depth
          c.entries_at-most.ensures ended (before.value is);
    }
