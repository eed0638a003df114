-- The header and its number of pages, or what is wrong with them.
use Rattle.std.proofs.Common.{inr, sym, ◌∙◌, ap, subst, arith, ◌≡◌, length}
use Rattle.std.proofs.lemmas.Result.{err_from_is_err_and}
use Rattle.directory.specs.Spelling.{IsHeaderIn, bytes_in}
use Rattle.file_walk.proofs.PageLemmas.{header_is, header_read, header_fault, header_cut, header_too_long}
use Rattle.file_walk.proofs.header_page.header_of.Goals as goal

pub returns-in_err-read_sealed-clause-err : goal.returns-in_err-read_sealed-clause-err
returns-in_err-read_sealed-clause-err g c = λ honest.
    let p = err_from_is_err_and c.from_residual.result c.from_residual.ensures.1 in
    rw (p.1, p.2) (header_fault c.args.layout.now c.requires.layout _ _ (c.in_err-read_sealed.ensures.err honest))

pub returns-then-pages-header-clause-err : goal.returns-then-pages-header-clause-err
returns-then-pages-header-clause-err g c = λ honest.
    inr (inr (header_cut c.args.layout.now c.requires.layout _ _ _ _
    (c.in_ok-read_sealed.ensures.ok honest) c.in-Ok.ensures.value c.pages-pages.ensures
    c.if-pages-header.true))

pub returns-then-pages-header-2-clause-err : goal.returns-then-pages-header-2-clause-err
returns-then-pages-header-2-clause-err g c = λ honest.
    inr (inr (header_too_long c.args.layout.now c.requires.layout _ _ _ _
    (c.in_ok-read_sealed.ensures.ok honest) c.in-Ok.ensures.value
    c.pages-pages.ensures c.if-pages-header-2.true))

pub returns-clause-ok : goal.returns-clause-ok
returns-clause-ok g c =
    let same : c.in-Ok.header.pages ≡ length (g.D.PageDevice.content c.args.device.now) =
    omega (arith, c.if-pages-header-2.false, c.if-pages-header.false, c.pages-pages.ensures) in
    record {
      in_range = c.in-Ok.ensures.ok.in_range;
      as_many = same;
      right = λ honest.
          let p = c.in_ok-read_sealed.ensures.ok honest in
          let e = c.in-Ok.ensures.value in
          record {
            sealed = p.sealed;
            read = header_read c.args.layout.now c.requires.layout _ _ _ p e;
            in_range = subst (IsHeaderIn c.args.layout.now) (header_is c.args.layout.now c.requires.layout _ _ _ p e)
                c.in-Ok.ensures.ok.in_range;
            spelled = sym p.value ∙ c.in-Ok.ensures.ok.spelled
                ∙ ap (bytes_in c.args.layout.now) (header_is c.args.layout.now c.requires.layout _ _ _ p e);
            as_many = sym (ap (λ h. h.pages) (header_is c.args.layout.now c.requires.layout _ _ _ p e)) ∙ same;
          };
      value = λ honest. header_is c.args.layout.now c.requires.layout _ _ _
          (c.in_ok-read_sealed.ensures.ok honest) c.in-Ok.ensures.value;
    }
