-- One more page is that of a new file.
use Rattle.std.proofs.Common.{◌≡◌, ◌∙◌, subst, sym, ap, arith, IsTrue, ◌+◌, ◌<◌}
use Rattle.record_file.specs.Files.{IsNewFile}
use Rattle.record_file.proofs.FileLemmas.{always, file_made, one_more}
use Rattle.record_file.proofs.new_file.format.Goals as goal

pub loop-page-preserved : goal.loop-page-preserved
loop-page-preserved g c =
    let so_far = c.loop-page.invariant in
    record {
      as_many = c.in_ok-extend.ensures.grows ∙ ap (λ n. n + 1) so_far.as_many;
      made = λ is.
          one_more c.args.pages c.loop-page.page _ _ c.seal.result so_far.as_many
          (c.in_ok-extend.ensures.ok (subst IsTrue (sym so_far.honest) is))
          (record { sealed = c.seal.ensures.sealed; payload = c.seal.ensures.payload ∙ c.write_page.ensures })
          (so_far.made is);
      honest = c.extend.ensures.honest ∙ so_far.honest;
      later = let before = so_far.later in let after = c.extend.ensures.cause.later in omega arith;
    }

pub returns-clause-ok : goal.returns-clause-ok
returns-clause-ok g c = λ is.
    let so_far = c.loop-page.invariant in
    let ended : c.loop-page.page ≡ c.args.pages =
    omega (arith, c.loop-page.auto.page-end, c.loop-page-test.false) in
    always c.sync.result
    (subst (IsNewFile c.args.pages) (sym c.sync.ensures.same)
    (file_made c.args.pages _ c.requires.least c.requires.most (so_far.as_many ∙ ended)
    (λ n within. so_far.made is n (subst (λ m. n < m) (sym ended) within))))
