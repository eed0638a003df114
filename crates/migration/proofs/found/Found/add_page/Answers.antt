-- A page that was read, and is none of such a file.
use Rattle.std.proofs.Common.{◌≡◌, ◌∙◌, true, false, IsTrue, IfErr, sym, refl, subst, ap}
use Rattle.std.specs.Prelude.{is_ok}
use Rattle.buffer_pool.proofs.TransferLemmas.{handed_on}
use Rattle.directory.specs.declared.layout.TheConstants.{LAYOUT}
use Rattle.directory.specs.declared.read.HeaderFault.TheVariants as headers
use Rattle.file_walk.specs.Order.{IsRefusedIn}
use Rattle.migration.specs.declared.found.Found.{Found}
use Rattle.migration.specs.Gathering.{MayNotAdd}
use Rattle.migration.proofs.GatheringLemmas.{refused_header, unreadable}
use Rattle.migration.proofs.found.Found.add_page.Goals.{then-page-eq0+in_ok-is_read, else-page-eq0+in-Some+in_ok-add_records, else-page-eq0+in_default-read_tested}
use Rattle.migration.proofs.found.Found.add_page.Goals as goal

-- the header is of another version
pub returns-in_err-is_read-clause-err : goal.returns-in_err-is_read-clause-err
returns-in_err-is_read-clause-err g c =
    let honest = g.D.PageDevice.is_honest c.args.device.now in
    let content = g.D.PageDevice.content c.args.device.now in
    let told = c.in_err-is_read.ensures.err in
    let refused : IsTrue honest → IsRefusedIn LAYOUT content headers.BadVersion =
    λ is. refused_header _ _ _ _ (c.in-Ok.ensures.ok is) c.if-page-eq0.true (c.in-Ok-unseal.ensures.sealed.0 refl)
    c.in-Ok-unseal.ensures.payload told.1 in
    handed_on c.from_residual-in_err-is_read.result c.in_err-is_read.field-0.0 c.from_residual-in_err-is_read.ensures.1
    (λ r. IfErr r (MayNotAdd honest content)) (subst (MayNotAdd honest content) (sym told.0) refused)

pub returns-in_ok-lose_page-3-clause-ok : goal.returns-in_ok-lose_page-3-clause-ok
returns-in_ok-lose_page-3-clause-ok g c = λ honest none. elim c.if-page-eq0.branch [
  | then-page-eq0+in_ok-is_read w ↦ (
    sym w.add_header.ensures.same ∙ ap (λ (found : Found). found.read) (sym w.self-is) ∙ none,
    λ readable. absurd (unreadable _ _ _ _ (c.in-Ok.ensures.ok honest) c.in-Ok-unseal.ensures.payload
        (λ first header spells. w.in_ok-is_read.ensures.ok (sym w.is_read-is ∙ c.if-is_read.false) (header, spells))
        (λ behind kind spells. behind w.if-page-eq0.true) readable),
  )
  | else-page-eq0+in-Some+in_ok-add_records w ↦
      (let clash : true ≡ false = sym w.is_read-is ∙ c.if-is_read.false in absurd cc)
  | else-page-eq0+in_default-read_tested w ↦ (
    ap (λ (found : Found). found.read) (sym w.self-is) ∙ none,
    λ readable. absurd (unreadable _ _ _ _ (c.in-Ok.ensures.ok honest) c.in-Ok-unseal.ensures.payload
        (λ first header spells. w.if-page-eq0.false first)
        (λ behind kind spells.
        let read : w.is_ok.result ≡ true = w.is_ok.ensures.value ∙ ap is_ok (w.read_page.ensures.only kind spells) in
        let clash : true ≡ false = sym read ∙ sym w.is_read-is ∙ c.if-is_read.false in cc) readable),
  )
]
