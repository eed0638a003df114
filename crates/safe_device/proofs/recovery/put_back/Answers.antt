-- An image that is put back changes nothing of what recovery gives.
use Rattle.std.proofs.Common.{◌∙◌, ap, sym, subst, refl, Option, length, IsTrue, is_some}
use Rattle.safe_device.specs.Left.{images_of}
use Rattle.safe_device.specs.Safe.{IsLeftBefore, IsRestoring}
use Rattle.safe_device.specs.declared.journal.Journal.{Journal}
use Rattle.safe_device.proofs.Moments.{first, goes_on, joined}
use Rattle.safe_device.proofs.Sessions.{restoring_cut_on, restoring_joined, before_joined, found_images, found_some}
use Rattle.safe_device.proofs.recovery.put_back.Goals as goal

pub write_images-requires-clause-count : goal.write_images-requires-clause-count
write_images-requires-clause-count g c honest =
    found_images (g.P.PagePair.journal c.args.pair.now) c.args.journal (c.requires.found honest)
    ∙ ap (λ (q : Option Journal). length (images_of q)) (sym c.cut.ensures.journal)

pub write_images-requires-clause-some : goal.write_images-requires-clause-some
write_images-requires-clause-some g c honest =
    subst (λ (q : Option Journal). IsTrue (is_some q)) (sym c.cut.ensures.journal)
    (found_some (g.P.PagePair.journal c.args.pair.now) c.args.journal (c.requires.found honest))

pub write_images-requires-clause-durable : goal.write_images-requires-clause-durable
write_images-requires-clause-durable g c honest f now =
    let P = g.P.PagePair in
    (restoring_cut_on (P.journal c.args.pair.now) c.args.journal (P.may_leave c.args.pair.now)
    (P.may_leave c.cut.new.self) (c.requires.found honest) (c.requires.durable honest) c.cut.ensures.crash).journal_kept
    f now
    ∙ sym c.cut.ensures.journal

pub returns-in_err-write_images-clause-restoring : goal.returns-in_err-write_images-clause-restoring
returns-in_err-write_images-clause-restoring g c honest =
    let P = g.P.PagePair in
    let old = c.args.pair.now in
    let mid = c.cut.new.self in
    let new = c.write_images.new.pair in
    let cut = restoring_cut_on (P.journal old) c.args.journal (P.may_leave old) (P.may_leave mid)
    (c.requires.found honest) (c.requires.durable honest) c.cut.ensures.crash in
    let written = subst (λ (q : Option Journal). IsRestoring q (P.may_leave mid)
    (P.may_leave new)) c.cut.ensures.journal
    (c.write_images.ensures.restoring honest) in
    restoring_joined (P.journal old) (P.may_leave old) (P.may_leave mid) (P.may_leave new) cut written

pub returns-in_err-write_images-clause-any_moment : goal.returns-in_err-write_images-clause-any_moment
returns-in_err-write_images-clause-any_moment g c honest =
    let P = g.P.PagePair in
    let old = c.args.pair.now in
    let mid = c.cut.new.self in
    let cut = restoring_cut_on (P.journal old) c.args.journal (P.may_leave old) (P.may_leave mid)
    (c.requires.found honest) (c.requires.durable honest) c.cut.ensures.crash in
    let at_cut = first P.moment P.left_since P.may_leave old mid (IsLeftBefore (P.may_leave old))
    (g.met.P.PagePair.only_now old) (λ f now. (f, now, refl)) c.cut.ensures.time cut.pages_kept in
    joined P.moment P.left_since P.may_leave old mid c.write_images.new.pair _ (IsLeftBefore (P.may_leave mid)) _ at_cut
    (c.write_images.ensures.any_moment honest) (λ f was. was)
    (λ f via. before_joined (P.may_leave old) (P.may_leave mid) f cut.pages_kept via)

pub returns-clause-restoring : goal.returns-clause-restoring
returns-clause-restoring g c honest =
    let P = g.P.PagePair in
    let old = c.args.pair.now in
    let mid = c.cut.new.self in
    let new = c.write_images.new.pair in
    let cut = restoring_cut_on (P.journal old) c.args.journal (P.may_leave old) (P.may_leave mid)
    (c.requires.found honest) (c.requires.durable honest) c.cut.ensures.crash in
    let written = restoring_joined (P.journal old) (P.may_leave old) (P.may_leave mid) (P.may_leave new) cut
    (subst (λ (q : Option Journal). IsRestoring q (P.may_leave mid) (P.may_leave new)) c.cut.ensures.journal
    (c.write_images.ensures.restoring honest)) in
    record {
      journal_kept = λ f now. written.journal_kept f (c.sync_file.ensures.crash f now);
      pages_kept = λ f now. written.pages_kept f (c.sync_file.ensures.crash f now);
    }

pub returns-clause-any_moment : goal.returns-clause-any_moment
returns-clause-any_moment g c honest =
    let P = g.P.PagePair in
    let old = c.args.pair.now in
    let mid = c.cut.new.self in
    let cut = restoring_cut_on (P.journal old) c.args.journal (P.may_leave old) (P.may_leave mid)
    (c.requires.found honest) (c.requires.durable honest) c.cut.ensures.crash in
    let at_cut = first P.moment P.left_since P.may_leave old mid (IsLeftBefore (P.may_leave old))
    (g.met.P.PagePair.only_now old) (λ f now. (f, now, refl)) c.cut.ensures.time cut.pages_kept in
    let at_images = joined P.moment P.left_since P.may_leave old mid c.write_images.new.pair _
    (IsLeftBefore (P.may_leave mid)) _ at_cut (c.write_images.ensures.any_moment honest) (λ f was. was)
    (λ f via. before_joined (P.may_leave old) (P.may_leave mid) f cut.pages_kept via) in
    goes_on P.moment P.left_since P.may_leave old c.write_images.new.pair c.sync_file.new.self _ at_images
    c.sync_file.ensures.time (returns-clause-restoring g c honest).pages_kept
