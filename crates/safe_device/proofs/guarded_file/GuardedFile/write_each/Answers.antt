-- A page that is written is one of those that may differ.
use Rattle.std.proofs.Common.{rules, ◌<◌, ◌∙◌, ap, sym, length, get_or, set, IsTrue}
use Rattle.std.proofs.lemmas.Option.{slice_get-get_or}
use Rattle.safe_device.proofs.Moments.{joined}
use Rattle.safe_device.proofs.Restoring.{Pages, no_image, number_found, put_back_found, torn_hidden}
use Rattle.safe_device.proofs.guarded_file.GuardedFile.write_each.Goals as goal

pub returns-in_err-write-clause-others : goal.returns-in_err-write-clause-others
returns-in_err-write-clause-others g c count =
    let P = g.P.PagePair in
    let loop = c.loop-page in
    let images = c.args.pages.now in
    let lt : loop.page-index < length images = search rules in
    let image = get_or images loop.page-index no_image in
    let has = number_found images loop.page-index image (slice_get-get_or images loop.page-index no_image lt) in
    torn_hidden count images image.page (P.file loop.self.pair) (P.file c.write.new.self.pair) has c.write.ensures.torn
    ∙ loop.invariant.others count

pub loop-page-preserved : goal.loop-page-preserved
loop-page-preserved g c =
    let P = g.P.PagePair in
    let loop = c.loop-page in
    let images = c.args.pages.now in
    let old = c.args.self.now.pair in
    let lt : loop.page-index < length images = search rules in
    let image = get_or images loop.page-index no_image in
    let found = slice_get-get_or images loop.page-index no_image lt in
    let has = number_found images loop.page-index image found in
    let stays = λ (honest : IsTrue P.is_honest).
    c.in_ok-write.ensures.committed honest ∙ loop.invariant.base honest in
    record {
      safe = c.in_ok-write.ensures.safe;
      file = λ honest.
          c.in_ok-write.ensures.file honest
          ∙ ap (λ (ps : Pages). set ps image.page image.bytes) (loop.invariant.file honest)
          ∙ sym (put_back_found (P.file old) images loop.page-index image found);
      others = λ count.
          torn_hidden count images image.page (P.file loop.self.pair) (P.file c.write.new.self.pair) has
          c.write.ensures.torn
          ∙ loop.invariant.others count;
      base = stays;
      any_moment = λ honest.
          joined P.moment P.left_since P.may_leave old loop.self.pair c.write.new.self.pair _ _ _
          (loop.invariant.any_moment honest) (c.write.ensures.any_moment honest) (λ f was. was)
          (λ f was. was ∙ loop.invariant.base honest);
    }
