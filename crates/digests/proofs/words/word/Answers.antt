use Rattle.std.proofs.Common.{◌≡◌, ◌∙◌, sym, ap, ℕ, ◌*◌, arith}
use Rattle.sha2.specs.Sha256.{word_at}
use Rattle.digests.specs.Lanes.{padded_page}
use Rattle.digests.proofs.PageWords.{number-word, payload-word, end-word, zero-word, bits-word}
use Rattle.digests.proofs.words.word.Goals as goal

pub returns-then-at-eq0 : goal.returns-then-at-eq0
returns-then-at-eq0 c =
    let is : 0 ≡ c.args.at = omega arith in
    sym (number-word c.args.n c.args.page.now (omega arith) (omega arith))
    ∙ ap (λ (at : ℕ). word_at (padded_page c.args.n c.args.page.now) (4 * at)) is

pub returns-then-at-le-PAYLOAD_WORDS : goal.returns-then-at-le-PAYLOAD_WORDS
returns-then-at-le-PAYLOAD_WORDS c =
    c.load.ensures
    ∙ sym (payload-word c.args.n c.args.page.now (omega arith) c.args.at (omega arith) (omega arith))

pub returns-then-at : goal.returns-then-at
returns-then-at c =
    let is : 1017 ≡ c.args.at = omega arith in
    sym (end-word c.args.n c.args.page.now (omega arith))
    ∙ ap (λ (at : ℕ). word_at (padded_page c.args.n c.args.page.now) (4 * at)) is

pub returns-then-at-2 : goal.returns-then-at-2
returns-then-at-2 c = sym (zero-word c.args.n c.args.page.now (omega arith) c.args.at (omega arith) (omega arith))

pub returns-else-at-2 : goal.returns-else-at-2
returns-else-at-2 c =
    let is : 1023 ≡ c.args.at = omega arith in
    sym (bits-word c.args.n c.args.page.now (omega arith))
    ∙ ap (λ (at : ℕ). word_at (padded_page c.args.n c.args.page.now) (4 * at)) is
