use Rattle.std.proofs.Common.{◌≡◌, refl, sym, ◌∙◌, inl, inr, true, false, true≢false}
use Rattle.session_runs.proofs.ServeLemmas.{ends_failed, ends_kept, ends_unclosed, ends_untold}
use Rattle.session_runs.proofs.serving.end_session.Goals as goal

-- a line has failed, and nothing is written
pub returns-then-has_failed-clause-ends : goal.returns-then-has_failed-clause-ends
returns-then-has_failed-clause-ends g c = λ was s stands.
    let failed : c.args.session.failed ≡ true = sym c.has_failed.ensures ∙ c.if-has_failed.true in
    ends_failed was _ c.args.session _ c.args.is_untold failed c.abandon.ensures.faults s stands

-- the output refused a write
pub returns-then-is_untold-clause-ends : goal.returns-then-is_untold-clause-ends
returns-then-is_untold-clause-ends g c = λ was s stands.
    let fine : c.args.session.failed ≡ false = sym c.has_failed.ensures ∙ c.if-has_failed.false in
    ends_untold was _ c.args.session _ c.args.is_untold fine c.if-is_untold.true s stands

-- what the session held is in the file
pub returns-in-Ok-clause-ends : goal.returns-in-Ok-clause-ends
returns-in-Ok-clause-ends g c = λ was s stands.
    let fine : c.args.session.failed ≡ false = sym c.has_failed.ensures ∙ c.if-has_failed.false in
    ends_kept was _ c.args.session _ c.args.is_untold fine c.in-Ok.ensures.ends s stands

-- the device has failed at the closing
pub returns-in-Err-clause-ends : goal.returns-in-Err-clause-ends
returns-in-Err-clause-ends g c = λ was s stands.
    let fine : c.args.session.failed ≡ false = sym c.has_failed.ensures ∙ c.if-has_failed.false in
    rw c.number.ensures (ends_unclosed was _ c.args.session _ c.args.is_untold c.in-Err.fault fine
    c.in-Err.ensures.ends s stands)

-- ---- whatever the device gives

pub returns-in-Ok-clause-unwritten : goal.returns-in-Ok-clause-unwritten
returns-in-Ok-clause-unwritten g c = λ away. elim away [
  | inl untold ↦ absurd (true≢false (sym untold ∙ c.if-is_untold.false))
  | inr failed ↦ c.in-Ok.ensures.released.unwritten failed
]

pub returns-in-Err-clause-unwritten : goal.returns-in-Err-clause-unwritten
returns-in-Err-clause-unwritten g c = λ away. elim away [
  | inl untold ↦ absurd (true≢false (sym untold ∙ c.if-is_untold.false))
  | inr failed ↦ c.in-Err.ensures.released.unwritten failed
]

pub returns-in-Ok-clause-synced : goal.returns-in-Ok-clause-synced
returns-in-Ok-clause-synced g c = λ told none honest. c.in-Ok.ensures.released.synced honest refl

pub returns-in-Ok-clause-pages : goal.returns-in-Ok-clause-pages
returns-in-Ok-clause-pages g c = λ s holds told none. (c.in-Ok.ensures.ends s holds).1

pub returns-in-Ok-clause-same : goal.returns-in-Ok-clause-same
returns-in-Ok-clause-same g c = c.in-Ok.ensures.released.same

pub returns-in-Err-clause-same : goal.returns-in-Err-clause-same
returns-in-Err-clause-same g c = c.in-Err.ensures.released.same
