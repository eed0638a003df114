-- What is taken for a script: the lines of its seats, one seat after another, and its callers.
use Rattle.std.proofs.Common.{◌≡◌, ◌≢◌, ◌<◌, ◌≤◌, ℕ, ◌+◌, Bool, inl, inr, ◌⊎◌, List, [], ◌∷◌, ◌++◌, length, refl, sym, ap, ◌∙◌, subst, length-append, arith}
use Rattle.std.proofs.lemmas.Bool.{cases_eq}
use Rattle.bucket_page.specs.declared.pseudokey.ShaKey.{ShaKey}
use Rattle.msgq_cli.specs.Scripts.{Parts, greatest_seat}
use Rattle.msgq_cli.specs.declared.line.Line.{Line}
use Rattle.queue_model.specs.declared.caller.Caller.{Caller}
use Rattle.replays.proofs.OpeningLemmas.{length-callers_of}
use Rattle.replays.specs.Replays.{callers_of}
use Rattle.workers.specs.Opening.{IsOpenedOn, PreparedView}
use Rattle.service_runs.proofs.PairLemmas.{at_end, before_end}
use Rattle.service_runs.specs.Desks.{AreFresh, AreUnmade, IsPreparedFor, lines_at, no_lines}
use Rattle.service_runs.specs.Lines.{LinesView}

pub fresh_none : (lines : List Line) → AreFresh lines 0 []
fresh_none lines = record { as_many = refl; each = λ place below. absurd (omega arith) }

pub fresh_more : (lines : List Line) (many : ℕ) (seats : List LinesView) (s : LinesView) → AreFresh lines many seats →
    AreUnmade lines (many + 1) s → AreFresh lines (many + 1) (seats ++ s ∷ [])
fresh_more lines many seats s fresh unmade = record {
  as_many = length-append seats (s ∷ []) ∙ ap (λ (n : ℕ). n + 1) fresh.as_many;
  each = λ place below. by place below (cases_eq place many);
}
  where
    by : (place : ℕ) → place < many + 1 → (place ≡ many) ⊎ (place ≢ many) →
        AreUnmade lines (place + 1) (lines_at (seats ++ s ∷ []) place)
    by place below (inl same) =
        subst (λ (n : ℕ). AreUnmade lines (n + 1) (lines_at (seats ++ s ∷ []) n)) (fresh.as_many ∙ sym same)
        (subst (λ (x : LinesView). AreUnmade lines (length seats + 1) x) (sym (at_end seats s no_lines))
        (subst (λ (n : ℕ). AreUnmade lines (n + 1) s) (sym fresh.as_many) unmade))
    by place below (inr apart) =
        let few : place < many = omega (arith, below, apart) in
        let long = fresh.as_many in
        subst (AreUnmade lines (place + 1)) (sym (before_end seats s no_lines place (omega (arith, few, long))))
        (fresh.each place few)

-- ---- the file is opened for the callers

pub prepared_for : (script : Parts) (content : List (List ℕ)) (honest : Bool) (keys : ShaKey) (callers : List Caller)
    (frames : ℕ) → length content ≤ frames → callers ≡ callers_of script.ids (greatest_seat script.lines) →
    (p : PreparedView ShaKey) → IsOpenedOn keys content honest callers frames p →
    IsPreparedFor script content honest p
prepared_for script content honest keys callers frames enough are p opened =
    let same = opened.callers_are ∙ are in
    let pages = ap length opened.content_is in
    let room = opened.frames_are in
    record {
      content_is = opened.content_is;
      honest_is = opened.honest_is;
      callers_are = same;
      many = ap length same ∙ length-callers_of script.ids (greatest_seat script.lines);
      enough = omega (arith, enough, pages, room);
    }
