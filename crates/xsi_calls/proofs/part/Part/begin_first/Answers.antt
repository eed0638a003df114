-- Trials are under way, or the first one begins, or nothing is inserted on trial.
use Rattle.std.proofs.Common.{◌≡◌, refl, sym, ap, ◌∙◌, subst, None, IsSome}
use Rattle.std.specs.Option.{is_some}
use Rattle.std.specs.Prelude.{slice_get}
use Rattle.xsi_calls.specs.declared.part.Part.{Part}
use Rattle.xsi_calls.specs.Parts.{asked_with, decision_by, tried_under, undecided_with}
use Rattle.xsi_calls.specs.Undecided.{undecided_locks}
use Rattle.xsi_calls.specs.UndecidedSteps.{MakesUndecided}
use Rattle.xsi_calls.specs.UndecidedWords.{AnyInquiry, plan_of}
use Rattle.xsi_calls.proofs.BeginLemmas.{decision_made}
use Rattle.xsi_calls.proofs.HeldLemmas.{some_of}
use Rattle.call_writes.proofs.StartLemmas.{none_of}
use Rattle.xsi_calls.proofs.RoomLemmas.{bare_undecided, still_done}
use Rattle.xsi_calls.proofs.StepLemmas.{begun, rests}
use Rattle.xsi_calls.proofs.part.Part.begin_first.Goals as goal

pub returns-then-not-inserts : goal.returns-then-not-inserts
returns-then-not-inserts c =
    let q = c.args.questions.now in
    let here = ap (λ (i : AnyInquiry). slice_get (plan_of c.args.call.now i).trials 0) c.inquiry.ensures in
    let none : slice_get (plan_of c.args.call.now c.args.questions.now.inquiry).trials 0 ≡ None =
    none_of (slice_get (plan_of c.args.call.now c.args.questions.now.inquiry).trials 0)
    (sym (ap is_some here) ∙ sym c.inserts.ensures ∙ c.if-not-inserts.true) in
    let untried = none_of _ (sym c.is_trying.ensures ∙ c.if-is_trying.false) in
    let is = bare_undecided c.args.call.now q c.args.self.now untried c.requires.asked in
    let done = still_done c.args.call.now q c.args.self.now untried c.requires.asked in
    record {
      same = refl;
      makes = λ hash seat pool locks ready row. rw is (rests hash seat c.args.call.now (asked_with q None) pool
          locks ready (row ∙ ap undecided_locks is) done none);
    }

pub returns : goal.returns
returns c =
    let q = c.args.questions.now in
    let here = ap (λ (i : AnyInquiry). slice_get (plan_of c.args.call.now i).trials 0) c.inquiry.ensures in
    let (r, some) = some_of (slice_get (plan_of c.args.call.now c.args.questions.now.inquiry).trials 0)
    (sym (ap is_some here) ∙ sym c.inserts.ensures ∙ c.if-not-inserts.false) in
    let decides = decision_made c.args.call.now (asked_with q None) c.inquiry-2.result.now c.inquiry-2.ensures
    c.decide.result c.decide.ensures.value c.decide.ensures.right c.in-Ok._decision c.in-Ok.is in
    let untried = none_of _ (sym c.is_trying.ensures ∙ c.if-is_trying.false) in
    let is = bare_undecided c.args.call.now q c.args.self.now untried c.requires.asked in
    let done = still_done c.args.call.now q c.args.self.now untried c.requires.asked in
    record {
      under_way = subst (λ (p : Part). IsSome (tried_under p)) (sym c.begin_trials.ensures) refl;
      row = ap (λ (p : Part). undecided_locks (undecided_with c.args.call.now c.args.questions.now p))
          c.begin_trials.ensures ∙ sym (ap undecided_locks is);
      makes = λ hash seat did after pool pool' locks locks' made. rw is (begun hash seat c.args.call.now
          (asked_with q None) pool locks c.keep_order.ensures done r some (decision_by c.args.call.now q.inquiry)
          decides did after pool' locks'
          (subst (λ (p : Part). MakesUndecided hash seat c.args.call.now did (undecided_with c.args.call.now
          c.args.questions.now p) after pool pool' locks locks') c.begin_trials.ensures made));
    }
