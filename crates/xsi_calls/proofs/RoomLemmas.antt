-- What of a call is under way in its room.
use Rattle.std.proofs.Common.{◌≡◌, refl, ap, ◌∙◌, subst, ℕ, Bool, true, false, Option, Some, None, IsSome}
use Rattle.call_writes.specs.call_decisions.declared.settled.Settled.TheVariants as settlements
use Rattle.xsi_inquiry.specs.declared.verdict.Verdict.TheVariants as verdicts
use Rattle.xsi_calls.specs.declared.conclusion.Conclusion.{Conclusion}
use Rattle.xsi_calls.specs.declared.conclusion.Conclusion.TheVariants as conclusions
use Rattle.xsi_calls.specs.Concluding.{conclusion_by}
use Rattle.call_writes.specs.PaymentWords.{RecordKey, Settled, Work, begun_sweep}
use Rattle.call_writes.specs.declared.due.Due.{Due}
use Rattle.call_writes.specs.Payments.{begun_behind, begun_payment}
use Rattle.xsi_calls.specs.declared.part.Part.{Part}
use Rattle.xsi_calls.specs.declared.part.Part.TheVariants as parts
use Rattle.xsi_calls.specs.declared.question.Question.{Question}
use Rattle.xsi_calls.specs.declared.questions.Questions.{Questions}
use Rattle.xsi_calls.specs.declared.trials.TrialsPlace.{TrialsPlace}
use Rattle.xsi_calls.specs.Parts.{IsToPay, asked_with, conclusion_under, decision_by, payment_under, paying, question_under, tried_by, tried_in, tried_under, trials_for, undecided_with}
use Rattle.call_writes.specs.PaymentStages as stages
use Rattle.xsi_calls.specs.Undecided.{CanDecide, trials_in}
use Rattle.xsi_calls.specs.UndecidedWords.{Call, Decision, is_done}
use Rattle.call_writes.specs.declared.writes.CallWrites.{CallWrites}
use Rattle.xsi_calls.specs.Words.{PaymentStage}

-- ---- no question

-- once all is asked
pub all_asked : (call : Call) (q : Questions) (part : Part) → (tried_under part ≡ None →
    is_done call (asked_with q (question_under part)) ≡ true) → question_under part ≡ None
all_asked call q (parts.Asks None) done = refl
all_asked call q (parts.Asks (Some question)) done = let more : false ≡ true = done refl in absurd cc
all_asked call q (parts.Writes place) done = refl
all_asked call q (parts.Sweeps sweep) done = refl

-- where the call can decide
pub none_to_decide : (call : Call) (q : Questions) (part : Part) → CanDecide call (undecided_with call q part) →
    question_under part ≡ None
none_to_decide call q (parts.Asks None) can = refl
none_to_decide call q (parts.Asks (Some question)) can = let more : false ≡ true = can.0 in absurd cc
none_to_decide call q (parts.Writes place) can = refl
none_to_decide call q (parts.Sweeps sweep) can = refl

-- the call is then its questions alone
pub bare_undecided : (call : Call) (q : Questions) (part : Part) → tried_under part ≡ None →
    (tried_under part ≡ None → is_done call (asked_with q (question_under part)) ≡ true) →
    undecided_with call q part ≡ record { questions = asked_with q None; trials = None }
bare_undecided call q part untried done =
    ap (λ (o : Option Question). record {
      questions = asked_with q o;
      trials = trials_for (decision_by call q.inquiry) (tried_under part);
    }) (all_asked call q part done)
    ∙ ap (λ (o : Option CallWrites). record {
      questions = asked_with q None;
      trials = trials_for (decision_by call q.inquiry) o;
    }) untried

pub still_done : (call : Call) (q : Questions) (part : Part) → tried_under part ≡ None →
    (tried_under part ≡ None → is_done call (asked_with q (question_under part)) ≡ true) →
    is_done call (asked_with q None) ≡ true
still_done call q part untried done =
    subst (λ (o : Option Question). is_done call (asked_with q o) ≡ true) (all_asked call q part done) (done untried)

-- ---- trials

-- with their decision they are those that are inserted
pub tried_of : (d : Decision) (o : Option CallWrites) → trials_in (trials_for d o) ≡ tried_in o
tried_of d None = refl
tried_of d (Some w) = refl

tried_so : (w : CallWrites) (on_trial : Bool) → IsSome (tried_by w on_trial) → on_trial ≡ true
tried_so w false some = absurd cc
tried_so w true some = refl

-- which is so of the call that has them
pub trying_in : (call : Call) (q : Questions) (part : Part) (place : TrialsPlace) → part ≡ parts.Writes place →
    IsSome (tried_under part) → (place.on_trial ≡ true) × (undecided_with call q part ≡ record {
      questions = asked_with q None;
      trials = Some (record { writes = place.writes; decision = decision_by call q.inquiry });
    })
trying_in call q part place is some =
    let on_trial = tried_so place.writes place.on_trial
    (subst (λ (p : Part). IsSome (tried_under p)) is some) in (
      on_trial,
      ap (undecided_with call q) is ∙ ap (λ (b : Bool). record {
        questions = asked_with q None;
        trials = trials_for (decision_by call q.inquiry) (tried_by place.writes b);
      }) on_trial,
    )

-- ---- the payment

pub is_to_pay : (v : PaymentStage) (c : Conclusion) → IsToPay (paying v c)
is_to_pay (stages.Sweeping sweep) c = tt
is_to_pay (stages.Writing w) c = refl

pub asks_nothing : (v : PaymentStage) (c : Conclusion) → question_under (paying v c) ≡ None
asks_nothing (stages.Sweeping sweep) c = refl
asks_nothing (stages.Writing w) c = refl

pub tries_nothing : (v : PaymentStage) (c : Conclusion) → tried_under (paying v c) ≡ None
tries_nothing (stages.Sweeping sweep) c = refl
tries_nothing (stages.Writing w) c = refl

pub pays_it : (v : PaymentStage) (c : Conclusion) → payment_under (paying v c) ≡ v
pays_it (stages.Sweeping sweep) c = refl
pays_it (stages.Writing w) c = refl

-- it has what the call has come to: only a Remove that is Done sweeps
behind_sweep : (o : Option Work) (due : Due) → conclusion_under (paying (begun_behind o due)
    (conclusions.Answers verdicts.Done)) ≡ conclusions.Answers verdicts.Done
behind_sweep None due = refl
behind_sweep (Some w) due = refl

pub has_come_to : (hash : RecordKey → ℕ) (settled : Option Settled) (due : Due) →
    conclusion_under (paying (begun_payment hash settled due) (conclusion_by settled)) ≡ conclusion_by settled
has_come_to hash None due = refl
has_come_to hash (Some (settlements.Answers verdict)) due = refl
has_come_to hash (Some (settlements.Sweeps sweep)) due = behind_sweep (begun_sweep hash sweep) due
has_come_to hash (Some settlements.Waits) due = refl

-- no question is under way, and nothing is on trial
pub only_paid : (call : Call) (q : Questions) (part : Part) → IsToPay part →
    undecided_with call q part ≡ record { questions = asked_with q None; trials = None }
only_paid call q (parts.Asks question) pays = absurd pays
only_paid call q (parts.Writes place) pays =
    ap (λ (b : Bool). record {
      questions = asked_with q None;
      trials = trials_for (decision_by call q.inquiry) (tried_by place.writes b);
    }) pays
only_paid call q (parts.Sweeps sweep) pays = refl
