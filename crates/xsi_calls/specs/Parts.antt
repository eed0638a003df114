-- What of a call is under way has one room, and the call is seen by what stands there. docs/STEPS.md, "Calls".
use Rattle.std.specs.Prelude.{◌≡◌, Bool, true, false, Option, Some, None, Result, Ok, Err, ⊤}
use Rattle.call_writes.specs.call_decisions.Anything.{decided_of}
use Rattle.xsi_inquiry.specs.declared.decision.Decision.{Decision}
use Rattle.xsi_inquiry.specs.declared.decision.Decision.TheVariants.{PutOff}
use Rattle.xsi_inquiry.specs.declared.verdict.Verdict.TheVariants as verdicts
use Rattle.xsi_calls.specs.declared.conclusion.Conclusion.{Conclusion}
use Rattle.xsi_calls.specs.declared.conclusion.Conclusion.TheVariants as conclusions
use Rattle.xsi_calls.specs.declared.part.Part.{Part}
use Rattle.xsi_calls.specs.declared.part.Part.TheVariants as parts
use Rattle.xsi_calls.specs.declared.phase.Phase.{Phase}
use Rattle.xsi_calls.specs.declared.phase.Phase.TheVariants as phases
use Rattle.xsi_calls.specs.declared.question.Question.{Question}
use Rattle.xsi_calls.specs.declared.questions.Questions.{Questions}
use Rattle.xsi_calls.specs.declared.trials.TrialsPlace.{TrialsPlace}
use Rattle.call_writes.specs.declared.writes.CallWrites.{CallWrites}
use Rattle.xsi_calls.specs.Machine.{CallView, IsOneCall}
use Rattle.call_writes.specs.Payments.{unwritten}
use Rattle.call_writes.specs.PaymentStages as stages
use Rattle.xsi_calls.specs.Questions.{QuestionsView}
use Rattle.xsi_calls.specs.Undecided.{Trials, UndecidedCall, untried}
use Rattle.xsi_calls.specs.UndecidedWords.{AnyInquiry, NotASystem}
use Rattle.xsi_calls.specs.Words.{Call, PaymentStage}

-- ---- a question

-- with the one under way
abbrev pub asked_with : Questions → Option Question → QuestionsView
asked_with q question = record {
  inquiry = q.inquiry;
  room = q.room;
  names = q.names;
  question = question;
  finds = q.finds;
}

abbrev pub question_under : Part → Option Question
question_under (parts.Asks question) = question
question_under (parts.Writes place) = None
question_under (parts.Sweeps sweep) = None

-- ---- trials

-- what is inserted on trial, once that has begun
abbrev pub tried_by : CallWrites → Bool → Option CallWrites
tried_by w false = None
tried_by w true = Some w

abbrev pub tried_at : TrialsPlace → Option CallWrites
tried_at place = tried_by place.writes place.on_trial

abbrev pub tried_under : Part → Option CallWrites
tried_under (parts.Asks question) = None
tried_under (parts.Writes place) = tried_at place
tried_under (parts.Sweeps sweep) = None

abbrev pub tried_in : Option CallWrites → CallWrites
tried_in None = untried
tried_in (Some w) = w

-- what it tries for is what its inquiry decides: trials begin only where that decides something
abbrev pub decision_in : Result Decision NotASystem → Decision
decision_in (Ok decision) = decision
decision_in (Err e) = PutOff

abbrev pub decision_by : Call → AnyInquiry → Decision
decision_by call i = decision_in (decided_of call i)

abbrev pub trials_for : Decision → Option CallWrites → Option Trials
trials_for decision None = None
trials_for decision (Some w) = Some (record { writes = w; decision = decision })

abbrev pub trials_under : Call → Questions → Part → Option Trials
trials_under call q part = trials_for (decision_by call q.inquiry) (tried_under part)

-- the call up to its Decide
abbrev pub undecided_with : Call → Questions → Part → UndecidedCall
undecided_with call q part = record {
  questions = asked_with q (question_under part);
  trials = trials_under call q part;
}

-- ---- the payment

-- that of a question says nothing
abbrev pub payment_under : Part → PaymentStage
payment_under (parts.Asks question) = stages.Writing unwritten
payment_under (parts.Writes place) = stages.Writing place.writes
payment_under (parts.Sweeps sweep) = stages.Sweeping sweep

abbrev pub paying : PaymentStage → Conclusion → Part
paying (stages.Sweeping sweep) conclusion = parts.Sweeps sweep
paying (stages.Writing w) conclusion = parts.Writes (record { writes = w; on_trial = false; conclusion = conclusion })

-- what the call has come to: a Remove that sweeps is Done, and that of a question says nothing
abbrev pub conclusion_under : Part → Conclusion
conclusion_under (parts.Asks question) = conclusions.Waits
conclusion_under (parts.Writes place) = place.conclusion
conclusion_under (parts.Sweeps sweep) = conclusions.Answers verdicts.Done

-- it is there, and nothing is on trial
abbrev pub IsToPay : Part → Type 0
IsToPay (parts.Asks question) = ⊥
IsToPay (parts.Writes place) = place.on_trial ≡ false
IsToPay (parts.Sweeps sweep) = ⊤

-- ---- what is always so

pub record IsOneMachine (m : CallView) (phase : Phase) (part : Part) : Type 0 where
  pub one : IsOneCall m
  -- while it pays, the room has its payment
  pub pays : phase ≡ phases.Paying → IsToPay part
