-- What C is told of a session that is opened, and of a call on one.
use Rattle.std.proofs.Common.{arith, ℕ, ◌≡◌, ◌≤◌, refl, sym, subst, inl, inr, Bool, true, false, Some, None, Result, Ok, Err, IfOk}
use Rattle.std.specs.Prelude.{◌||◌}
use Rattle.std.specs.Option.{is_some}
use Rattle.queue_model.specs.declared.answer.Answer.{Answer}
use Rattle.queue_model.specs.declared.call.Call.{Call}
use Rattle.queue_model.specs.declared.caller.Caller.{Caller}
use Rattle.session.specs.Session.{SessionState}
use Rattle.session.specs.Words.{IsFaultNumber, OpenFault}
use Rattle.session.specs.declared.unanswered.Unanswered.{Unanswered}
use Rattle.session.specs.declared.unanswered.Unanswered.TheVariants as unanswered
use Rattle.session.proofs.FaultLemmas.{fault_numbers}
use Rattle.call_entries.proofs.LogLemmas.{notes_none}
use Rattle.msgq_c.specs.Codes.{code_of}
use Rattle.msgq_c.specs.Files.{HasOpened, IsFor, IsKept, Keeps, fresh}
use Rattle.msgq_c.specs.Held.{KeptSession}
use Rattle.msgq_c.specs.Serving.{Answers, Serves}
use Rattle.msgq_c.specs.declared.codes.TheConstants.{DONE, NO_MEMORY}
use Rattle.msgq_c.specs.declared.kept.Kept.{Kept}

-- ---- it is opened

in_handle : (Is : Kept → Type 0) (code : ℕ) (k : Kept) (after : KeptSession) → Is k → code ≡ DONE →
    after ≡ Some k → HasOpened Is code after
in_handle Is code k after is done kept = record {
  kept = λ _. (k, kept, is);
  refused = λ not. absurd (not done);
  fault = λ not. absurd (not done);
}

not_in : (Is : Kept → Type 0) (code : ℕ) (after : KeptSession) → IsFaultNumber code → after ≡ None →
    HasOpened Is code after
not_in Is code after number none = record {
  kept = λ (done : code ≡ 0).
      let least : 20 ≤ code = number.least in
      absurd (omega arith);
  refused = λ _. none;
  fault = λ _. number;
}

pub opened_so : (Is : SessionState → Type 0) (caller : Caller) (opened : Result SessionState OpenFault) (code : ℕ)
    (after : KeptSession) → IfOk opened Is → IsKept caller opened code after → HasOpened (IsFor Is caller) code after
opened_so Is caller (Ok k) code after is (inl (done, kept)) =
    in_handle (IsFor Is caller) code (fresh caller k) after (record { is = is; fresh_is = refl }) done kept
opened_so Is caller (Ok k) code after is (inr (code_is, none)) =
    not_in (IsFor Is caller) code after
    (subst IsFaultNumber (sym code_is) (record { least = omega arith; most = omega arith })) none
opened_so Is caller (Err fault) code after is (code_is, none) =
    not_in (IsFor Is caller) code after (subst IsFaultNumber (sym code_is) (fault_numbers fault)) none

-- in a handle that had none
pub opened_in : (Is : Kept → Type 0) (is_open : Bool) (code : ℕ) (old after : KeptSession) →
    is_open ≡ is_some old → is_open ≡ false → HasOpened Is code after → Keeps Is code old after
opened_in Is is_open code None after agrees closed opened = opened
opened_in Is is_open code (Some k) after agrees closed opened = absurd (let clash : true ≡ false = cc in cc)

-- ---- a call is made

pub served : (call : Call) (Tells : Answer → Type 0) (came : Result Answer Unanswered) (code : ℕ)
    (old after : KeptSession) → Answers call (Some came) old after → code ≡ code_of came →
    ((answer : Answer) → came ≡ Ok answer → Tells answer) → Serves call Tells code old after
served call Tells came code None after made is tells = absurd made
served call Tells came code (Some old) after made is tells = record {
  new = made.new;
  after_is = made.after_is;
  result = came;
  makes = made.makes;
  code_is = is;
  tells = tells;
}

-- what is so of an answer, where there is one
pub of_answer : (Tells : Answer → Type 0) (came : Result Answer Unanswered) → IfOk came Tells → (answer : Answer) →
    came ≡ Ok answer → Tells answer
of_answer Tells came tells answer is = subst (λ (r : Result Answer Unanswered). IfOk r Tells) is tells

or_false : (b : Bool) → b ≡ (b || false)
or_false true = refl
or_false false = refl

-- a call that is not made for want of memory comes to what one comes to that is made and has none
pub not_made : (call : Call) (Tells : Answer → Type 0) (old : KeptSession) → is_some old ≡ true →
    Serves call Tells NO_MEMORY old old
not_made call Tells None some = absurd cc
not_made call Tells (Some k) some = record {
  new = k;
  after_is = refl;
  result = Err unanswered.NoMemory;
  makes = record {
    becomes = λ s holds. holds;
    notes = notes_none k.log;
    room = or_false k.lacked_room;
    caller = refl;
    saved = refl;
  };
  code_is = refl;
  tells = λ answer is. absurd cc;
}
