-- Behind what was decided, no call has an answer that is not due.
use Rattle.std.proofs.Common.{arith, ℕ, ◌≡◌, refl, sym, ap, ◌∙◌, subst, Bool, true, false, List, [], ◌∷◌, ◌++◌, Some, None, ℤ}
use Rattle.std.specs.Prelude.{◌==◌, ◌&&◌, slice_index_or, if◌then◌else◌, Ok}
use Rattle.std.specs.List.{All}
use Rattle.std.proofs.lemmas.List.Elements.{All-push}
use Rattle.std.proofs.lemmas.Bool.Decides.{nat_tests}
use Rattle.queue_model.specs.declared.answer.Answer.{Answer}
use Rattle.queue_model.specs.declared.answer.Answer.TheVariants as answers
use Rattle.queue_model.specs.declared.call.Call.{Call}
use Rattle.queue_model.specs.declared.call.Call.TheVariants as calls
use Rattle.queue_model.specs.declared.call.ReceiveArguments.{ReceiveArguments}
use Rattle.queue_model.specs.declared.call.SendArguments.{SendArguments}
use Rattle.queue_model.specs.declared.caller.Caller.{Caller}
use Rattle.queue_model.specs.declared.message.Message.{Message}
use Rattle.queue_model.specs.Laws.{RefusalsLeave}
use Rattle.queue_model.specs.Lawful.{IsLawful}
use Rattle.queue_model.specs.Rules.{outcome}
use Rattle.queue_model.specs.State.{State}
use Rattle.desk.specs.Desk.{AreQuiet, HasToWait, IsQuiet, WaitedBefore}
use Rattle.desk.specs.Due.{behind_deed, behind_sent, behind_taken, deed_of, due_behind, is_due, is_on, is_put, joined, may_take, on_both, touches, widened}
use Rattle.desk.specs.declared.asking.Asking.{Asking}
use Rattle.desk.specs.declared.due.Due.{Due}
use Rattle.desk.specs.declared.due.Due.TheVariants.{Nobody, Message as OfMessage, Room, Queue as OnQueue, Everybody}
use Rattle.desk.proofs.WaitLemmas.{elsewhere, sent_leaves, taken_leaves, waits_again}

-- ---- each call that is not due waits

pub each_quiet : (s : State) (due : Due) (ws : List Asking) → AreQuiet s due ws → All (IsQuiet s due) ws
each_quiet s Nobody ws quiet = quiet
each_quiet s (OfMessage queue serial mtype) ws was = λ place w within undue.
    let a = slice_index_or ws place w in
    let its : may_take was.arguments.id was.arguments.mtype a.call ≡ false =
    ap (λ (q : ℕ). may_take q was.arguments.mtype a.call) was.queue_is
    ∙ ap (λ (t : ℤ). may_take queue t a.call) was.mtype_is ∙ undue in
    sent_leaves was.caller was.arguments serial was.before s was.by_rules a.caller a.call its
    (was.waited place w within)
each_quiet s (Room queue) ws quiet = quiet
each_quiet s (OnQueue queue) ws quiet = quiet
each_quiet s Everybody ws quiet = quiet

-- ---- those that are due become more

not_taking : (queue : ℕ) (mtype : ℤ) (x : Call) → is_on queue (touches x) ≡ false → may_take queue mtype x ≡ false
not_taking queue mtype (calls.Get x) apart = refl
not_taking queue mtype (calls.Send x) apart = refl
not_taking queue mtype (calls.Receive x) apart = rw apart refl
not_taking queue mtype (calls.Stat id) apart = refl
not_taking queue mtype (calls.Set x) apart = refl
not_taking queue mtype (calls.Remove id) apart = refl

not_putting : (queue : ℕ) (x : Call) → is_on queue (touches x) ≡ false → is_put queue x ≡ false
not_putting queue (calls.Get x) apart = refl
not_putting queue (calls.Send x) apart = apart
not_putting queue (calls.Receive x) apart = refl
not_putting queue (calls.Stat id) apart = refl
not_putting queue (calls.Set x) apart = refl
not_putting queue (calls.Remove id) apart = refl

due_widened : (due : Due) (x : Call) → is_due (widened due) x ≡ false → is_due due x ≡ false
due_widened Nobody x undue = undue
due_widened (OfMessage queue serial mtype) x undue = not_taking queue mtype x undue
due_widened (Room queue) x undue = not_putting queue x undue
due_widened (OnQueue queue) x undue = undue
due_widened Everybody x undue = undue

widely_quiet : (s : State) (due : Due) (ws : List Asking) → AreQuiet s due ws → All (IsQuiet s (widened due)) ws
widely_quiet s due ws quiet = λ place w within undue.
    each_quiet s due ws quiet place w within (due_widened due (slice_index_or ws place w).call undue)

-- so it is told of them one by one
of_widened : (s : State) (due : Due) (ws : List Asking) → All (IsQuiet s (widened due)) ws → AreQuiet s (widened due) ws
of_widened s Nobody ws quiet = quiet
of_widened s (OfMessage queue serial mtype) ws quiet = quiet
of_widened s (Room queue) ws quiet = quiet
of_widened s (OnQueue queue) ws quiet = quiet
of_widened s Everybody ws quiet = quiet

-- also where one more waits
pub quiet_pushed : (s : State) (due : Due) (ws : List Asking) (a : Asking) → AreQuiet s due ws → HasToWait s a →
    AreQuiet s (widened due) (ws ++ a ∷ [])
quiet_pushed s due ws a quiet none =
    of_widened s due (ws ++ a ∷ [])
    (All-push (IsQuiet s (widened due)) ws a (widely_quiet s due ws quiet) (λ undue. none))

-- or fewer do
pub quiet_fewer : (s : State) (due : Due) (ws vs : List Asking) →
    ((P : Asking → Type 0) → All P ws → All P vs) → AreQuiet s due ws → AreQuiet s due vs
quiet_fewer s Nobody ws vs fewer quiet = fewer (IsQuiet s Nobody) quiet
quiet_fewer s (OfMessage queue serial mtype) ws vs fewer was = record {
  before = was.before;
  caller = was.caller;
  arguments = was.arguments;
  by_rules = was.by_rules;
  queue_is = was.queue_is;
  mtype_is = was.mtype_is;
  waited = fewer (HasToWait was.before) was.waited;
}
quiet_fewer s (Room queue) ws vs fewer quiet = fewer (IsQuiet s (Room queue)) quiet
quiet_fewer s (OnQueue queue) ws vs fewer quiet = fewer (IsQuiet s (OnQueue queue)) quiet
quiet_fewer s Everybody ws vs fewer quiet = fewer (IsQuiet s Everybody) quiet

of_both : (s : State) (queue other : ℕ) (ws : List Asking) → All (IsQuiet s (on_both queue other)) ws →
    AreQuiet s (on_both queue other) ws
of_both s queue other ws = by (queue == other)
  where
    by : (b : Bool) → All (IsQuiet s (if b then OnQueue other else Everybody)) ws →
        AreQuiet s (if b then OnQueue other else Everybody) ws
    by true quiet = quiet
    by false quiet = quiet

of_joined : (s : State) (due : Due) (id : ℕ) (ws : List Asking) → All (IsQuiet s (joined due id)) ws →
    AreQuiet s (joined due id) ws
of_joined s Nobody id ws quiet = quiet
of_joined s (OfMessage queue serial mtype) id ws quiet = of_both s queue id ws quiet
of_joined s (Room queue) id ws quiet = of_both s queue id ws quiet
of_joined s (OnQueue queue) id ws quiet = of_both s queue id ws quiet
of_joined s Everybody id ws quiet = quiet

-- who is not on either queue
module _ (queue id : ℕ) (x : Call) where
  both_apart : is_due (on_both queue id) x ≡ false →
      (is_on queue (touches x) ≡ false) × (is_on id (touches x) ≡ false)
  both_apart = by (queue == id) refl
    where
      by : (b : Bool) → (queue == id) ≡ b → is_due (if b then OnQueue id else Everybody) x ≡ false →
          (is_on queue (touches x) ≡ false) × (is_on id (touches x) ≡ false)
      by true is undue =
          let same : queue ≡ id = grind (arith, nat_tests, is) in
          (subst (λ (n : ℕ). is_on n (touches x) ≡ false) (sym same) undue, undue)
      by false is undue = absurd cc

join_apart : (due : Due) (id : ℕ) (x : Call) → is_due (joined due id) x ≡ false →
    (is_due (widened due) x ≡ false) × (is_on id (touches x) ≡ false)
join_apart Nobody id x undue = (refl, undue)
join_apart (OfMessage queue serial mtype) id x undue = both_apart queue id x undue
join_apart (Room queue) id x undue = both_apart queue id x undue
join_apart (OnQueue queue) id x undue = both_apart queue id x undue
join_apart Everybody id x undue = absurd cc

-- ---- behind an answer

module _ (by : Caller) (s t : State) (due : Due) (ws : List Asking) (quiet : AreQuiet s due ws) where
  -- that touches no queue
  untouched : (call : Call) (a : Answer) → outcome by call s ≡ Some (a, t) → touches call ≡ None →
      AreQuiet t (widened due) ws
  untouched call a at none = of_widened t due ws (λ place w within undue.
      let x = slice_index_or ws place w in
      elsewhere by call a s t at x.caller x.call (widely_quiet s due ws quiet place w within undue)
      (λ id on. ap (is_on id) none))

  turned : (m n : ℕ) → is_on m (Some n) ≡ false → is_on n (Some m) ≡ false
  turned m n apart = grind (arith, nat_tests, apart)

  -- that touches this one
  touched : (call : Call) (a : Answer) → outcome by call s ≡ Some (a, t) → (id : ℕ) → touches call ≡ Some id →
      AreQuiet t (joined due id) ws
  touched call a at id on = of_joined t due id ws (λ place w within undue.
      let x = slice_index_or ws place w in
      let apart = join_apart due id x.call undue in
      elsewhere by call a s t at x.caller x.call (widely_quiet s due ws quiet place w within apart.0)
      (λ n its. ap (is_on n) on ∙ turned id n (ap (is_on id) (sym its) ∙ apart.1)))

  -- a message was sent
  sent : (d : Due) → due ≡ d → (x : SendArguments) (n : ℕ) →
      outcome by (calls.Send x) s ≡ Some (answers.Sent n, t) → AreQuiet t (behind_sent d x.id x.mtype n) ws
  sent Nobody is x n at = record {
    before = s;
    caller = by;
    arguments = x;
    by_rules = at;
    queue_is = refl;
    mtype_is = refl;
    waited = λ place w within.
        subst (λ (d : Due). AreQuiet s d ws) is quiet place w within refl;
  }
  sent (OfMessage other number wanted) is x n at =
      subst (λ (d : Due). AreQuiet t (joined d x.id) ws) is (touched (calls.Send x) (answers.Sent n) at x.id refl)
  sent (Room other) is x n at =
      subst (λ (d : Due). AreQuiet t (joined d x.id) ws) is (touched (calls.Send x) (answers.Sent n) at x.id refl)
  sent (OnQueue other) is x n at =
      subst (λ (d : Due). AreQuiet t (joined d x.id) ws) is (touched (calls.Send x) (answers.Sent n) at x.id refl)
  sent Everybody is x n at =
      subst (λ (d : Due). AreQuiet t (joined d x.id) ws) is (touched (calls.Send x) (answers.Sent n) at x.id refl)

  -- a message was taken
  module _ (lawful : IsLawful s) (x : ReceiveArguments) (m : Message)
      (at : outcome by (calls.Receive x) s ≡ Some (answers.Received m, t)) where
    taken_joined : (d : Due) → due ≡ d → AreQuiet t (joined d x.id) ws
    taken_joined d is =
        subst (λ (d : Due). AreQuiet t (joined d x.id) ws) is
        (touched (calls.Receive x) (answers.Received m) at x.id refl)

    the_one : (other number : ℕ) (wanted : ℤ) → WaitedBefore other number wanted s ws → other ≡ x.id →
        number ≡ m.serial → AreQuiet t Nobody ws
    the_one other number wanted was queue serial = λ place w within undue.
        let a = slice_index_or ws place w in
        waits_again was.caller was.arguments number was.before s was.by_rules lawful by x
        (sym queue ∙ sym was.queue_is) m t at (sym serial) a.caller a.call (was.waited place w within)

    of_message : (other number : ℕ) (wanted : ℤ) → due ≡ OfMessage other number wanted → (b : Bool) →
        (other == x.id && number == m.serial) ≡ b → AreQuiet t (if b then Nobody else on_both other x.id) ws
    of_message other number wanted is true same =
        let queue : other ≡ x.id = grind (arith, nat_tests, same) in
        let serial : number ≡ m.serial = grind (arith, nat_tests, same) in
        the_one other number wanted (subst (λ (d : Due). AreQuiet s d ws) is quiet) queue serial
    of_message other number wanted is false same = taken_joined (OfMessage other number wanted) is

    taken : (d : Due) → due ≡ d → AreQuiet t (behind_taken d x.id m.serial) ws
    taken Nobody is = λ place w within undue.
        let a = slice_index_or ws place w in
        taken_leaves by x m s t at a.caller a.call undue
        (subst (λ (d : Due). AreQuiet s d ws) is quiet place w within refl)
    taken (OfMessage other number wanted) is =
        of_message other number wanted is (other == x.id && number == m.serial) refl
    taken (Room other) is = taken_joined (Room other) is
    taken (OnQueue other) is = taken_joined (OnQueue other) is
    taken Everybody is = taken_joined Everybody is

  module _ (lawful : IsLawful s) where
    of_send : (x : SendArguments) (a : Answer) → outcome by (calls.Send x) s ≡ Some (a, t) →
        AreQuiet t (behind_deed due (deed_of (calls.Send x)) a) ws
    of_send x (answers.Id id) at = touched (calls.Send x) (answers.Id id) at x.id refl
    of_send x (answers.Sent n) at = sent due refl x n at
    of_send x (answers.Received m) at = touched (calls.Send x) (answers.Received m) at x.id refl
    of_send x (answers.Info i) at = touched (calls.Send x) (answers.Info i) at x.id refl
    of_send x answers.Done at = touched (calls.Send x) answers.Done at x.id refl
    of_send x (answers.Refused e) at = touched (calls.Send x) (answers.Refused e) at x.id refl

    of_receive : (x : ReceiveArguments) (a : Answer) → outcome by (calls.Receive x) s ≡ Some (a, t) →
        AreQuiet t (behind_deed due (deed_of (calls.Receive x)) a) ws
    of_receive x (answers.Id id) at = touched (calls.Receive x) (answers.Id id) at x.id refl
    of_receive x (answers.Sent n) at = touched (calls.Receive x) (answers.Sent n) at x.id refl
    of_receive x (answers.Received m) at = taken lawful x m at due refl
    of_receive x (answers.Info i) at = touched (calls.Receive x) (answers.Info i) at x.id refl
    of_receive x answers.Done at = touched (calls.Receive x) answers.Done at x.id refl
    of_receive x (answers.Refused e) at = touched (calls.Receive x) (answers.Refused e) at x.id refl

    of_deed : (call : Call) (a : Answer) → outcome by call s ≡ Some (a, t) →
        AreQuiet t (behind_deed due (deed_of call) a) ws
    of_deed (calls.Get x) a at = untouched (calls.Get x) a at refl
    of_deed (calls.Send x) a at = of_send x a at
    of_deed (calls.Receive x) a at = of_receive x a at
    of_deed (calls.Stat id) a at = untouched (calls.Stat id) a at refl
    of_deed (calls.Set x) a at = touched (calls.Set x) a at x.id refl
    of_deed (calls.Remove id) a at = touched (calls.Remove id) a at id refl

    pub all_quiet_behind : RefusalsLeave → (call : Call) (a : Answer) → outcome by call s ≡ Some (a, t) →
        AreQuiet t (due_behind due (deed_of call) (Ok a)) ws
    all_quiet_behind leaves call (answers.Refused e) at =
        subst (λ (u : State). AreQuiet u due ws) (sym (leaves by call s t e at)) quiet
    all_quiet_behind leaves call (answers.Id id) at = of_deed call (answers.Id id) at
    all_quiet_behind leaves call (answers.Sent serial) at = of_deed call (answers.Sent serial) at
    all_quiet_behind leaves call (answers.Received m) at = of_deed call (answers.Received m) at
    all_quiet_behind leaves call (answers.Info i) at = of_deed call (answers.Info i) at
    all_quiet_behind leaves call answers.Done at = of_deed call answers.Done at
