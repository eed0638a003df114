-- A plan that inserts something is of a Get or a Send whose answer tells of something new.
use Rattle.std.proofs.Common.{ℕ, ◌≡◌, ◌⊎◌, inl, inr, refl, sym, ap, subst, Bool, true, false, List, [], Option, Some, None, pos}
use Rattle.std.specs.Prelude.{if◌then◌else◌, nat_le, nat_lt, int_lt, ◌==◌, ◌||◌, ◌&&◌, length, Result, Ok, Err}
use Rattle.std.specs.List.{find}
use Rattle.page_device.specs.numbers.declared.limits.TheConstants.{MAX_BODY, MAX_QBYTES}
use Rattle.call_decisions.specs.Anything.{if_of, of_receive, of_remove, of_set, of_stat, plan_of}
use Rattle.call_decisions.specs.declared.any_inquiry.AnyInquiry.{AnyInquiry}
use Rattle.queue_model.specs.Access.{lacks_access}
use Rattle.queue_model.specs.Rules.{AddsTo, Outcome, create, get_by, get_found, has_id, has_key, lacks_room, on_found, outcome, put_off, refuse, send_to, with_message, with_queue}
use Rattle.queue_model.specs.State.{State}
use Rattle.queue_model.specs.declared.answer.Answer.{Answer}
use Rattle.queue_model.specs.declared.answer.Answer.TheVariants.{Id, Sent, Refused}
use Rattle.queue_model.specs.declared.call.Call.{Call}
use Rattle.queue_model.specs.declared.call.Call.TheVariants.{Get, Send, Receive, Stat, Set, Remove}
use Rattle.queue_model.specs.declared.call.GetArguments.{GetArguments}
use Rattle.queue_model.specs.declared.call.SendArguments.{SendArguments}
use Rattle.queue_model.specs.declared.call.SetArguments.{SetArguments}
use Rattle.queue_model.specs.declared.caller.Caller.{Caller}
use Rattle.queue_model.specs.declared.errno.Errno.{Errno}
use Rattle.queue_model.specs.declared.errno.Errno.TheVariants.{EACCES, EAGAIN, EEXIST, EIDRM, EINTR, EINVAL, ENOENT, ENOSPC}
use Rattle.queue_model.specs.declared.permissions.Access.TheVariants.{Write}
use Rattle.queue_model.specs.declared.queue.Queue.{Queue}
use Rattle.queue_records.specs.declared.queue_entry.QueueEntry.{QueueEntry}
use Rattle.xsi_control.specs.Asking as removes
use Rattle.xsi_control.specs.Setting as sets
use Rattle.xsi_control.specs.declared.stage.Stage as remove_stage
use Rattle.xsi_control.specs.declared.stage.Stage.TheVariants as remove_stages
use Rattle.xsi_inquiry.specs.Deciding.{IsIdle, answer_of}
use Rattle.xsi_inquiry.specs.Writing.{Plan, nothing}
use Rattle.xsi_inquiry.specs.declared.sought.Sought.{Sought}
use Rattle.xsi_inquiry.specs.declared.sought.Sought.TheVariants as soughts
use Rattle.xsi_inquiry.specs.declared.verdict.Verdict.{Verdict}
use Rattle.xsi_inquiry.specs.declared.verdict.Verdict.TheVariants as verdicts
use Rattle.xsi_receive.specs.Asking as receives
use Rattle.xsi_receive.specs.declared.stage.Stage as receive_stage
use Rattle.xsi_receive.specs.declared.stage.Stage.TheVariants as receive_stages

-- ---- what a Get and a Send may be answered

-- the two parts of what an outcome gives
parts : (x y : Answer) (s t : State) → ◌≡◌ {A = Outcome} (Some (x, s)) (Some (y, t)) → (y ≡ x) × (t ≡ s)
parts x y s t is = (ap answer_in (sym is), ap state_in (sym is))
  where
    answer_in : Outcome → Answer
    answer_in None = x
    answer_in (Some o) = o.0

    state_in : Outcome → State
    state_in None = s
    state_in (Some o) = o.1

-- a test was true or false
by_test : {B : Type 0} (b : Bool) (x y o : Outcome) → (if b then x else y) ≡ o → (x ≡ o → B) → (y ≡ o → B) → B
by_test true x y o is first second = first is
by_test false x y o is first second = second is

-- the id of a queue that there is, or the next one
abbrev IsOfGet : Answer → (s t : State) → Type 0
IsOfGet (Id id) s t = (t ≡ s) ⊎ (id ≡ s.next_id)
IsOfGet (Refused e) s t = Unit {0}
IsOfGet answer s t = ⊥

abbrev IsOfSend : Answer → Type 0
IsOfSend (Sent serial) = Unit {0}
IsOfSend (Refused e) = Unit {0}
IsOfSend answer = ⊥

module _ (c : Caller) (a : GetArguments) (s t : State) (x : Answer) where
  is_get : (y : Answer) (u : State) → ◌≡◌ {A = Outcome} (Some (y, u)) (Some (x, t)) → (t ≡ u → IsOfGet y s t) →
      IsOfGet x s t
  is_get y u is so =
      let both = parts y x u t is in
      subst (λ (z : Answer). IsOfGet z s t) (sym both.0) (so both.1)

  created : create c a s ≡ Some (x, t) → IsOfGet x s t
  created is = by_test _ _ _ _ is (λ refused. is_get (Refused ENOSPC) s refused (λ same. tt))
      (λ made. is_get (Id s.next_id) _ made (λ same. inr refl))

  get_answers : (key : Option ℕ) → get_by key c a s ≡ Some (x, t) → IsOfGet x s t
  get_answers None is = created is
  get_answers (Some key) is = by (find (has_key key) s.queues) is
    where
      by : (o : Option Queue) → get_found o c a s ≡ Some (x, t) → IsOfGet x s t
      by (Some q) is = by_test (a.create && a.excl) (refuse EEXIST s) (Some (Id q.id, s)) (Some (x, t)) is
          (λ refused. is_get (Refused EEXIST) s refused (λ same. tt))
          (λ found. is_get (Id q.id) s found (λ same. inl same))
      by None is = by_test a.create (create c a s) (refuse ENOENT s) (Some (x, t)) is created
          (λ refused. is_get (Refused ENOENT) s refused (λ same. tt))

module _ (c : Caller) (a : SendArguments) (s t : State) (x : Answer) where
  abbrev is_wrong : Bool
  is_wrong = int_lt a.mtype (pos 1) || nat_lt MAX_BODY (length a.body)

  is_send : (y : Answer) (u : State) → ◌≡◌ {A = Outcome} (Some (y, u)) (Some (x, t)) → IsOfSend y → IsOfSend x
  is_send y u is so = subst IsOfSend (sym (parts y x u t is).0) so

  put : put_off a.nowait EAGAIN s ≡ Some (x, t) → IsOfSend x
  put is = by_test a.nowait (refuse EAGAIN s) (if s.stopped then refuse EINTR s else None) (Some (x, t)) is
      (λ refused. is_send (Refused EAGAIN) s refused tt)
      (λ waits. by_test s.stopped (refuse EINTR s) None (Some (x, t)) waits
      (λ refused. is_send (Refused EINTR) s refused tt) (λ none. absurd (never none)))
    where
      never : ◌≡◌ {A = Outcome} None (Some (x, t)) → ⊥
      never clash = cc

  abbrev sent_on : Queue → Outcome
  sent_on q = Some (Sent q.next_serial, with_queue a.id (with_message c.pid a q) s)

  on : (o : Option Queue) → on_found o s (send_to c a s) ≡ Some (x, t) → IsOfSend x
  on None is = is_send (Refused EIDRM) s is tt
  on (Some q) is = by_test (lacks_access Write c q.permissions) (refuse EACCES s)
      (if lacks_room (length a.body) q then put_off a.nowait EAGAIN s else sent_on q) (Some (x, t)) is
      (λ refused. is_send (Refused EACCES) s refused tt)
      (λ may. by_test (lacks_room (length a.body) q) (put_off a.nowait EAGAIN s) (sent_on q) (Some (x, t)) may put
      (λ sent. is_send (Sent q.next_serial) (with_queue a.id (with_message c.pid a q) s) sent tt))

  send_answers : outcome c (Send a) s ≡ Some (x, t) → IsOfSend x
  send_answers is = by_test is_wrong (refuse EINVAL s)
      (if a.id == 0 || nat_le s.next_id a.id then refuse EINVAL s
      else on_found (find (has_id a.id) s.queues) s (send_to c a s)) (Some (x, t)) is
      (λ refused. is_send (Refused EINVAL) s refused tt)
      (λ goes_on. by_test (a.id == 0 || nat_le s.next_id a.id) (refuse EINVAL s)
      (on_found (find (has_id a.id) s.queues) s (send_to c a s)) (Some (x, t)) goes_on
      (λ refused. is_send (Refused EINVAL) s refused tt) (on (find (has_id a.id) s.queues)))

-- ---- the verdict of a plan that is to change the file

module _ (bytes : List ℕ) (s t : State) where
  get_adds : (v : Verdict) → IsOfGet (answer_of v bytes) s t → IsIdle v s t ⊎ AddsTo s (answer_of v bytes)
  get_adds (verdicts.Id id) is = is
  get_adds (verdicts.Sent serial) is = absurd is
  get_adds (verdicts.Received m) is = absurd is
  get_adds (verdicts.Info info) is = absurd is
  get_adds verdicts.Done is = absurd is
  get_adds (verdicts.Refused e) is = inl tt

  send_adds : (v : Verdict) → IsOfSend (answer_of v bytes) → IsIdle v s t ⊎ AddsTo s (answer_of v bytes)
  send_adds (verdicts.Id id) is = absurd is
  send_adds (verdicts.Sent serial) is = inr tt
  send_adds (verdicts.Received m) is = absurd is
  send_adds (verdicts.Info info) is = absurd is
  send_adds verdicts.Done is = absurd is
  send_adds (verdicts.Refused e) is = inl tt

-- ---- plans

-- it inserts nothing
abbrev pub IsBarren : Plan → Type 0
IsBarren p = p.trials ≡ []

pub barren_of : {I : Type 0} (plan : I → Plan) → ((i : I) → IsBarren (plan i)) → (o : Option I) →
    IsBarren (if_of plan nothing o)
barren_of plan each None = refl
barren_of plan each (Some i) = each i

pub receives_none : (id : ℕ) (stage : receive_stage.Stage) → IsBarren (receives.plan_at id stage)
receives_none id (receive_stages.Seeking sought) = refl
receives_none id (receive_stages.Refused errno) = refl
receives_none id receive_stages.PutOff = refl
receives_none id (receive_stages.AtType e mtype) = refl
receives_none id (receive_stages.AtMessage e t serial) = refl
receives_none id (receive_stages.AtTypeOf e m) = refl
receives_none id (receive_stages.Taken r) = refl

pub removes_none : (id : ℕ) (stage : remove_stage.Stage) → IsBarren (removes.plan_at id stage)
removes_none id (remove_stages.Seeking sought) = refl
removes_none id (remove_stages.Refused errno) = refl
removes_none id (remove_stages.Keyed key) = refl
removes_none id (remove_stages.Counting key queue) = refl
removes_none id (remove_stages.Removing r) = refl

pub sets_none : (c : Caller) (a : SetArguments) (sought : Sought) → IsBarren (sets.set_plan c a sought)
sets_none c a sought = by (nat_lt MAX_QBYTES a.qbytes)
  where
    written : (r : Result QueueEntry Errno) → IsBarren (sets.plan_by r)
    written (Ok e) = refl
    written (Err errno) = refl

    on : (o : Sought) → IsBarren (sets.plan_on c a o)
    on (soughts.Found e) = written (sets.set_entry c a e)
    on (soughts.Refused errno) = refl
    on soughts.Unread = refl
    on soughts.Absent = refl

    by : (b : Bool) → IsBarren (if b then nothing else sets.plan_on c a sought)
    by true = refl
    by false = on sought

-- so it writes nothing, or what it inserts is told
pub adds_or_spares : (call : Call) (i : AnyInquiry) (c : Caller) (bytes : List ℕ) (s t : State) (v : Verdict) →
    outcome c call s ≡ Some (answer_of v bytes, t) →
    ((plan_of call i).trials ≡ []) ⊎ IsIdle v s t ⊎ AddsTo s (answer_of v bytes)
adds_or_spares (Get a) i c bytes s t v is =
    inr (get_adds bytes s t v (get_answers c a s t (answer_of v bytes) a.key is))
adds_or_spares (Send a) i c bytes s t v is = inr (send_adds bytes s t v (send_answers c a s t (answer_of v bytes) is))
adds_or_spares (Receive a) i c bytes s t v is = inl (barren_of _ (λ j. receives_none a.id j.stage) (of_receive i))
adds_or_spares (Stat id) i c bytes s t v is = inl (barren_of _ (λ j. refl) (of_stat i))
adds_or_spares (Set a) i c bytes s t v is = inl (barren_of _ (λ j. sets_none j.caller a j.sought) (of_set i))
adds_or_spares (Remove id) i c bytes s t v is = inl (barren_of _ (λ j. removes_none id j.stage) (of_remove i))
