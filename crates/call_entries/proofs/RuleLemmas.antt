-- A call that was answered is answered so again, of a system that is not stopped; and one that is not written down
-- leaves the system.
use Rattle.std.proofs.Common.{◌≡◌, ℕ, refl, sym, ap, ◌∙◌, subst, Bool, true, false, List, [], ◌∷◌, ◌++◌, Option, Some, None}
use Rattle.std.specs.Prelude.{◌+◌, if◌then◌else◌, ◌==◌, ◌&&◌, ◌||◌, not, nat_le, nat_lt, int_lt, pos, is_some, length}
use Rattle.std.specs.List.{find}
use Rattle.numbers.specs.declared.limits.TheConstants.{MAX_QUEUES, MAX_BODY, MAX_QBYTES, END_OF_IDS}
use Rattle.queue_model.specs.Access.{is_owner, lacks_access}
use Rattle.queue_model.specs.Laws.{RefusalsLeave}
use Rattle.queue_model.specs.Rules.{Outcome, cut_at, create, get_by, get_found, has_id, has_key, info_of, lacks_room, new_queue, on_found, on_queue, outcome, put_off, raises, receive_found, receive_from, refuse, remove_from, send_to, set_to, stat_of, with_message, with_queue, with_settings, without_message, without_queue}
use Rattle.queue_model.specs.Selection.{is_too_long, selected}
use Rattle.queue_model.specs.State.{State}
use Rattle.queue_model.specs.declared.answer.Answer.{Answer}
use Rattle.queue_model.specs.declared.answer.Answer.TheVariants.{Id, Sent, Received, Info, Done, Refused}
use Rattle.queue_model.specs.declared.call.Call.{Call}
use Rattle.queue_model.specs.declared.call.Call.TheVariants.{Get, Send, Receive, Stat, Set, Remove}
use Rattle.queue_model.specs.declared.call.GetArguments.{GetArguments}
use Rattle.queue_model.specs.declared.call.ReceiveArguments.{ReceiveArguments}
use Rattle.queue_model.specs.declared.caller.Caller.{Caller}
use Rattle.queue_model.specs.declared.errno.Errno.{Errno}
use Rattle.queue_model.specs.declared.errno.Errno.TheVariants.{E2BIG, EAGAIN, EEXIST, EIDRM, EINTR, EINVAL, ENOENT, ENOMSG, ENOSPC, EACCES, EPERM}
use Rattle.queue_model.specs.declared.message.Message.{Message}
use Rattle.queue_model.specs.declared.queue.Queue.{Queue}
use Rattle.queue_model.specs.declared.permissions.Access.TheVariants.{Read, Write}
use Rattle.call_entries.specs.Entries.{LeadsBy, is_refusal, may_change}
use Rattle.call_entries.specs.declared.entry.CallEntry.{CallEntry}

abbrev pub running : State → State
running s = record s { stopped = false }

abbrev answer_in : Answer → Outcome → Answer
answer_in a None = a
answer_in a (Some p) = p.0

abbrev pub system_in : State → Outcome → State
system_in s None = s
system_in s (Some p) = p.1

-- ---- it is answered so again

abbrev again_of : Outcome → Outcome
again_of None = None
again_of (Some p) = Some (p.0, running p.1)

-- what is no refusal comes again
abbrev ComesAgain : Outcome → Outcome → Type 0
ComesAgain out again =
    (a : Answer) (t : State) → out ≡ Some (a, t) → is_refusal a ≡ false → again ≡ Some (a, running t)

refused : (e : Errno) (s : State) (again : Outcome) → ComesAgain (refuse e s) again
refused e s again a t is fine =
    let same : Refused e ≡ a = ap (answer_in a) is in
    let told : true ≡ is_refusal a = ap is_refusal same in
    absurd cc

answered : (a : Answer) (s : State) → ComesAgain (Some (a, s)) (Some (a, running s))
answered a s b t is fine = ap again_of is

where_test : (test : Bool) (x y again more : Outcome) → ComesAgain x again → ComesAgain y more →
    ComesAgain (if test then x else y) (if test then again else more)
where_test true x y again more first second = first
where_test false x y again more first second = second

put_off_not : (nowait : Bool) (e : Errno) (s : State) (stopped : Bool) (again : Outcome) →
    ComesAgain (if nowait then refuse e s else if stopped then refuse EINTR s else None) again
put_off_not true e s stopped again = refused e s again
put_off_not false e s true again = refused EINTR s again
put_off_not false e s false again = λ a t is fine. absurd cc

where_found : (found : Option Queue) (s : State) (act more : Queue → Outcome) →
    ((q : Queue) → ComesAgain (act q) (more q)) → ComesAgain (on_found found s act) (on_found found (running s) more)
where_found None s act more each = refused EIDRM s (refuse EIDRM (running s))
where_found (Some q) s act more each = each q

where_queue : (id : ℕ) (s : State) (act more : Queue → Outcome) → ((q : Queue) → ComesAgain (act q) (more q)) →
    ComesAgain (on_queue id s act) (on_queue id (running s) more)
where_queue id s act more each =
    where_test (id == 0 || nat_le s.next_id id) (refuse EINVAL s) (on_found (find (has_id id) s.queues) s act)
    (refuse EINVAL (running s)) (on_found (find (has_id id) s.queues) (running s) more)
    (refused EINVAL s (refuse EINVAL (running s)))
    (where_found (find (has_id id) s.queues) s act more each)

module _ (c : Caller) (s : State) where
  made : (a : GetArguments) → ComesAgain (create c a s) (create c a (running s))
  made a =
      let after : State = record s { queues = s.queues ++ new_queue s.next_id c a ∷ []; next_id = s.next_id + 1 } in
      where_test (length s.queues == MAX_QUEUES || s.next_id == END_OF_IDS) (refuse ENOSPC s)
      (Some (Id s.next_id, after)) (refuse ENOSPC (running s)) (Some (Id s.next_id, running after))
      (refused ENOSPC s (refuse ENOSPC (running s))) (answered (Id s.next_id) after)

  got : (a : GetArguments) (found : Option Queue) →
      ComesAgain (get_found found c a s) (get_found found c a (running s))
  got a (Some q) =
      where_test (a.create && a.excl) (refuse EEXIST s) (Some (Id q.id, s)) (refuse EEXIST (running s))
      (Some (Id q.id, running s)) (refused EEXIST s (refuse EEXIST (running s))) (answered (Id q.id) s)
  got a None =
      where_test a.create (create c a s) (refuse ENOENT s) (create c a (running s)) (refuse ENOENT (running s)) (made a)
      (refused ENOENT s (refuse ENOENT (running s)))

  got_by : (a : GetArguments) (key : Option ℕ) → ComesAgain (get_by key c a s) (get_by key c a (running s))
  got_by a None = made a
  got_by a (Some key) = got a (find (has_key key) s.queues)

  taken : (a : ReceiveArguments) (q : Queue) (found : Option Message) →
      ComesAgain (receive_found found c a s q) (receive_found found c a (running s) q)
  taken a q None = put_off_not a.nowait ENOMSG s s.stopped (put_off a.nowait ENOMSG (running s))
  taken a q (Some m) =
      let after = with_queue a.id (without_message c.pid a q) s in
      where_test (is_too_long a m) (refuse E2BIG s) (Some (Received (cut_at a.size m), after))
      (refuse E2BIG (running s)) (Some (Received (cut_at a.size m), running after))
      (refused E2BIG s (refuse E2BIG (running s))) (answered (Received (cut_at a.size m)) after)

  pub comes_again : (call : Call) → ComesAgain (outcome c call s) (outcome c call (running s))
  comes_again (Get a) = got_by a a.key
  comes_again (Send a) =
      where_test (int_lt a.mtype (pos 1) || nat_lt MAX_BODY (length a.body)) (refuse EINVAL s)
      (on_queue a.id s (send_to c a s)) (refuse EINVAL (running s))
      (on_queue a.id (running s) (send_to c a (running s)))
      (refused EINVAL s (refuse EINVAL (running s)))
      (where_queue a.id s (send_to c a s) (send_to c a (running s)) (λ q.
      let after = with_queue a.id (with_message c.pid a q) s in
      let sent : Outcome = Some (Sent q.next_serial, after) in
      let again : Outcome = Some (Sent q.next_serial, running after) in
      where_test (lacks_access Write c q.permissions) (refuse EACCES s)
      (if lacks_room (length a.body) q then put_off a.nowait EAGAIN s else sent) (refuse EACCES (running s))
      (if lacks_room (length a.body) q then put_off a.nowait EAGAIN (running s) else again)
      (refused EACCES s (refuse EACCES (running s)))
      (where_test (lacks_room (length a.body) q) (put_off a.nowait EAGAIN s) sent (put_off a.nowait EAGAIN (running s))
      again (put_off_not a.nowait EAGAIN s s.stopped (put_off a.nowait EAGAIN (running s)))
      (answered (Sent q.next_serial) after))))
  comes_again (Receive a) = where_queue a.id s (receive_from c a s) (receive_from c a (running s)) (λ q.
      where_test (lacks_access Read c q.permissions) (refuse EACCES s)
      (receive_found (selected a.mtype q.messages) c a s q) (refuse EACCES (running s))
      (receive_found (selected a.mtype q.messages) c a (running s) q) (refused EACCES s (refuse EACCES (running s)))
      (taken a q (selected a.mtype q.messages)))
  comes_again (Stat id) = where_queue id s (stat_of c s) (stat_of c (running s)) (λ q.
      where_test (lacks_access Read c q.permissions) (refuse EACCES s) (Some (Info (info_of q), s))
      (refuse EACCES (running s)) (Some (Info (info_of q), running s)) (refused EACCES s (refuse EACCES (running s)))
      (answered (Info (info_of q)) s))
  comes_again (Set a) =
      where_test (nat_lt MAX_QBYTES a.qbytes) (refuse EINVAL s) (on_queue a.id s (set_to c a s))
      (refuse EINVAL (running s)) (on_queue a.id (running s) (set_to c a (running s)))
      (refused EINVAL s (refuse EINVAL (running s)))
      (where_queue a.id s (set_to c a s) (set_to c a (running s)) (λ q.
      let after = with_queue a.id (with_settings a q) s in
      let set : Outcome = Some (Done, after) in
      let again : Outcome = Some (Done, running after) in
      where_test (not (is_owner c q.permissions)) (refuse EPERM s)
      (if raises c a.qbytes q then refuse EPERM s else set) (refuse EPERM (running s))
      (if raises c a.qbytes q then refuse EPERM (running s) else again)
      (refused EPERM s (refuse EPERM (running s)))
      (where_test (raises c a.qbytes q) (refuse EPERM s) set (refuse EPERM (running s)) again
      (refused EPERM s (refuse EPERM (running s))) (answered Done after))))
  comes_again (Remove id) = where_queue id s (remove_from c id s) (remove_from c id (running s)) (λ q.
      where_test (not (is_owner c q.permissions)) (refuse EPERM s) (Some (Done, without_queue id s))
      (refuse EPERM (running s)) (Some (Done, without_queue id (running s)))
      (refused EPERM s (refuse EPERM (running s))) (answered Done (without_queue id s)))

-- ---- it leaves the system

-- both ways lead to what was
abbrev either : Bool → (a b : Answer) → State → Outcome
either test a b s = if test then Some (a, s) else Some (b, s)

either_same : (test : Bool) (a b told : Answer) (s t : State) → either test a b s ≡ Some (told, t) → t ≡ s
either_same true a b told s t is = sym (ap (system_in s) is)
either_same false a b told s t is = sym (ap (system_in s) is)

neither : (b : Bool) → (b || false) ≡ false → b ≡ false
neither true is = absurd cc
neither false is = refl

never : (b : Bool) → (b || true) ≡ false → ⊥
never true is = absurd cc
never false is = absurd cc

module _ (c : Caller) (a : GetArguments) (s : State) where
  found_same : (found : Option Queue) (told : Answer) (t : State) → a.create ≡ false →
      get_found found c a s ≡ Some (told, t) → t ≡ s
  found_same (Some q) told t off is = either_same (a.create && a.excl) (Refused EEXIST) (Id q.id) told s t is
  found_same None told t off is =
      let none : refuse ENOENT s ≡ Some (told, t) =
      ap (λ (b : Bool). if b then create c a s else refuse ENOENT s) (sym off) ∙ is in
      sym (ap (system_in s) none)

  got_same : (key : Option ℕ) (told : Answer) (t : State) → (a.create || not (is_some key)) ≡ false →
      get_by key c a s ≡ Some (told, t) → t ≡ s
  got_same None told t off is = absurd (never a.create off)
  got_same (Some key) told t off is = found_same (find (has_key key) s.queues) told t (neither a.create off) is

stat_by : (c : Caller) (id : ℕ) (s : State) (told : Answer) (t : State) (test : Bool) (found : Option Queue) →
    (if test then refuse EINVAL s else on_found found s (stat_of c s)) ≡ Some (told, t) → t ≡ s
stat_by c id s told t true found is = sym (ap (system_in s) is)
stat_by c id s told t false None is = sym (ap (system_in s) is)
stat_by c id s told t false (Some q) is =
    either_same (lacks_access Read c q.permissions) (Refused EACCES) (Info (info_of q)) told s t is

stat_same : (c : Caller) (id : ℕ) (s : State) (told : Answer) (t : State) → outcome c (Stat id) s ≡ Some (told, t) →
    t ≡ s
stat_same c id s told t is =
    stat_by c id s told t (id == 0 || nat_le s.next_id id) (find (has_id id) s.queues) is

refusal_is : (a : Answer) → is_refusal a ≡ true → (e : Errno) × (a ≡ Refused e)
refusal_is (Id id) is = absurd cc
refusal_is (Sent serial) is = absurd cc
refusal_is (Received m) is = absurd cc
refusal_is (Info q) is = absurd cc
refusal_is Done is = absurd cc
refusal_is (Refused e) is = (e, refl)

module _ (leaves : RefusalsLeave) (c : Caller) (s : State) (told : Answer) (t : State) where
  refused_same : (call : Call) → outcome c call s ≡ Some (told, t) → is_refusal told ≡ true → t ≡ s
  refused_same call is was =
      let e = refusal_is told was in
      leaves c call s t e.0 (is ∙ ap (λ (x : Answer). Some (x, t)) e.1)

  idle_same : (call : Call) → outcome c call s ≡ Some (told, t) → may_change call ≡ false → t ≡ s
  idle_same (Get a) is off = got_same c a s a.key told t off is
  idle_same (Send a) is off = absurd cc
  idle_same (Receive a) is off = absurd cc
  idle_same (Stat id) is off = stat_same c id s told t is
  idle_same (Set a) is off = absurd cc
  idle_same (Remove id) is off = absurd cc

  by_both : (may was : Bool) → (may ≡ false → t ≡ s) → (was ≡ true → t ≡ s) → (may && not was) ≡ false → t ≡ s
  by_both false was idle left off = idle refl
  by_both true true idle left off = left refl
  by_both true false idle left off = absurd cc

  pub leaves_it : (call : Call) → outcome c call s ≡ Some (told, t) →
      (may_change call && not (is_refusal told)) ≡ false → t ≡ s
  leaves_it call is off = by_both (may_change call) (is_refusal told) (idle_same call is) (refused_same call is) off

-- ---- entries one behind the other

pub lead_on : (es fs : List CallEntry) (s t u : State) → LeadsBy es s t → LeadsBy fs t u → LeadsBy (es ++ fs) s u
lead_on [] fs s t u same rest = subst (λ (v : State). LeadsBy fs v u) same rest
lead_on (e ∷ es) fs s t u (v, made, first) rest = (v, made, lead_on es fs v t u first rest)
