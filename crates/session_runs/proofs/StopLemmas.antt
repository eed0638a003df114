-- In a stopped system each call is answered.
use Rattle.std.proofs.Common.{◌≡◌, ℕ, Bool, true, false, Option, Some, None, is_some, not, if◌then◌else◌, refl, rules, ◌||◌, ◌==◌, nat_le, nat_lt, int_lt, pos, length}
use Rattle.std.specs.List.{find}
use Rattle.session_runs.proofs.ModelWords.{lacks_access, is_owner, with_settings, Outcome, outcome, refuse, put_off, on_found, on_queue, has_id, has_key, get_found, get_by, create, lacks_room, send_to, receive_found, receive_from, stat_of, set_to, remove_from, raises, with_queue, selected, State, Call, Get, Send, Receive, Stat, Set, Remove, GetArguments, SendArguments, ReceiveArguments, SetArguments, Caller, Errno, EACCES, EAGAIN, EINVAL, ENOENT, ENOMSG, EPERM, Read, Write, Message, Queue}
use Rattle.queue_model.specs.declared.answer.Answer.TheVariants as answer
use Rattle.numbers.specs.declared.limits.TheConstants.{MAX_BODY, MAX_QBYTES}

-- there is an outcome
abbrev IsAnswered : Outcome → Type 0
IsAnswered o = is_some o ≡ true

either : (b : Bool) (x y : Outcome) → IsAnswered x → IsAnswered y → IsAnswered (if b then x else y)
either true x y is_x is_y = is_x
either false x y is_x is_y = is_y

found : (q : Option Queue) (s : State) (act : Queue → Outcome) → ((q : Queue) → IsAnswered (act q))
    → IsAnswered (on_found q s act)
found None s act acts = refl
found (Some q) s act acts = acts q

on : (id : ℕ) (s : State) (act : Queue → Outcome) → ((q : Queue) → IsAnswered (act q)) → IsAnswered (on_queue id s act)
on id s act acts =
    either (id == 0 || nat_le s.next_id id) (refuse EINVAL s) (on_found (find (has_id id) s.queues) s act)
    refl (found (find (has_id id) s.queues) s act acts)

-- a stopped system puts no call off
put : (nowait : Bool) (e : Errno) (s : State) → s.stopped ≡ true → IsAnswered (put_off nowait e s)
put true e s stopped = refl
put false e s stopped = rw stopped refl

created : (c : Caller) (a : GetArguments) (s : State) → IsAnswered (create c a s)
created c a s = search (rules, either)

got : (q : Option Queue) (c : Caller) (a : GetArguments) (s : State) → IsAnswered (get_found q c a s)
got (Some q) c a s = search (rules, either)
got None c a s = either a.create (create c a s) (refuse ENOENT s) (created c a s) refl

got_by : (key : Option ℕ) (c : Caller) (a : GetArguments) (s : State) → IsAnswered (get_by key c a s)
got_by None c a s = created c a s
got_by (Some key) c a s = got (find (has_key key) s.queues) c a s

sent : (c : Caller) (a : SendArguments) (s : State) (q : Queue) → s.stopped ≡ true → IsAnswered (send_to c a s q)
sent c a s q stopped = either (lacks_access Write c q.permissions) (refuse EACCES s) _ refl
    (either (lacks_room (length a.body) q) (put_off a.nowait EAGAIN s) _ (put a.nowait EAGAIN s stopped) refl)

found_message : (m : Option Message) (c : Caller) (a : ReceiveArguments) (s : State) (q : Queue) → s.stopped ≡ true
    → IsAnswered (receive_found m c a s q)
found_message None c a s q stopped = put a.nowait ENOMSG s stopped
found_message (Some m) c a s q stopped = search (rules, either)

received : (c : Caller) (a : ReceiveArguments) (s : State) (q : Queue) → s.stopped ≡ true →
    IsAnswered (receive_from c a s q)
received c a s q stopped = either (lacks_access Read c q.permissions) (refuse EACCES s) _ refl
    (found_message (selected a.mtype q.messages) c a s q stopped)

told : (c : Caller) (s : State) (q : Queue) → IsAnswered (stat_of c s q)
told c s q = search (rules, either)

set : (c : Caller) (a : SetArguments) (s : State) (q : Queue) → IsAnswered (set_to c a s q)
set c a s q = either (not (is_owner c q.permissions)) (refuse EPERM s) _ refl
    (either (raises c a.qbytes q) (refuse EPERM s) (Some (answer.Done, with_queue a.id (with_settings a q) s)) refl
    refl)

removed : (c : Caller) (id : ℕ) (s : State) (q : Queue) → IsAnswered (remove_from c id s q)
removed c id s q = search (rules, either)

-- each call is answered in a stopped system
answered : (c : Caller) (call : Call) (s : State) → s.stopped ≡ true → IsAnswered (outcome c call s)
answered c (Get a) s stopped = got_by a.key c a s
answered c (Send a) s stopped =
    either (int_lt a.mtype (pos 1) || nat_lt MAX_BODY (length a.body)) (refuse EINVAL s)
    (on_queue a.id s (send_to c a s)) refl
    (on a.id s (send_to c a s) (λ q. sent c a s q stopped))
answered c (Receive a) s stopped = on a.id s (receive_from c a s) (λ q. received c a s q stopped)
answered c (Stat id) s stopped = on id s (stat_of c s) (λ q. told c s q)
answered c (Set a) s stopped =
    either (nat_lt MAX_QBYTES a.qbytes) (refuse EINVAL s) (on_queue a.id s (set_to c a s)) refl
    (on a.id s (set_to c a s) (λ q. set c a s q))
answered c (Remove id) s stopped = on id s (remove_from c id s) (λ q. removed c id s q)

pub never_waits : (c : Caller) (call : Call) (s : State) → s.stopped ≡ true → outcome c call s ≡ None → ⊥
never_waits c call s stopped waits =
    let is : is_some (outcome c call s) ≡ true = answered c call s stopped in
    let none : is_some (outcome c call s) ≡ false = rw waits refl in
    absurd cc
