-- A call that does not wait is answered, and by an answer of its kind or a refusal.
use Rattle.std.proofs.Common.{◌≡◌, ℕ, Bool, true, false, Option, Some, None, not, if◌then◌else◌, refl, subst, ◌&&◌, ◌||◌, ◌==◌, nat_le, nat_lt, int_lt, pos, length}
use Rattle.std.specs.List.{find}
use Rattle.numbers.specs.declared.limits.TheConstants.{END_OF_IDS, MAX_BODY, MAX_QBYTES, MAX_QUEUES}
use Rattle.queue_model.specs.declared.answer.Answer.TheVariants as answers
use Rattle.queue_commands.proofs.ModelWords.{lacks_access, is_owner, with_settings, Outcome, outcome, refuse, on_found, on_queue, has_id, has_key, get_found, get_by, create, lacks_room, send_to, receive_found, receive_from, set_to, raises, with_queue, selected, is_too_long, State, Answer, Send, Receive, Set, GetArguments, SendArguments, ReceiveArguments, SetArguments, Caller, EACCES, EEXIST, EIDRM, EINVAL, ENOENT, ENOSPC, EPERM, E2BIG, Read, Write, Message, Queue, Get, Stat, Remove, stat_of, info_of, remove_from, without_queue}

-- ---- kinds of answers

abbrev pub is_id : Answer → Bool
is_id (answers.Id id) = true
is_id (answers.Refused e) = true
is_id other = false

abbrev pub is_serial : Answer → Bool
is_serial (answers.Sent serial) = true
is_serial (answers.Refused e) = true
is_serial other = false

abbrev pub is_message : Answer → Bool
is_message (answers.Received message) = true
is_message (answers.Refused e) = true
is_message other = false

abbrev pub is_info : Answer → Bool
is_info (answers.Info info) = true
is_info (answers.Refused e) = true
is_info other = false

abbrev pub is_done : Answer → Bool
is_done answers.Done = true
is_done (answers.Refused e) = true
is_done other = false

-- there is an outcome, and its answer is of a kind
abbrev pub Gives : (Answer → Bool) → Outcome → Type 0
Gives kind None = ⊥
Gives kind (Some came) = kind came.0 ≡ true

-- ---- the calls

module _ (kind : Answer → Bool) where
  either : (b : Bool) (x y : Outcome) → Gives kind x → Gives kind y → Gives kind (if b then x else y)
  either true x y is_x is_y = is_x
  either false x y is_x is_y = is_y

  found : (q : Option Queue) (s : State) (act : Queue → Outcome) → kind (answers.Refused EIDRM) ≡ true →
      ((q : Queue) → Gives kind (act q)) → Gives kind (on_found q s act)
  found None s act refused acts = refused
  found (Some q) s act refused acts = acts q

  on : (id : ℕ) (s : State) (act : Queue → Outcome) → kind (answers.Refused EIDRM) ≡ true →
      kind (answers.Refused EINVAL) ≡ true → ((q : Queue) → Gives kind (act q)) → Gives kind (on_queue id s act)
  on id s act removed invalid acts =
      either (id == 0 || nat_le s.next_id id) (refuse EINVAL s) (on_found (find (has_id id) s.queues) s act)
      invalid (found (find (has_id id) s.queues) s act removed acts)

created : (c : Caller) (a : GetArguments) (s : State) → Gives is_id (create c a s)
created c a s = either is_id (length s.queues == MAX_QUEUES || s.next_id == END_OF_IDS) (refuse ENOSPC s) _ refl refl

got : (q : Option Queue) (c : Caller) (a : GetArguments) (s : State) → Gives is_id (get_found q c a s)
got (Some q) c a s = either is_id (a.create && a.excl) (refuse EEXIST s) (Some (answers.Id q.id, s)) refl refl
got None c a s = either is_id a.create (create c a s) (refuse ENOENT s) (created c a s) refl

got_by : (key : Option ℕ) (c : Caller) (a : GetArguments) (s : State) → Gives is_id (get_by key c a s)
got_by None c a s = created c a s
got_by (Some key) c a s = got (find (has_key key) s.queues) c a s

pub a_get_gives : (c : Caller) (a : GetArguments) (s : State) → Gives is_id (outcome c (Get a) s)
a_get_gives c a s = got_by a.key c a s

sent : (c : Caller) (a : SendArguments) (s : State) (q : Queue) → a.nowait ≡ true → Gives is_serial (send_to c a s q)
sent c a s q nowait = either is_serial (lacks_access Write c q.permissions) (refuse EACCES s) _ refl
    (either is_serial (lacks_room (length a.body) q) _ _ (rw nowait refl) refl)

pub a_send_gives : (c : Caller) (a : SendArguments) (s : State) → a.nowait ≡ true →
    Gives is_serial (outcome c (Send a) s)
a_send_gives c a s nowait =
    either is_serial (int_lt a.mtype (pos 1) || nat_lt MAX_BODY (length a.body)) (refuse EINVAL s)
    (on_queue a.id s (send_to c a s)) refl
    (on is_serial a.id s (send_to c a s) refl refl (λ q. sent c a s q nowait))

found_message : (m : Option Message) (c : Caller) (a : ReceiveArguments) (s : State) (q : Queue) → a.nowait ≡ true →
    Gives is_message (receive_found m c a s q)
found_message None c a s q nowait = rw nowait refl
found_message (Some m) c a s q nowait = either is_message (is_too_long a m) (refuse E2BIG s) _ refl refl

received : (c : Caller) (a : ReceiveArguments) (s : State) (q : Queue) → a.nowait ≡ true →
    Gives is_message (receive_from c a s q)
received c a s q nowait = either is_message (lacks_access Read c q.permissions) (refuse EACCES s) _ refl
    (found_message (selected a.mtype q.messages) c a s q nowait)

pub a_receive_gives : (c : Caller) (a : ReceiveArguments) (s : State) → a.nowait ≡ true →
    Gives is_message (outcome c (Receive a) s)
a_receive_gives c a s nowait =
    on is_message a.id s (receive_from c a s) refl refl (λ q. received c a s q nowait)

pub a_set_gives : (c : Caller) (a : SetArguments) (s : State) → Gives is_done (outcome c (Set a) s)
a_set_gives c a s =
    either is_done (nat_lt MAX_QBYTES a.qbytes) (refuse EINVAL s) (on_queue a.id s (set_to c a s)) refl
    (on is_done a.id s (set_to c a s) refl refl
    (λ q. either is_done (not (is_owner c q.permissions)) (refuse EPERM s) _ refl
    (either is_done (raises c a.qbytes q) (refuse EPERM s) (Some (answers.Done, with_queue a.id (with_settings a q) s))
    refl refl)))

pub a_stat_gives : (c : Caller) (id : ℕ) (s : State) → Gives is_info (outcome c (Stat id) s)
a_stat_gives c id s = on is_info id s (stat_of c s) refl refl
    (λ q. either is_info (lacks_access Read c q.permissions) (refuse EACCES s) (Some (answers.Info (info_of q), s))
    refl refl)

pub a_remove_gives : (c : Caller) (id : ℕ) (s : State) → Gives is_done (outcome c (Remove id) s)
a_remove_gives c id s = on is_done id s (remove_from c id s) refl refl
    (λ q. either is_done (not (is_owner c q.permissions)) (refuse EPERM s)
    (Some (answers.Done, without_queue id s)) refl refl)

-- an outcome that is there does not wait
pub never_waits : (kind : Answer → Bool) (o : Outcome) → Gives kind o → o ≡ None → ⊥
never_waits kind None gives waits = gives
never_waits kind (Some came) gives waits = absurd cc

pub is_of_kind : (kind : Answer → Bool) (o : Outcome) (answer : Answer) (t : State) → Gives kind o →
    o ≡ Some (answer, t) → kind answer ≡ true
is_of_kind kind o answer t gives is = subst (Gives kind) is gives
