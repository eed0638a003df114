-- Which calls have no outcome: they are put off on their queue, and so they are wherever it is as bad for them.
use Rattle.std.proofs.Common.{arith, ℕ, ◌≡◌, ◌<◌, refl, sym, ap, ◌∙◌, Bool, true, false, Option, Some, None, length, pos, ℤ}
use Rattle.std.specs.Prelude.{◌==◌, ◌||◌, ◌&&◌, not, nat_lt, nat_le, int_lt, if◌then◌else◌}
use Rattle.std.specs.List.{find}
use Rattle.numbers.specs.declared.limits.TheConstants.{MAX_BODY, MAX_QUEUES, MAX_QBYTES, END_OF_IDS}
use Rattle.queue_model.specs.declared.answer.Answer.{Answer}
use Rattle.queue_model.specs.declared.caller.Caller.{Caller}
use Rattle.queue_model.specs.declared.message.Message.{Message}
use Rattle.queue_model.specs.declared.queue.Queue.{Queue}
use Rattle.queue_model.specs.State.{State}
use Rattle.queue_model.specs.Access.{is_owner, lacks_access}
use Rattle.queue_model.specs.Rules.{Outcome, create, get_by, get_found, has_id, has_key, lacks_room, on_found, on_queue, outcome, put_off, raises, receive_found, receive_from, refuse, remove_from, send_to, set_to, stat_of}
use Rattle.queue_model.specs.Selection.{is_too_long, selected}
use Rattle.queue_model.specs.declared.answer.Answer.TheVariants as answers
use Rattle.queue_model.specs.declared.call.Call.TheVariants as calls
use Rattle.queue_model.specs.declared.call.GetArguments.{GetArguments}
use Rattle.queue_model.specs.declared.call.ReceiveArguments.{ReceiveArguments}
use Rattle.queue_model.specs.declared.call.SendArguments.{SendArguments}
use Rattle.queue_model.specs.declared.call.SetArguments.{SetArguments}
use Rattle.queue_model.specs.declared.errno.Errno.{Errno}
use Rattle.queue_model.specs.declared.errno.Errno.TheVariants.{EAGAIN, EEXIST, EINTR, EINVAL, ENOENT, ENOMSG, ENOSPC, EACCES, EPERM, E2BIG}
use Rattle.queue_model.specs.declared.permissions.Access.TheVariants.{Read, Write}

-- ---- which outcomes are none

some_none : (a : Answer) (s : State) → ◌≡◌ {A = Outcome} (Some (a, s)) None → ⊥
some_none a s is = cc

-- of two, where one is never none
else_none : (b : Bool) (x y : Outcome) → (x ≡ None → ⊥) → (if b then x else y) ≡ None → (b ≡ false) × (y ≡ None)
else_none true x y some none = absurd (some none)
else_none false x y some none = (refl, none)

then_none : (b : Bool) (x y : Outcome) → (y ≡ None → ⊥) → (if b then x else y) ≡ None → (b ≡ true) × (x ≡ None)
then_none true x y some none = (refl, none)
then_none false x y some none = absurd (some none)

neither_none : (b : Bool) (x y : Outcome) → (x ≡ None → ⊥) → (y ≡ None → ⊥) → (if b then x else y) ≡ None → ⊥
neither_none true x y a b none = a none
neither_none false x y a b none = b none

-- a call is put off that waits, while the system is not stopped
put_off_none : (nowait : Bool) (e : Errno) (s : State) → put_off nowait e s ≡ None →
    (nowait ≡ false) × (s.stopped ≡ false)
put_off_none nowait e s none =
    let waits = else_none nowait (refuse e s) (if s.stopped then refuse EINTR s else None)
    (some_none (answers.Refused e) s) none
    in (
      waits.0,
      (else_none s.stopped (refuse EINTR s) None (some_none (answers.Refused EINTR) s) waits.1).0,
    )

put_off_again : (nowait : Bool) (e : Errno) (t : State) → nowait ≡ false → t.stopped ≡ false → put_off nowait e t ≡ None
put_off_again nowait e t waits running = rw (waits, running) refl

-- ---- a call on a queue that has no outcome

-- its queue is there, and it is put off there
pub record IsPutOff (id : ℕ) (s : State) (act : Queue → Outcome) : Type 0 where
  pub given : (id == 0 || nat_le s.next_id id) ≡ false
  pub q : Queue
  pub found : find (has_id id) s.queues ≡ Some q
  pub none : act q ≡ None

put_off_there : (id : ℕ) (s : State) (act : Queue → Outcome) → on_queue id s act ≡ None → IsPutOff id s act
put_off_there id s act none =
    let goes = else_none (id == 0 || nat_le s.next_id id) (refuse EINVAL s) (on_found (find (has_id id) s.queues) s act)
    (some_none (answers.Refused EINVAL) s) none
    in by_found goes.0 (find (has_id id) s.queues) refl goes.1
  where
    by_found : (id == 0 || nat_le s.next_id id) ≡ false → (o : Option Queue) → find (has_id id) s.queues ≡ o →
        on_found o s act ≡ None → IsPutOff id s act
    by_found given None is none = absurd cc
    by_found given (Some q) is none = record { given = given; q = q; found = is; none = none }

there_again : (id : ℕ) (t : State) (act : Queue → Outcome) (q : Queue) →
    (id == 0 || nat_le t.next_id id) ≡ false → find (has_id id) t.queues ≡ Some q → on_queue id t act ≡ act q
there_again id t act q given found = rw given (ap (λ (o : Option Queue). on_found o t act) found)

-- the queue of an id has become another, on which the same may be done
pub record Became (id : ℕ) (s t : State) (q p : Queue) : Type 0 where
  pub was : find (has_id id) s.queues ≡ Some q
  pub is : find (has_id id) t.queues ≡ Some p
  pub given : nat_lt id s.next_id ≡ nat_lt id t.next_id
  pub permissions : p.permissions ≡ q.permissions
  pub stopped : t.stopped ≡ s.stopped

-- a call goes on there then
goes_on_then : (id : ℕ) (s t : State) (q p : Queue) → Became id s t q p → (act : Queue → Outcome) →
    (id == 0 || nat_le s.next_id id) ≡ false → on_queue id t act ≡ act p
goes_on_then id s t q p became act given =
    let was : nat_lt id s.next_id ≡ true = grind (arith, given) in
    let now : nat_lt id t.next_id ≡ true = sym became.given ∙ was in
    let some : (id == 0) ≡ false = grind (arith, given) in
    there_again id t act p (grind (arith, now, some)) became.is

pub one_queue : (p q : Queue) → ◌≡◌ {A = Option Queue} (Some p) (Some q) → p ≡ q
one_queue p q same = cc

nothing_selected : (m : Option Message) (c : Caller) (a : ReceiveArguments) (s : State) (q : Queue) →
    receive_found m c a s q ≡ None → (m ≡ None) × (a.nowait ≡ false) × (s.stopped ≡ false)
nothing_selected None c a s q none =
    let waits = put_off_none a.nowait ENOMSG s none in (refl, waits.0, waits.1)
nothing_selected (Some m) c a s q none =
    absurd (neither_none (is_too_long a m) (refuse E2BIG s) _ (some_none (answers.Refused E2BIG) s) (some_none _ _)
    none)

-- a receive that waits: it may read its queue, and none is selected there
pub record ReceiveWaits (c : Caller) (x : ReceiveArguments) (s : State) : Type 0 where
  pub given : (x.id == 0 || nat_le s.next_id x.id) ≡ false
  pub q : Queue
  pub found : find (has_id x.id) s.queues ≡ Some q
  pub may : lacks_access Read c q.permissions ≡ false
  pub none : selected x.mtype q.messages ≡ None
  pub waits : x.nowait ≡ false
  pub running : s.stopped ≡ false

pub receive_put_off : (c : Caller) (x : ReceiveArguments) (s : State) → outcome c (calls.Receive x) s ≡ None →
    ReceiveWaits c x s
receive_put_off c x s none =
    let there = put_off_there x.id s (receive_from c x s) none in
    let may = else_none (lacks_access Read c there.q.permissions) (refuse EACCES s) _
    (some_none (answers.Refused EACCES) s) there.none in
    let off = nothing_selected (selected x.mtype there.q.messages) c x s there.q may.1 in
    record {
      given = there.given;
      q = there.q;
      found = there.found;
      may = may.0;
      none = off.0;
      waits = off.1;
      running = off.2;
    }

-- it waits wherever it is so
pub receive_waits_at : (c : Caller) (x : ReceiveArguments) (t : State) (p : Queue) →
    on_queue x.id t (receive_from c x t) ≡ receive_from c x t p → lacks_access Read c p.permissions ≡ false →
    selected x.mtype p.messages ≡ None → x.nowait ≡ false → t.stopped ≡ false → outcome c (calls.Receive x) t ≡ None
receive_waits_at c x t p goes may none waits running =
    let off : receive_found (selected x.mtype p.messages) c x t p ≡ None =
    ap (λ (m : Option Message). receive_found m c x t p) none ∙ put_off_again x.nowait ENOMSG t waits running in
    let there : receive_from c x t p ≡ None = rw may off in
    goes ∙ there

-- a send that waits: it may write to its queue, and has no room there
pub record SendWaits (c : Caller) (x : SendArguments) (s : State) : Type 0 where
  pub sound : (int_lt x.mtype (pos 1) || nat_lt MAX_BODY (length x.body)) ≡ false
  pub given : (x.id == 0 || nat_le s.next_id x.id) ≡ false
  pub q : Queue
  pub found : find (has_id x.id) s.queues ≡ Some q
  pub may : lacks_access Write c q.permissions ≡ false
  pub full : lacks_room (length x.body) q ≡ true
  pub waits : x.nowait ≡ false
  pub running : s.stopped ≡ false

pub send_put_off : (c : Caller) (x : SendArguments) (s : State) → outcome c (calls.Send x) s ≡ None → SendWaits c x s
send_put_off c x s none =
    let goes = else_none (int_lt x.mtype (pos 1) || nat_lt MAX_BODY (length x.body)) (refuse EINVAL s)
    (on_queue x.id s (send_to c x s)) (some_none (answers.Refused EINVAL) s) none in
    let there = put_off_there x.id s (send_to c x s) goes.1 in
    let may = else_none (lacks_access Write c there.q.permissions) (refuse EACCES s) _
    (some_none (answers.Refused EACCES) s) there.none in
    let full = then_none (lacks_room (length x.body) there.q) (put_off x.nowait EAGAIN s) _ (some_none _ _) may.1 in
    let waits = put_off_none x.nowait EAGAIN s full.1 in
    record {
      sound = goes.0;
      given = there.given;
      q = there.q;
      found = there.found;
      may = may.0;
      full = full.0;
      waits = waits.0;
      running = waits.1;
    }

pub send_waits_at : (c : Caller) (x : SendArguments) (t : State) (p : Queue) →
    (int_lt x.mtype (pos 1) || nat_lt MAX_BODY (length x.body)) ≡ false →
    on_queue x.id t (send_to c x t) ≡ send_to c x t p → lacks_access Write c p.permissions ≡ false →
    lacks_room (length x.body) p ≡ true → x.nowait ≡ false → t.stopped ≡ false → outcome c (calls.Send x) t ≡ None
send_waits_at c x t p sound goes may full waits running =
    let off = put_off_again x.nowait EAGAIN t waits running in
    let there : send_to c x t p ≡ None = rw (may, full) off in
    rw sound (goes ∙ there)

-- they wait on where their queue has become one that is as bad for them
module _ (c : Caller) (id : ℕ) (s t : State) (q p : Queue) (became : Became id s t q p) where
  pub receive_waits_on : (x : ReceiveArguments) → x.id ≡ id →
      (selected x.mtype q.messages ≡ None → selected x.mtype p.messages ≡ None) →
      outcome c (calls.Receive x) s ≡ None → outcome c (calls.Receive x) t ≡ None
  receive_waits_on x on selects none =
      let off = receive_put_off c x s none in
      let its : off.q ≡ q =
      one_queue off.q q (sym off.found ∙ ap (λ (n : ℕ). find (has_id n) s.queues) on ∙ became.was) in
      let may : lacks_access Read c p.permissions ≡ false =
      ap (lacks_access Read c) (became.permissions ∙ ap (λ (r : Queue). r.permissions) (sym its)) ∙ off.may in
      let none_there : selected x.mtype q.messages ≡ None =
      ap (λ (r : Queue). selected x.mtype r.messages) (sym its) ∙ off.none in
      let goes : on_queue x.id t (receive_from c x t) ≡ receive_from c x t p =
      ap (λ (n : ℕ). on_queue n t (receive_from c x t)) on
      ∙ goes_on_then id s t q p became (receive_from c x t)
      (ap (λ (n : ℕ). n == 0 || nat_le s.next_id n) (sym on) ∙ off.given) in
      receive_waits_at c x t p goes may (selects none_there) off.waits (became.stopped ∙ off.running)

  pub send_waits_on : (x : SendArguments) → x.id ≡ id →
      (lacks_room (length x.body) q ≡ true → lacks_room (length x.body) p ≡ true) →
      outcome c (calls.Send x) s ≡ None → outcome c (calls.Send x) t ≡ None
  send_waits_on x on lacks none =
      let off = send_put_off c x s none in
      let its : off.q ≡ q =
      one_queue off.q q (sym off.found ∙ ap (λ (n : ℕ). find (has_id n) s.queues) on ∙ became.was) in
      let may : lacks_access Write c p.permissions ≡ false =
      ap (lacks_access Write c) (became.permissions ∙ ap (λ (r : Queue). r.permissions) (sym its)) ∙ off.may in
      let full : lacks_room (length x.body) p ≡ true =
      lacks (ap (λ (r : Queue). lacks_room (length x.body) r) (sym its) ∙ off.full) in
      let goes : on_queue x.id t (send_to c x t) ≡ send_to c x t p =
      ap (λ (n : ℕ). on_queue n t (send_to c x t)) on
      ∙ goes_on_then id s t q p became (send_to c x t)
      (ap (λ (n : ℕ). n == 0 || nat_le s.next_id n) (sym on) ∙ off.given) in
      send_waits_at c x t p off.sound goes may full off.waits (became.stopped ∙ off.running)

-- ---- the other calls never wait

create_some : (c : Caller) (a : GetArguments) (s : State) → create c a s ≡ None → ⊥
create_some c a s none =
    neither_none (length s.queues == MAX_QUEUES || s.next_id == END_OF_IDS) (refuse ENOSPC s) _
    (some_none (answers.Refused ENOSPC) s) (some_none _ _) none

pub get_some : (c : Caller) (a : GetArguments) (s : State) (key : Option ℕ) → get_by key c a s ≡ None → ⊥
get_some c a s None none = create_some c a s none
get_some c a s (Some key) none = by (find (has_key key) s.queues) none
  where
    by : (o : Option Queue) → get_found o c a s ≡ None → ⊥
    by (Some q) none =
        neither_none (a.create && a.excl) (refuse EEXIST s) _ (some_none (answers.Refused EEXIST) s) (some_none _ _)
        none
    by None none =
        neither_none a.create (create c a s) (refuse ENOENT s) (create_some c a s)
        (some_none (answers.Refused ENOENT) s) none

pub stat_some : (c : Caller) (id : ℕ) (s : State) → on_queue id s (stat_of c s) ≡ None → ⊥
stat_some c id s none =
    let there = put_off_there id s (stat_of c s) none in
    neither_none (lacks_access Read c there.q.permissions) (refuse EACCES s) _ (some_none (answers.Refused EACCES) s)
    (some_none _ _) there.none

pub set_some : (c : Caller) (a : SetArguments) (s : State) → outcome c (calls.Set a) s ≡ None → ⊥
set_some c a s none =
    let goes = else_none (nat_lt MAX_QBYTES a.qbytes) (refuse EINVAL s) (on_queue a.id s (set_to c a s))
    (some_none (answers.Refused EINVAL) s) none in
    let there = put_off_there a.id s (set_to c a s) goes.1 in
    let owns = else_none (not (is_owner c there.q.permissions)) (refuse EPERM s) _ (some_none (answers.Refused EPERM) s)
    there.none in
    neither_none (raises c a.qbytes there.q) (refuse EPERM s) _ (some_none (answers.Refused EPERM) s) (some_none _ _)
    owns.1

pub remove_some : (c : Caller) (id : ℕ) (s : State) → on_queue id s (remove_from c id s) ≡ None → ⊥
remove_some c id s none =
    let there = put_off_there id s (remove_from c id s) none in
    neither_none (not (is_owner c there.q.permissions)) (refuse EPERM s) _ (some_none (answers.Refused EPERM) s)
    (some_none _ _) there.none

-- ---- on which queue it waits

pub receive_within : (c : Caller) (x : ReceiveArguments) (s : State) → outcome c (calls.Receive x) s ≡ None →
    x.id < s.next_id
receive_within c x s none = let given = (receive_put_off c x s none).given in grind (arith, given)

pub send_within : (c : Caller) (x : SendArguments) (s : State) → outcome c (calls.Send x) s ≡ None → x.id < s.next_id
send_within c x s none = let given = (send_put_off c x s none).given in grind (arith, given)

-- ---- one that waits wherever another does

-- a caller of the same user and group may do the same
same_rights : (b c : Caller) → b.uid ≡ c.uid → b.gid ≡ c.gid → b ≡ record { pid = b.pid; uid = c.uid; gid = c.gid }
same_rights b c uid gid =
    ap (λ (n : ℕ). record { pid = b.pid; uid = n; gid = b.gid }) uid
    ∙ ap (λ (n : ℕ). record { pid = b.pid; uid = c.uid; gid = n }) gid

module _ (b c : Caller) (x y : ReceiveArguments) (uid : b.uid ≡ c.uid) (gid : b.gid ≡ c.gid) (id : x.id ≡ y.id)
    (mtype : x.mtype ≡ y.mtype) (waits : x.nowait ≡ false) where
  pub receives_alike : (s : State) → outcome c (calls.Receive y) s ≡ None → outcome b (calls.Receive x) s ≡ None
  receives_alike s none =
      let off = receive_put_off c y s none in
      let may : lacks_access Read b off.q.permissions ≡ false =
      ap (λ (r : Caller). lacks_access Read r off.q.permissions) (same_rights b c uid gid) ∙ off.may in
      let selects : selected x.mtype off.q.messages ≡ None =
      ap (λ (t : ℤ). selected t off.q.messages) mtype ∙ off.none in
      let goes : on_queue x.id s (receive_from b x s) ≡ receive_from b x s off.q =
      ap (λ (n : ℕ). on_queue n s (receive_from b x s)) id
      ∙ there_again y.id s (receive_from b x s) off.q off.given off.found in
      receive_waits_at b x s off.q goes may selects waits off.running

module _ (b c : Caller) (x y : SendArguments) (uid : b.uid ≡ c.uid) (gid : b.gid ≡ c.gid) (id : x.id ≡ y.id)
    (mtype : x.mtype ≡ y.mtype) (long : length x.body ≡ length y.body) (waits : x.nowait ≡ false) where
  pub sends_alike : (s : State) → outcome c (calls.Send y) s ≡ None → outcome b (calls.Send x) s ≡ None
  sends_alike s none =
      let off = send_put_off c y s none in
      let sound : (int_lt x.mtype (pos 1) || nat_lt MAX_BODY (length x.body)) ≡ false =
      ap (λ (t : ℤ). int_lt t (pos 1) || nat_lt MAX_BODY (length x.body)) mtype
      ∙ ap (λ (n : ℕ). int_lt y.mtype (pos 1) || nat_lt MAX_BODY n) long ∙ off.sound in
      let may : lacks_access Write b off.q.permissions ≡ false =
      ap (λ (r : Caller). lacks_access Write r off.q.permissions) (same_rights b c uid gid) ∙ off.may in
      let full : lacks_room (length x.body) off.q ≡ true = ap (λ (n : ℕ). lacks_room n off.q) long ∙ off.full in
      let goes : on_queue x.id s (send_to b x s) ≡ send_to b x s off.q =
      ap (λ (n : ℕ). on_queue n s (send_to b x s)) id
      ∙ there_again y.id s (send_to b x s) off.q off.given off.found in
      send_waits_at b x s off.q sound goes may full waits off.running
