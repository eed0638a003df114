-- A call asks for a record under the name of that record.
use Rattle.std.proofs.Common.{ℕ, ◌≡◌, Bool, true, false, cond, List, [], ◌∷◌, ◌++◌, Option, Some, None, map, sym, ap, arith}
use Rattle.std.specs.List.{Contains}
use Rattle.page_locks.specs.declared.lock.LockName.TheVariants as names
use Rattle.queue_model.specs.declared.call.Call.TheVariants as calls
use Rattle.xsi_control.specs.declared.get_inquiry.Getting.TheVariants as gets
use Rattle.xsi_inquiry.specs.declared.sought.Sought.TheVariants as soughts
use Rattle.xsi_receive.specs.Asking as receives
use Rattle.xsi_receive.specs.declared.stage.Stage as receive_stages
use Rattle.xsi_receive.specs.declared.stage.Stage.TheVariants as receive
use Rattle.xsi_send.specs.Knowing as sends
use Rattle.xsi_send.specs.declared.stage.Stage as send_stages
use Rattle.xsi_send.specs.declared.stage.Stage.TheVariants as send
use Rattle.xsi_control.specs.Asking as removes
use Rattle.xsi_control.specs.declared.stage.Stage as remove_stages
use Rattle.xsi_control.specs.declared.stage.Stage.TheVariants as remove
use Rattle.numbers.specs.declared.limits.TheConstants.{MAX_QBYTES}
use Rattle.queue_model.specs.declared.call.GetArguments.{GetArguments}
use Rattle.queue_model.specs.declared.call.SendArguments.{SendArguments}
use Rattle.queue_model.specs.declared.call.SetArguments.{SetArguments}
use Rattle.std.specs.Prelude.{nat_lt}
use Rattle.call_decisions.specs.Names.{by_phase, exclusively, queue_for}
use Rattle.call_decisions.specs.NameLaws.{AskUnderNames, names_in}
use Rattle.call_decisions.proofs.Words.{Exclusive, GetInquiry, Getting, Lock, LockKind, LockName, Read, ReceiveInquiry, RecordKey, RemoveInquiry, SendInquiry, SetInquiry, Sought, StatInquiry, Wanted, At, counter_key, get_locked, get_wanted, guard_of, if_of, key_names, key_of_key, key_of_message, key_of_queue, key_of_type, key_wanted, locked_at, names_of, of_get, of_receive, of_remove, of_send, of_set, of_stat, set_wanted, sought_next}

-- the first name of a list, and one behind it
first_is : (name : LockName) (more : List LockName) (key : RecordKey) → guard_of key ≡ name →
    Contains (name ∷ more) (guard_of key)
first_is name more key is = (0, omega arith, sym is)

second_is : (first name : LockName) (more : List LockName) (key : RecordKey) → guard_of key ≡ name →
    Contains (first ∷ name ∷ more) (guard_of key)
second_is first name more key is = (1, omega arith, sym is)

third_is : (first second name : LockName) (key : RecordKey) → guard_of key ≡ name →
    Contains (first ∷ second ∷ name ∷ []) (guard_of key)
third_is first second name key is = (2, omega arith, sym is)

-- of two keys that are asked for as one, the guard is one
guard_by : (asked key : RecordKey) → Some (At asked) ≡ Some (At key) → guard_of key ≡ guard_of asked
guard_by asked key is = ap guard_of (sym (same is))
  where
    same : Some (At asked) ≡ Some (At key) → asked ≡ key
    same is = cc

sought_under : (id : ℕ) (kind : LockKind) (sought : Sought) (key : RecordKey) →
    sought_next id sought ≡ Some (At key) → Contains (names_in (queue_for id kind)) (guard_of key)
sought_under id kind soughts.Unread key is = first_is (names.Queue id) [] key (guard_by (key_of_queue id) key is)
sought_under id kind soughts.Absent key is = absurd cc
sought_under id kind (soughts.Found e) key is = absurd cc
sought_under id kind (soughts.Refused errno) key is = absurd cc

send_under : (a : SendArguments) (stage : send_stages.Stage) (key : RecordKey) →
    sends.asked a stage ≡ Some (At key) → Contains (names_in (queue_for a.id Exclusive)) (guard_of key)
send_under a (send.Seeking sought) key is = sought_under a.id Exclusive sought key is
send_under a (send.Refused errno) key is = absurd cc
send_under a send.Full key is = absurd cc
send_under a (send.AtType e) key is =
    first_is (names.Queue a.id) [] key (guard_by (key_of_type a.id a.mtype) key is)
send_under a (send.AtNeighbour w) key is =
    first_is (names.Queue a.id) [] key (guard_by (key_of_type a.id w.next) key is)
send_under a (send.Done e place) key is = absurd cc

receive_under : (id : ℕ) (stage : receive_stages.Stage) (key : RecordKey) →
    receives.asked id stage ≡ Some (At key) → Contains (names_in (queue_for id Exclusive)) (guard_of key)
receive_under id (receive.Seeking sought) key is = sought_under id Exclusive sought key is
receive_under id (receive.Refused errno) key is = absurd cc
receive_under id receive.PutOff key is = absurd cc
receive_under id (receive.AtType e mtype) key is =
    first_is (names.Queue id) [] key (guard_by (key_of_type id mtype) key is)
receive_under id (receive.AtMessage e t serial) key is =
    first_is (names.Queue id) [] key (guard_by (key_of_message id serial) key is)
receive_under id (receive.AtTypeOf e m) key is =
    first_is (names.Queue id) [] key (guard_by (key_of_type id m.mtype) key is)
receive_under id (receive.Taken r) key is = absurd cc

set_under : (a : SetArguments) (sought : Sought) (key : RecordKey) → set_wanted a sought ≡ Some (At key) →
    Contains (names_in (queue_for a.id Exclusive)) (guard_of key)
set_under a sought key is = by (nat_lt MAX_QBYTES a.qbytes) is
  where
    by : (b : Bool) → cond b None (sought_next a.id sought) ≡ Some (At key) →
        Contains (names_in (queue_for a.id Exclusive)) (guard_of key)
    by true is = absurd cc
    by false is = sought_under a.id Exclusive sought key is

-- the key of a Get, and the Counter behind it
key_under : (k : Option ℕ) (key : RecordKey) → key_wanted k ≡ Some (At key) →
    Contains (names_in (map exclusively (key_names k ++ []))) (guard_of key)
key_under None key is = absurd cc
key_under (Some k) key is = first_is (names.Key k) [] key (guard_by (key_of_key k) key is)

counter_under : (k : Option ℕ) (more : List LockName) (key : RecordKey) → Some (At counter_key) ≡ Some (At key) →
    Contains (names_in (map exclusively (key_names k ++ names.Counter ∷ more))) (guard_of key)
counter_under None more key is = first_is names.Counter _ key (guard_by counter_key key is)
counter_under (Some k) more key is = second_is (names.Key k) names.Counter _ key (guard_by counter_key key is)

get_under : (a : GetArguments) (getting : Getting) (key : RecordKey) → get_wanted a getting ≡ Some (At key) →
    Contains (names_in (map exclusively (get_locked a getting))) (guard_of key)
get_under a gets.AtKey key is = key_under a.key key is
get_under a (gets.Found id) key is = absurd cc
get_under a gets.Absent key is = absurd cc
get_under a gets.AtCounter key is = counter_under a.key [] key is
get_under a (gets.Counted n) key is = absurd cc

-- in the second phase of a Remove
queue_under : (id : ℕ) (k : Option ℕ) (key : RecordKey) → Some (At (key_of_queue id)) ≡ Some (At key) →
    Contains (names_in (by_phase id (names_of id k))) (guard_of key)
queue_under id None key is =
    second_is names.Counter (names.Queue id) [] key (guard_by (key_of_queue id) key is)
queue_under id (Some k) key is =
    third_is (names.Key k) names.Counter (names.Queue id) key (guard_by (key_of_queue id) key is)

count_under : (id : ℕ) (k : Option ℕ) (key : RecordKey) → Some (At counter_key) ≡ Some (At key) →
    Contains (names_in (by_phase id (names_of id k))) (guard_of key)
count_under id None key is = first_is names.Counter (names.Queue id ∷ []) key (guard_by counter_key key is)
count_under id (Some k) key is =
    second_is (names.Key k) names.Counter (names.Queue id ∷ []) key (guard_by counter_key key is)

remove_under : (id : ℕ) (stage : remove_stages.Stage) (key : RecordKey) →
    removes.asked id stage ≡ Some (At key) → Contains (names_in (by_phase id (locked_at id stage))) (guard_of key)
remove_under id (remove.Seeking sought) key is = sought_under id Read sought key is
remove_under id (remove.Refused errno) key is = absurd cc
remove_under id (remove.Keyed k) key is = queue_under id k key is
remove_under id (remove.Counting k queue) key is = count_under id k key is
remove_under id (remove.Removing r) key is = absurd cc

-- the inquiry of a kind, or another, which asks nothing
of_kind : {I : Type 0} (wanted : I → Option Wanted) (names_at : I → List Lock) (key : RecordKey) →
    ((i : I) → wanted i ≡ Some (At key) → Contains (names_in (names_at i)) (guard_of key)) → (o : Option I) →
    if_of wanted None o ≡ Some (At key) → Contains (names_in (if_of names_at [] o)) (guard_of key)
of_kind wanted names_at key law None is = absurd cc
of_kind wanted names_at key law (Some i) is = law i is

pub ask_under_names : AskUnderNames
ask_under_names (calls.Get a) any key is =
    of_kind (λ (i : GetInquiry). get_wanted a i.getting) _ key (λ i is. get_under a i.getting key is) (of_get any) is
ask_under_names (calls.Send a) any key is =
    of_kind (λ (i : SendInquiry). sends.asked a i.stage) _ key (λ i is. send_under a i.stage key is) (of_send any) is
ask_under_names (calls.Receive a) any key is =
    of_kind (λ (i : ReceiveInquiry). receives.asked a.id i.stage) _ key
    (λ i is. receive_under a.id i.stage key is) (of_receive any) is
ask_under_names (calls.Stat id) any key is =
    of_kind (λ (i : StatInquiry). sought_next id i.sought) _ key
    (λ i is. sought_under id Read i.sought key is) (of_stat any) is
ask_under_names (calls.Set a) any key is =
    of_kind (λ (i : SetInquiry). set_wanted a i.sought) _ key (λ i is. set_under a i.sought key is) (of_set any) is
ask_under_names (calls.Remove id) any key is =
    of_kind (λ (i : RemoveInquiry). removes.asked id i.stage) _ key
    (λ i is. remove_under id i.stage key is) (of_remove any) is
