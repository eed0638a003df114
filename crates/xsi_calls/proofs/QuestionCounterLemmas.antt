-- The Counter is asked for last.
use Rattle.std.proofs.Common.{ℕ, ◌≡◌, ◌<◌, Bool, true, false, cond, Option, Some, None, refl, ap, ◌∙◌, arith}
use Rattle.std.specs.Prelude.{nat_lt}
use Rattle.xsi_calls.proofs.QuestionNames.{COUNTER, GetArguments, GetInquiry, Getting, KEY, MAX_QBYTES, MESSAGE, QUEUE, ReceiveInquiry, RemoveInquiry, SendArguments, SendInquiry, SetArguments, SetInquiry, Sought, StatInquiry, TYPE, get_left, get_wanted, if_of, key_of_key, key_of_message, key_of_queue, key_of_type, key_wanted, of_get, of_receive, of_remove, of_send, of_set, of_stat, set_wanted, sought_next}
use Rattle.queue_model.specs.declared.call.Call.TheVariants as calls
use Rattle.xsi_control.specs.declared.get_inquiry.Getting.TheVariants as gets
use Rattle.xsi_inquiry.specs.declared.sought.Sought.TheVariants as soughts
use Rattle.xsi_receive.specs.Asking as receives
use Rattle.xsi_receive.specs.declared.stage.Stage as receive_stages
use Rattle.xsi_receive.specs.declared.stage.Stage.TheVariants as receive
use Rattle.xsi_send.specs.Knowing as sends
use Rattle.xsi_send.specs.declared.stage.Stage as send_stages
use Rattle.xsi_send.specs.declared.stage.Stage.TheVariants as send
use Rattle.xsi_control.specs.Asking as removes
use Rattle.xsi_control.specs.declared.stage.Stage as remove_stages
use Rattle.xsi_control.specs.declared.stage.Stage.TheVariants as remove
use Rattle.xsi_calls.specs.QuestionWords.{RecordKey, AnyInquiry, asked_of, left_of, Call, Wanted, At}

-- ---- the Counter is asked for last

-- a key of another kind is not the Counter's
other_kind : (asked key : RecordKey) → Some (At asked) ≡ Some (At key) → key.kind ≡ COUNTER → asked.kind ≡ COUNTER
other_kind asked key is counter = ap (λ (k : RecordKey). k.kind) (same is) ∙ counter
  where
    same : Some (At asked) ≡ Some (At key) → asked ≡ key
    same is = cc

sought_never : (id : ℕ) (sought : Sought) (key : RecordKey) → sought_next id sought ≡ Some (At key) →
    key.kind ≡ COUNTER → ⊥
sought_never id soughts.Unread key is counter =
    let kind : QUEUE ≡ COUNTER = other_kind (key_of_queue id) key is counter in omega (arith, kind)
sought_never id soughts.Absent key is counter = cc
sought_never id (soughts.Found e) key is counter = cc
sought_never id (soughts.Refused errno) key is counter = cc

send_never : (a : SendArguments) (stage : send_stages.Stage) (key : RecordKey) →
    sends.asked a stage ≡ Some (At key) → key.kind ≡ COUNTER → ⊥
send_never a (send.Seeking sought) key is counter = sought_never a.id sought key is counter
send_never a (send.Refused errno) key is counter = cc
send_never a send.Full key is counter = cc
send_never a (send.AtType e) key is counter =
    let kind : TYPE ≡ COUNTER = other_kind (key_of_type a.id a.mtype) key is counter in omega (arith, kind)
send_never a (send.AtNeighbour w) key is counter =
    let kind : TYPE ≡ COUNTER = other_kind (key_of_type a.id w.next) key is counter in omega (arith, kind)
send_never a (send.Done e place) key is counter = cc

receive_never : (id : ℕ) (stage : receive_stages.Stage) (key : RecordKey) →
    receives.asked id stage ≡ Some (At key) → key.kind ≡ COUNTER → ⊥
receive_never id (receive.Seeking sought) key is counter = sought_never id sought key is counter
receive_never id (receive.Refused errno) key is counter = cc
receive_never id receive.PutOff key is counter = cc
receive_never id (receive.AtType e mtype) key is counter =
    let kind : TYPE ≡ COUNTER = other_kind (key_of_type id mtype) key is counter in omega (arith, kind)
receive_never id (receive.AtMessage e t serial) key is counter =
    let kind : MESSAGE ≡ COUNTER = other_kind (key_of_message id serial) key is counter in omega (arith, kind)
receive_never id (receive.AtTypeOf e m) key is counter =
    let kind : TYPE ≡ COUNTER = other_kind (key_of_type id m.mtype) key is counter in omega (arith, kind)
receive_never id (receive.Taken r) key is counter = cc

set_never : (a : SetArguments) (sought : Sought) (key : RecordKey) → set_wanted a sought ≡ Some (At key) →
    key.kind ≡ COUNTER → ⊥
set_never a sought key is counter = by (nat_lt MAX_QBYTES a.qbytes) is
  where
    by : (b : Bool) → cond b None (sought_next a.id sought) ≡ Some (At key) → ⊥
    by true is = cc
    by false is = sought_never a.id sought key is counter

key_never : (k : Option ℕ) (key : RecordKey) → key_wanted k ≡ Some (At key) → key.kind ≡ COUNTER → ⊥
key_never None key is counter = cc
key_never (Some k) key is counter =
    let kind : KEY ≡ COUNTER = other_kind (key_of_key k) key is counter in omega (arith, kind)

-- nothing is asked where fewer than one question are left
get_none : (a : GetArguments) (g : Getting) → get_left g < 1 → get_wanted a g ≡ None
get_none a gets.AtKey few = absurd (omega (arith, few))
get_none a (gets.Found id) few = refl
get_none a gets.Absent few = refl
get_none a gets.AtCounter few = absurd (omega (arith, few))
get_none a (gets.Counted n) few = refl

get_last : (a : GetArguments) (g h : Getting) (key : RecordKey) → get_wanted a g ≡ Some (At key) →
    key.kind ≡ COUNTER → get_left h < get_left g → get_wanted a h ≡ None
get_last a gets.AtKey h key is counter fewer = absurd (key_never a.key key is counter)
get_last a (gets.Found id) h key is counter fewer = absurd cc
get_last a gets.Absent h key is counter fewer = absurd cc
get_last a gets.AtCounter h key is counter fewer = get_none a h fewer
get_last a (gets.Counted n) h key is counter fewer = absurd cc

remove_none : (id : ℕ) (stage : remove_stages.Stage) → removes.asks_left stage < 1 → removes.asked id stage ≡ None
remove_none id (remove.Seeking soughts.Unread) few = absurd (omega (arith, few))
remove_none id (remove.Seeking soughts.Absent) few = absurd (omega (arith, few))
remove_none id (remove.Seeking (soughts.Found e)) few = refl
remove_none id (remove.Seeking (soughts.Refused errno)) few = refl
remove_none id (remove.Refused errno) few = refl
remove_none id (remove.Keyed key) few = absurd (omega (arith, few))
remove_none id (remove.Counting key queue) few = absurd (omega (arith, few))
remove_none id (remove.Removing r) few = refl

remove_last : (id : ℕ) (g h : remove_stages.Stage) (key : RecordKey) → removes.asked id g ≡ Some (At key) →
    key.kind ≡ COUNTER → removes.asks_left h < removes.asks_left g → removes.asked id h ≡ None
remove_last id (remove.Seeking sought) h key is counter fewer = absurd (sought_never id sought key is counter)
remove_last id (remove.Refused errno) h key is counter fewer = absurd cc
remove_last id (remove.Keyed k) h key is counter fewer =
    let kind : QUEUE ≡ COUNTER = other_kind (key_of_queue id) key is counter in absurd (omega (arith, kind))
remove_last id (remove.Counting k queue) h key is counter fewer = remove_none id h fewer
remove_last id (remove.Removing r) h key is counter fewer = absurd cc

-- of the inquiries of a kind, or others, which ask nothing
last_by : {I : Type 0} (wanted : I → Option Wanted) (left : I → ℕ) (key : RecordKey) →
    ((x y : I) → wanted x ≡ Some (At key) → left y < left x → wanted y ≡ None) → (o p : Option I) →
    if_of wanted None o ≡ Some (At key) → if_of left 0 p < if_of left 0 o → if_of wanted None p ≡ None
last_by wanted left key law None p is fewer = absurd cc
last_by wanted left key law (Some x) None is fewer = refl
last_by wanted left key law (Some x) (Some y) is fewer = law x y is fewer

pub counter_last : (call : Call) (i j : AnyInquiry) (key : RecordKey) → asked_of call i ≡ Some (At key) →
    key.kind ≡ COUNTER → left_of call j < left_of call i → asked_of call j ≡ None
counter_last (calls.Get a) i j key is counter fewer =
    last_by (λ (x : GetInquiry). get_wanted a x.getting) (λ (x : GetInquiry). get_left x.getting) key
    (λ x y asks less. get_last a x.getting y.getting key asks counter less) (of_get i) (of_get j) is fewer
counter_last (calls.Send a) i j key is counter fewer =
    last_by (λ (x : SendInquiry). sends.asked a x.stage) (λ (x : SendInquiry). sends.asks_left x.stage) key
    (λ x y asks less. absurd (send_never a x.stage key asks counter)) (of_send i) (of_send j) is fewer
counter_last (calls.Receive a) i j key is counter fewer =
    last_by (λ (x : ReceiveInquiry). receives.asked a.id x.stage) (λ (x : ReceiveInquiry). receives.asks_left x.stage)
    key (λ x y asks less. absurd (receive_never a.id x.stage key asks counter)) (of_receive i) (of_receive j) is fewer
counter_last (calls.Stat id) i j key is counter fewer =
    last_by (λ (x : StatInquiry). sought_next id x.sought) _ key
    (λ x y asks less. absurd (sought_never id x.sought key asks counter)) (of_stat i) (of_stat j) is fewer
counter_last (calls.Set a) i j key is counter fewer =
    last_by (λ (x : SetInquiry). set_wanted a x.sought) _ key
    (λ x y asks less. absurd (set_never a x.sought key asks counter)) (of_set i) (of_set j) is fewer
counter_last (calls.Remove id) i j key is counter fewer =
    last_by (λ (x : RemoveInquiry). removes.asked id x.stage) (λ (x : RemoveInquiry). removes.asks_left x.stage) key
    (λ x y asks less. remove_last id x.stage y.stage key asks counter less) (of_remove i) (of_remove j) is fewer
