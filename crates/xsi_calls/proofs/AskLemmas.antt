-- What a call asks: under which names, and what it knows then.
use Rattle.std.proofs.Common.{ℕ, ◌≡◌, Bool, true, false, cond, List, [], Option, Some, None, refl, sym, ap, subst, arith}
use Rattle.std.specs.List.{Contains, find}
use Rattle.std.specs.Prelude.{nat_lt}
use Rattle.xsi_calls.proofs.QuestionNames.{GetArguments, GetInquiry, Getting, IsOfKind, Lock, LockKind, MAX_QBYTES, ReceiveInquiry, RemoveInquiry, SendArguments, SendInquiry, SetArguments, SetInquiry, Sought, StatInquiry, Tells, ask_under_names, by_phase, get_wanted, has_id, if_of, key_wanted, of_get, of_receive, of_remove, of_send, of_set, of_stat, queue_for, set_wanted, sought_next}
use Rattle.page_locks.specs.declared.lock.LockName.TheVariants as names
use Rattle.page_locks.specs.declared.lock.LockKind.TheVariants.{Read, Exclusive}
use Rattle.queue_model.specs.declared.call.Call.TheVariants as calls
use Rattle.xsi_control.specs.declared.get_inquiry.Getting.TheVariants as gets
use Rattle.xsi_inquiry.specs.declared.sought.Sought.TheVariants as soughts
use Rattle.xsi_receive.specs.Asking as receives
use Rattle.xsi_receive.specs.Knowing as receive_knowing
use Rattle.xsi_receive.specs.declared.stage.Stage as receive_stages
use Rattle.xsi_receive.specs.declared.stage.Stage.TheVariants as receive
use Rattle.xsi_send.specs.Knowing as sends
use Rattle.xsi_send.specs.declared.stage.Stage as send_stages
use Rattle.xsi_send.specs.declared.stage.Stage.TheVariants as send
use Rattle.xsi_control.specs.Asking as removes
use Rattle.xsi_control.specs.Knowing as remove_knowing
use Rattle.xsi_control.specs.declared.stage.Stage as remove_stages
use Rattle.xsi_control.specs.declared.stage.Stage.TheVariants as remove
use Rattle.xsi_calls.specs.QuestionWords.{AnyInquiry, KnowsOf, asked_of, Call, State, Roomful, Wanted, At, Given, names_in, names_for}
use Rattle.xsi_calls.specs.QuestionLaws.{AskUnderNames}

-- ---- whether an id was given out is asked under its queue's name

first_name : (id g : ℕ) (kind : LockKind) → id ≡ g → Contains (names_in (queue_for id kind)) (names.Queue g)
first_name id g kind same = (0, omega arith, ap names.Queue same)

sought_under : (id : ℕ) (kind : LockKind) (sought : Sought) (g : ℕ) → sought_next id sought ≡ Some (Given g) →
    Contains (names_in (queue_for id kind)) (names.Queue g)
sought_under id kind soughts.Unread g is = absurd cc
sought_under id kind soughts.Absent g is = let same : id ≡ g = cc in first_name id g kind same
sought_under id kind (soughts.Found e) g is = absurd cc
sought_under id kind (soughts.Refused errno) g is = absurd cc

get_never : (a : GetArguments) (stage : Getting) (g : ℕ) → get_wanted a stage ≡ Some (Given g) → ⊥
get_never a gets.AtKey g is = by a.key is
  where
    by : (k : Option ℕ) → key_wanted k ≡ Some (Given g) → ⊥
    by None is = cc
    by (Some key) is = cc
get_never a (gets.Found id) g is = cc
get_never a gets.Absent g is = cc
get_never a gets.AtCounter g is = cc
get_never a (gets.Counted n) g is = cc

send_sought : (a : SendArguments) (stage : send_stages.Stage) (g : ℕ) → sends.asked a stage ≡ Some (Given g) →
    (sought : Sought) × (stage ≡ send.Seeking sought) × (sought_next a.id sought ≡ Some (Given g))
send_sought a (send.Seeking sought) g is = (sought, refl, is)
send_sought a (send.Refused errno) g is = absurd cc
send_sought a send.Full g is = absurd cc
send_sought a (send.AtType e) g is = absurd cc
send_sought a (send.AtNeighbour w) g is = absurd cc
send_sought a (send.Done e place) g is = absurd cc

receive_sought : (id : ℕ) (stage : receive_stages.Stage) (g : ℕ) → receives.asked id stage ≡ Some (Given g) →
    (sought : Sought) × (stage ≡ receive.Seeking sought) × (sought_next id sought ≡ Some (Given g))
receive_sought id (receive.Seeking sought) g is = (sought, refl, is)
receive_sought id (receive.Refused errno) g is = absurd cc
receive_sought id receive.PutOff g is = absurd cc
receive_sought id (receive.AtType e mtype) g is = absurd cc
receive_sought id (receive.AtMessage e t serial) g is = absurd cc
receive_sought id (receive.AtTypeOf e m) g is = absurd cc
receive_sought id (receive.Taken r) g is = absurd cc

remove_sought : (id : ℕ) (stage : remove_stages.Stage) (g : ℕ) → removes.asked id stage ≡ Some (Given g) →
    (sought : Sought) × (stage ≡ remove.Seeking sought) × (sought_next id sought ≡ Some (Given g))
remove_sought id (remove.Seeking sought) g is = (sought, refl, is)
remove_sought id (remove.Refused errno) g is = absurd cc
remove_sought id (remove.Keyed key) g is = absurd cc
remove_sought id (remove.Counting key queue) g is = absurd cc
remove_sought id (remove.Removing r) g is = absurd cc

set_sought : (a : SetArguments) (sought : Sought) (g : ℕ) → set_wanted a sought ≡ Some (Given g) →
    sought_next a.id sought ≡ Some (Given g)
set_sought a sought g is = by (nat_lt MAX_QBYTES a.qbytes) is
  where
    by : (b : Bool) → cond b None (sought_next a.id sought) ≡ Some (Given g) → sought_next a.id sought ≡ Some (Given g)
    by true is = absurd cc
    by false is = is

-- what is so of each inquiry of a kind that asks so; others ask nothing
under_by : {I : Type 0} (wanted : I → Option Wanted) (names_at : I → List Lock) (g : ℕ) →
    ((x : I) → wanted x ≡ Some (Given g) → Contains (names_in (names_at x)) (names.Queue g)) →
    (o : Option I) → if_of wanted None o ≡ Some (Given g) →
    Contains (names_in (if_of names_at [] o)) (names.Queue g)
under_by wanted names_at g law None is = absurd cc
under_by wanted names_at g law (Some x) is = law x is

given_under : (call : Call) (i : AnyInquiry) (g : ℕ) → asked_of call i ≡ Some (Given g) →
    Contains (names_in (names_for call i)) (names.Queue g)
given_under (calls.Get a) any g is =
    under_by (λ (i : GetInquiry). get_wanted a i.getting) _ g (λ x asks. absurd (get_never a x.getting g asks))
    (of_get any) is
given_under (calls.Send a) any g is =
    under_by (λ (i : SendInquiry). sends.asked a i.stage) (λ (i : SendInquiry). queue_for a.id Exclusive) g
    (λ x asks. let at = send_sought a x.stage g asks in sought_under a.id Exclusive at.0 g at.2) (of_send any) is
given_under (calls.Receive a) any g is =
    under_by (λ (i : ReceiveInquiry). receives.asked a.id i.stage) (λ (i : ReceiveInquiry). queue_for a.id Exclusive) g
    (λ x asks. let at = receive_sought a.id x.stage g asks in sought_under a.id Exclusive at.0 g at.2)
    (of_receive any) is
given_under (calls.Stat id) any g is =
    under_by (λ (i : StatInquiry). sought_next id i.sought) (λ (i : StatInquiry). queue_for id Read) g
    (λ x asks. sought_under id Read x.sought g asks) (of_stat any) is
given_under (calls.Set a) any g is =
    under_by (λ (i : SetInquiry). set_wanted a i.sought) (λ (i : SetInquiry). queue_for a.id Exclusive) g
    (λ x asks. sought_under a.id Exclusive x.sought g (set_sought a x.sought g asks)) (of_set any) is
given_under (calls.Remove id) any g is =
    under_by (λ (i : RemoveInquiry). removes.asked id i.stage)
    (λ (i : RemoveInquiry). by_phase id (removes.locked_at id i.stage)) g
    (λ x asks. let at = remove_sought id x.stage g asks in
    subst (λ (st : remove_stages.Stage). Contains (names_in (by_phase id (removes.locked_at id st))) (names.Queue g))
    (sym at.1) (sought_under id Read at.0 g at.2)) (of_remove any) is

pub asks_under : AskUnderNames
asks_under call i (At key) is = ask_under_names call i key is
asks_under call i (Given id) is = given_under call i id is

-- ---- and no queue has the id then

sought_absent : (id : ℕ) (sought : Sought) (g : ℕ) (s : State) → sought_next id sought ≡ Some (Given g) →
    Tells id sought s → find (has_id g) s.queues ≡ None
sought_absent id soughts.Unread g s is tells = absurd cc
sought_absent id soughts.Absent g s is tells =
    let same : id ≡ g = cc in subst (λ n. find (has_id n) s.queues ≡ None) same tells.1
sought_absent id (soughts.Found e) g s is tells = absurd cc
sought_absent id (soughts.Refused errno) g s is tells = absurd cc

known_by : {I : Type 0} (wanted : I → Option Wanted) (Knows : I → Type 0) (P : Type 0) (g : ℕ) →
    ((x : I) → wanted x ≡ Some (Given g) → Knows x → P) → (o : Option I) → if_of wanted None o ≡ Some (Given g) →
    IsOfKind Knows o → P
known_by wanted Knows P g law None is knows = absurd cc
known_by wanted Knows P g law (Some x) is knows = law x is knows

pub given_absent : (call : Call) (i : AnyInquiry) (room : Roomful) (s : State) (g : ℕ) →
    asked_of call i ≡ Some (Given g) → KnowsOf call i room s → find (has_id g) s.queues ≡ None
given_absent (calls.Get a) any room s g is knows =
    known_by (λ (i : GetInquiry). get_wanted a i.getting) _ _ g
    (λ x asks known. absurd (get_never a x.getting g asks)) (of_get any) is knows
given_absent (calls.Send a) any room s g is knows =
    known_by (λ (i : SendInquiry). sends.asked a i.stage)
    (λ (i : SendInquiry). sends.KnowsAt i.caller a i.stage s) _ g
    (λ x asks known. let at = send_sought a x.stage g asks in
    let told = subst (λ (st : send_stages.Stage). sends.KnowsAt x.caller a st s) at.1 known in
    sought_absent a.id at.0 g s at.2 told.1) (of_send any) is knows
given_absent (calls.Receive a) any room s g is knows =
    known_by (λ (i : ReceiveInquiry). receives.asked a.id i.stage)
    (λ (i : ReceiveInquiry). receive_knowing.KnowsAt i.caller a i.stage room s) _ g
    (λ x asks known. let at = receive_sought a.id x.stage g asks in
    let told = subst (λ (st : receive_stages.Stage). receive_knowing.KnowsAt x.caller a st room s) at.1 known in
    sought_absent a.id at.0 g s at.2 told.1) (of_receive any) is knows
given_absent (calls.Stat id) any room s g is knows =
    known_by (λ (i : StatInquiry). sought_next id i.sought) (λ (i : StatInquiry). Tells id i.sought s) _ g
    (λ x asks known. sought_absent id x.sought g s asks known) (of_stat any) is knows
given_absent (calls.Set a) any room s g is knows =
    known_by (λ (i : SetInquiry). set_wanted a i.sought) (λ (i : SetInquiry). Tells a.id i.sought s) _ g
    (λ x asks known. sought_absent a.id x.sought g s (set_sought a x.sought g asks) known) (of_set any) is knows
given_absent (calls.Remove id) any room s g is knows =
    known_by (λ (i : RemoveInquiry). removes.asked id i.stage)
    (λ (i : RemoveInquiry). remove_knowing.KnowsAt i.caller id i.stage s) _ g
    (λ x asks known. let at = remove_sought id x.stage g asks in
    let told = subst (λ (st : remove_stages.Stage). remove_knowing.KnowsAt x.caller id st s) at.1 known in
    sought_absent id at.0 g s at.2 told.0) (of_remove any) is knows
