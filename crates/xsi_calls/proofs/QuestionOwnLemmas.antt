-- A call that holds the names which it needs holds that of the queue, or of the key, that it was given.
use Rattle.std.proofs.Common.{ℕ, refl, List, [], ◌++◌, Option, Some, None, arith}
use Rattle.std.specs.Prelude.{map}
use Rattle.std.specs.List.{Contains}
use Rattle.call_writes.specs.call_decisions.Anything.{IsOfKind, if_of, of_get, of_receive, of_remove, of_send, of_set, of_stat}
use Rattle.call_writes.specs.call_decisions.Others.{HoldsKey, HoldsOwn}
use Rattle.page_locks.specs.declared.lock.LockName.TheVariants as names
use Rattle.queue_model.specs.declared.call.Call.TheVariants as calls
use Rattle.xsi_control.specs.Getting.{key_names}
use Rattle.xsi_control.specs.Asking.{locked_at}
use Rattle.xsi_control.specs.declared.stage.Stage.{Stage}
use Rattle.xsi_control.specs.declared.stage.Stage.TheVariants.{Seeking, Refused, Keyed, Counting, Removing}
use Rattle.xsi_calls.proofs.QuestionNames.{GetArguments, GetInquiry, LockKind, RemoveInquiry, by_phase, exclusively, get_locked, names_of, queue_for}
use Rattle.xsi_calls.specs.QuestionWords.{AnyInquiry, Call, KnowsOf, LockName, Roomful, State, names_for, names_in}

-- ---- by the kind of the call

key_has : (key : Option ℕ) (more : List LockName) → HoldsKey key (names_in (map exclusively (key_names key ++ more)))
key_has None more = tt
key_has (Some key) more = (0, omega arith, refl)

get_has : (a : GetArguments) (o : Option GetInquiry) (IsSo : GetInquiry → Type 0) → IsOfKind IsSo o →
    HoldsKey a.key (names_in (if_of (λ (i : GetInquiry). map exclusively (get_locked a i.getting)) [] o))
get_has a None IsSo is = absurd is
get_has a (Some i) IsSo is = key_has a.key _

queue_has : {I : Type 0} (id : ℕ) (kind : LockKind) (o : Option I) (IsSo : I → Type 0) → IsOfKind IsSo o →
    Contains (names_in (if_of (λ (i : I). queue_for id kind) [] o)) (names.Queue id)
queue_has id kind None IsSo is = absurd is
queue_has id kind (Some i) IsSo is = (0, omega arith, refl)

removed_has : (id : ℕ) (key : Option ℕ) → Contains (names_in (by_phase id (names_of id key))) (names.Queue id)
removed_has id None = (1, omega arith, refl)
removed_has id (Some key) = (2, omega arith, refl)

stage_has : (id : ℕ) (stage : Stage) → Contains (names_in (by_phase id (locked_at id stage))) (names.Queue id)
stage_has id (Seeking sought) = (0, omega arith, refl)
stage_has id (Refused errno) = (0, omega arith, refl)
stage_has id (Keyed key) = removed_has id key
stage_has id (Counting key queue) = removed_has id key
stage_has id (Removing r) = removed_has id r.key

remove_has : (id : ℕ) (o : Option RemoveInquiry) (IsSo : RemoveInquiry → Type 0) → IsOfKind IsSo o →
    Contains (names_in (if_of (λ (i : RemoveInquiry). by_phase id (locked_at id i.stage)) [] o)) (names.Queue id)
remove_has id None IsSo is = absurd is
remove_has id (Some i) IsSo is = stage_has id i.stage

-- ---- any call

pub own_names : (call : Call) (i : AnyInquiry) (room : Roomful) (s : State) → KnowsOf call i room s →
    HoldsOwn call (names_in (names_for call i))
own_names (calls.Get a) i room s knows = get_has a (of_get i) _ knows
own_names (calls.Send a) i room s knows = queue_has a.id _ (of_send i) _ knows
own_names (calls.Receive a) i room s knows = queue_has a.id _ (of_receive i) _ knows
own_names (calls.Stat id) i room s knows = queue_has id _ (of_stat i) _ knows
own_names (calls.Set a) i room s knows = queue_has a.id _ (of_set i) _ knows
own_names (calls.Remove id) i room s knows = remove_has id (of_remove i) _ knows

-- ---- more names

key_more : (key : Option ℕ) (held more : List LockName) →
    ((name : LockName) → Contains held name → Contains more name) → HoldsKey key held → HoldsKey key more
key_more None held more within own = tt
key_more (Some key) held more within own = within (names.Key key) own

-- it does so, too, under more names
pub own_more : (call : Call) (held more : List LockName) →
    ((name : LockName) → Contains held name → Contains more name) → HoldsOwn call held → HoldsOwn call more
own_more (calls.Get a) held more within own = key_more a.key held more within own
own_more (calls.Send a) held more within own = within (names.Queue a.id) own
own_more (calls.Receive a) held more within own = within (names.Queue a.id) own
own_more (calls.Stat id) held more within own = within (names.Queue id) own
own_more (calls.Set a) held more within own = within (names.Queue a.id) own
own_more (calls.Remove id) held more within own = within (names.Queue id) own
