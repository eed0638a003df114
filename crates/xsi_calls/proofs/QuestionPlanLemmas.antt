-- What a call changes, and the names under which it does, which grew.
use Rattle.std.proofs.Common.{ℕ, ◌≡◌, ◌≢◌, ◌<◌, ◌++◌, ◌∷◌, inl, inr, ◌⊎◌, Bool, true, false, not, ◌&&◌, ◌||◌, cond, List, [], Option, Some, None, Result, Ok, Err, length, drop, take, refl, sym, ap, ◌∙◌, subst}
use Rattle.std.proofs.lemmas.Bool.{true≢false}
use Rattle.std.proofs.lemmas.List.{append-nil, take-append-drop}
use Rattle.std.specs.Option.{is_some}
use Rattle.std.specs.Prelude.{nat_lt}
use Rattle.xsi_calls.proofs.of_call_decisions.WriteLemmas.{write_under_names}
use Rattle.xsi_calls.proofs.QuestionNames.{Errno, GetArguments, GetInquiry, Getting, IsOfKind, KeepsNames, Lock, MAX_QBYTES, Plan, QueueEntry, ReceiveInquiry, RemoveInquiry, SendArguments, SendInquiry, SetArguments, SetInquiry, Sought, StatInquiry, by_phase, get_plan, if_of, key_deletion, key_of_queue, kind_of, names_grow, names_of, nothing, of_get, of_receive, of_remove, of_send, of_set, of_stat, one_more, plan_by, plan_made, plan_on, queue_for, set_entry, set_plan}
use Rattle.xsi_calls.specs.declared.turn.NameTurn.TheVariants as turns
use Rattle.xsi_calls.proofs.HeldTurnLemmas.{turns_are_right}
use Rattle.page_locks.specs.declared.lock.LockKind.TheVariants.{Exclusive, Read}
use Rattle.queue_model.specs.declared.call.Call.TheVariants as calls
use Rattle.queue_records.specs.declared.record.Record.TheVariants as records
use Rattle.xsi_control.specs.declared.get_inquiry.Getting.TheVariants as gets
use Rattle.xsi_inquiry.specs.declared.sought.Sought.TheVariants as soughts
use Rattle.xsi_inquiry.specs.declared.write.Write.TheVariants.{Replace, Delete}
use Rattle.xsi_receive.specs.Asking as receives
use Rattle.xsi_receive.specs.declared.stage.Stage as receive_stages
use Rattle.xsi_receive.specs.declared.stage.Stage.TheVariants as receive
use Rattle.xsi_send.specs.Planning as sends
use Rattle.xsi_send.specs.declared.stage.Stage as send_stages
use Rattle.xsi_send.specs.declared.stage.Stage.TheVariants as send
use Rattle.xsi_send.specs.declared.type_place.TypePlace.TheVariants as places
use Rattle.xsi_control.specs.Asking as removes
use Rattle.xsi_control.specs.declared.stage.Stage as remove_stages
use Rattle.xsi_control.specs.declared.stage.Stage.TheVariants as remove
use Rattle.call_writes.specs.call_decisions.declared.any_inquiry.AnyInquiry.TheVariants as any
use Rattle.xsi_calls.specs.QuestionWords.{AnyInquiry, FollowsOf, asked_of, left_of, plan_of, Begins, Call, Caller, Counter, NameTurn, Ready, Wanted, name_turn, names_for}
use Rattle.xsi_calls.specs.QuestionLaws.{WriteUnderNames}
use Rattle.xsi_calls.specs.Questions.{KnowsItsKey, asks_more, changes, changes_by, is_ready}

-- ---- a plan that is not to do nothing changes something

abbrev Acts : Plan → Type 0
Acts p = p ≢ nothing → changes_by p ≡ true

acts_by : {I : Type 0} (plan : I → Plan) → ((x : I) → Acts (plan x)) → (o : Option I) → Acts (if_of plan nothing o)
acts_by plan law None some = absurd (some refl)
acts_by plan law (Some x) some = law x some

get_acts : (c : Caller) (a : GetArguments) (g : Getting) → Acts (get_plan c a g)
get_acts c a gets.AtKey some = absurd (some refl)
get_acts c a (gets.Found id) some = absurd (some refl)
get_acts c a gets.Absent some = absurd (some refl)
get_acts c a gets.AtCounter some = absurd (some refl)
get_acts c a (gets.Counted n) some = by (one_more n) some
  where
    by : (o : Option Counter) → Acts (plan_made c a n.next_id o)
    by None none = absurd (none refl)
    by (Some m) is = refl

send_acts : (pid : ℕ) (a : SendArguments) (stage : send_stages.Stage) → Acts (sends.plan_at pid a stage)
send_acts pid a (send.Seeking sought) some = absurd (some refl)
send_acts pid a (send.Refused errno) some = absurd (some refl)
send_acts pid a send.Full some = absurd (some refl)
send_acts pid a (send.AtType e) some = absurd (some refl)
send_acts pid a (send.AtNeighbour w) some = absurd (some refl)
send_acts pid a (send.Done e (places.Standing last)) some = refl
send_acts pid a (send.Done e (places.Between lower higher)) some = refl

receive_acts : (id : ℕ) (stage : receive_stages.Stage) → Acts (receives.plan_at id stage)
receive_acts id (receive.Seeking sought) some = absurd (some refl)
receive_acts id (receive.Refused errno) some = absurd (some refl)
receive_acts id receive.PutOff some = absurd (some refl)
receive_acts id (receive.AtType e mtype) some = absurd (some refl)
receive_acts id (receive.AtMessage e t serial) some = absurd (some refl)
receive_acts id (receive.AtTypeOf e m) some = absurd (some refl)
receive_acts id (receive.Taken r) some = refl

set_acts : (c : Caller) (a : SetArguments) (sought : Sought) → Acts (set_plan c a sought)
set_acts c a sought = by (nat_lt MAX_QBYTES a.qbytes)
  where
    on_entry : (r : Result QueueEntry Errno) → Acts (plan_by r)
    on_entry (Ok e) some = refl
    on_entry (Err errno) some = absurd (some refl)

    on : (sought : Sought) → Acts (plan_on c a sought)
    on (soughts.Found e) some = on_entry (set_entry c a e) some
    on (soughts.Refused errno) some = absurd (some refl)
    on soughts.Unread some = absurd (some refl)
    on soughts.Absent some = absurd (some refl)

    by : (b : Bool) → Acts (cond b nothing (plan_on c a sought))
    by true some = absurd (some refl)
    by false some = on sought some

remove_acts : (id : ℕ) (stage : remove_stages.Stage) → Acts (removes.plan_at id stage)
remove_acts id (remove.Seeking sought) some = absurd (some refl)
remove_acts id (remove.Refused errno) some = absurd (some refl)
remove_acts id (remove.Keyed key) some = absurd (some refl)
remove_acts id (remove.Counting key queue) some = absurd (some refl)
remove_acts id (remove.Removing r) some = by r.key
  where
    by : (key : Option ℕ) → changes_by (record {
      trials = [];
      slots = key_deletion key ∷ Some (Delete (key_of_queue id)) ∷ Some (Replace (records.Counter r.counter)) ∷ [];
    }) ≡ true
    by None = refl
    by (Some k) = refl

acts : (call : Call) (i : AnyInquiry) → Acts (plan_of call i)
acts (calls.Get a) any = acts_by (λ (i : GetInquiry). get_plan i.caller a i.getting)
    (λ i. get_acts i.caller a i.getting) (of_get any)
acts (calls.Send a) any = acts_by (λ (i : SendInquiry). sends.plan_at i.caller.pid a i.stage)
    (λ i. send_acts i.caller.pid a i.stage) (of_send any)
acts (calls.Receive a) any = acts_by (λ (i : ReceiveInquiry). receives.plan_at a.id i.stage)
    (λ i. receive_acts a.id i.stage) (of_receive any)
acts (calls.Stat id) any = acts_by (λ (i : StatInquiry). nothing) (λ i some. absurd (some refl)) (of_stat any)
acts (calls.Set a) any = acts_by (λ (i : SetInquiry). set_plan i.caller a i.sought)
    (λ i. set_acts i.caller a i.sought) (of_set any)
acts (calls.Remove id) any = acts_by (λ (i : RemoveInquiry). removes.plan_at id i.stage)
    (λ i. remove_acts id i.stage) (of_remove any)

-- where all is asked its names are there

is_ready_turn : (turn : NameTurn) → is_ready turn ≡ true → turn ≡ Ready
is_ready_turn turn ready = by turn ready
  where
    by : (t : NameTurn) → is_ready t ≡ true → t ≡ Ready
    by (turns.Take lock) is = absurd (true≢false (sym is))
    by turns.GiveBack is = absurd (true≢false (sym is))
    by turns.Ready is = refl

there : (asks does ready : Bool) → (not asks && (not does || ready)) ≡ true → does ≡ true → ready ≡ true
there false true true all is = refl
there true does ready all is = absurd (true≢false (sym all))
there false true false all is = absurd (true≢false (sym all))
there false false ready all is = absurd (true≢false (sym is))

pub held_names : WriteUnderNames
held_names call v asked some =
    let goal = names_for call v.inquiry in
    let same = (turns_are_right v.names goal).ready.0 (is_ready_turn (name_turn v.names goal)
    (there (asks_more call v.inquiry) (changes call v.inquiry) (is_ready (name_turn v.names goal)) asked
    (acts call v.inquiry some))) in
    record {
      names = same;
      exclusive = λ name within. subst (λ (ls : List Lock). kind_of ls name ≡ Some Exclusive) (sym same)
          (write_under_names call v.inquiry name within);
    }

-- ---- the names under which it does

changes_nothing : changes_by nothing ≡ true → ⊥
changes_nothing is = true≢false (sym is)

begins_itself : (locks : List Lock) → Begins locks locks
begins_itself locks = ([], sym (append-nil locks))

-- those of a call that has one name throughout
steady : {I : Type 0} (wanted : I → Option Wanted) (plan : I → Plan) (locks : List Lock) (o p : Option I) →
    if_of wanted None o ≢ None → changes_by (if_of plan nothing p) ≡ true →
    Begins (if_of (λ (x : I). locks) [] o) (if_of (λ (x : I). locks) [] p)
steady wanted plan locks None p asks does = absurd (asks refl)
steady wanted plan locks (Some x) None asks does = absurd (changes_nothing does)
steady wanted plan locks (Some x) (Some y) asks does = begins_itself locks

-- a Get that changes something inserts on trial
get_tries : (c : Caller) (a : GetArguments) (g : Getting) → changes_by (get_plan c a g) ≡ true →
    (get_plan c a g).trials ≢ []
get_tries c a gets.AtKey does = absurd (changes_nothing does)
get_tries c a (gets.Found id) does = absurd (changes_nothing does)
get_tries c a gets.Absent does = absurd (changes_nothing does)
get_tries c a gets.AtCounter does = absurd (changes_nothing does)
get_tries c a (gets.Counted n) does = by (one_more n) does
  where
    by : (o : Option Counter) → changes_by (plan_made c a n.next_id o) ≡ true →
        (plan_made c a n.next_id o).trials ≢ []
    by None is = absurd (changes_nothing is)
    by (Some m) is = λ none. cc

get_inserts : (a : GetArguments) (o : Option GetInquiry) →
    changes_by (if_of (λ (i : GetInquiry). get_plan i.caller a i.getting) nothing o) ≡ true →
    (if_of (λ (i : GetInquiry). get_plan i.caller a i.getting) nothing o).trials ≢ []
get_inserts a None does = absurd (changes_nothing does)
get_inserts a (Some i) does = get_tries i.caller a i.getting does

begun_by : (call : Call) (i j : AnyInquiry) →
    take (length (names_for call i)) (names_for call j) ≡ names_for call i →
    Begins (names_for call i) (names_for call j)
begun_by call i j begun =
    let n = length (names_for call i) in (
      drop n (names_for call j),
      sym (take-append-drop n (names_for call j)) ∙ ap (λ xs. xs ++ drop n (names_for call j)) begun,
    )

grown : (call : Call) (i j : AnyInquiry) → KeepsNames call → asked_of call i ≢ None → (plan_of call j).trials ≢ [] →
    left_of call j < left_of call i → Begins (names_for call i) (names_for call j)
grown call i j keeps asks tries fewer = begun_by call i j (names_grow call i j keeps (inl asks) (inr tries) fewer)

-- so do those of a call that asks on
asks_grow : (call : Call) (i j : AnyInquiry) → KeepsNames call → asked_of call i ≢ None → asks_more call j ≡ true →
    left_of call j < left_of call i → Begins (names_for call i) (names_for call j)
asks_grow call i j keeps asks more fewer = begun_by call i j
    (names_grow call i j keeps (inl asks) (inl (λ none. true≢false (sym more ∙ ap is_some none))) fewer)

-- ---- a Remove keeps the names of its second phase

keyed_names : (id : ℕ) (key k : Option ℕ) → k ≡ key →
    Begins (by_phase id (names_of id key)) (by_phase id (names_of id k))
keyed_names id key k same =
    subst (λ (x : Option ℕ). Begins (by_phase id (names_of id key)) (by_phase id (names_of id x))) (sym same)
    (begins_itself (by_phase id (names_of id key)))

remove_begins : (id : ℕ) (g h : remove_stages.Stage) → changes_by (removes.plan_at id h) ≡ true →
    removes.FollowsAt g h → Begins (by_phase id (removes.locked_at id g)) (by_phase id (removes.locked_at id h))
remove_begins id g (remove.Seeking sought) does follows = absurd (changes_nothing does)
remove_begins id g (remove.Refused errno) does follows = absurd (changes_nothing does)
remove_begins id g (remove.Keyed key) does follows = absurd (changes_nothing does)
remove_begins id g (remove.Counting key queue) does follows = absurd (changes_nothing does)
remove_begins id (remove.Seeking sought) (remove.Removing r) does follows = absurd follows
remove_begins id (remove.Refused errno) (remove.Removing r) does follows = absurd follows
remove_begins id (remove.Keyed key) (remove.Removing r) does follows = keyed_names id key r.key follows
remove_begins id (remove.Counting key queue) (remove.Removing r) does follows = keyed_names id key r.key follows
remove_begins id (remove.Removing q) (remove.Removing r) does follows = absurd follows

remove_begins_in : (id : ℕ) (o p : Option RemoveInquiry) →
    changes_by (if_of (λ (i : RemoveInquiry). removes.plan_at id i.stage) nothing p) ≡ true →
    IsOfKind (λ (i : RemoveInquiry). IsOfKind (λ (j : RemoveInquiry). removes.FollowsAt i.stage j.stage) p) o →
    Begins (if_of (λ (i : RemoveInquiry). by_phase id (removes.locked_at id i.stage)) [] o)
    (if_of (λ (i : RemoveInquiry). by_phase id (removes.locked_at id i.stage)) [] p)
remove_begins_in id None p does follows = absurd follows
remove_begins_in id (Some i) None does follows = absurd follows
remove_begins_in id (Some i) (Some j) does follows = remove_begins id i.stage j.stage does follows

pub begins_on : (call : Call) (i j : AnyInquiry) → asked_of call i ≢ None → changes call j ≡ true →
    left_of call j < left_of call i → FollowsOf call i j → Begins (names_for call i) (names_for call j)
begins_on (calls.Get a) i j asks does fewer follows =
    grown (calls.Get a) i j tt asks (get_inserts a (of_get j) does) fewer
begins_on (calls.Send a) i j asks does fewer follows =
    steady _ (λ (x : SendInquiry). sends.plan_at x.caller.pid a x.stage) (queue_for a.id Exclusive) (of_send i)
    (of_send j) asks does
begins_on (calls.Receive a) i j asks does fewer follows =
    steady _ (λ (x : ReceiveInquiry). receives.plan_at a.id x.stage) (queue_for a.id Exclusive) (of_receive i)
    (of_receive j) asks does
begins_on (calls.Stat id) i j asks does fewer follows =
    steady _ (λ (x : StatInquiry). nothing) (queue_for id Read) (of_stat i) (of_stat j) asks does
begins_on (calls.Set a) i j asks does fewer follows =
    steady _ (λ (x : SetInquiry). set_plan x.caller a x.sought) (queue_for a.id Exclusive) (of_set i) (of_set j) asks
    does
begins_on (calls.Remove id) i j asks does fewer follows =
    remove_begins_in id (of_remove i) (of_remove j) does follows

-- ---- or is between its phases

asks_not : {P : Type 0} → false ≡ true → P
asks_not is = absurd (true≢false (sym is))

abbrev IsAtKey : remove_stages.Stage → Type 0
IsAtKey stage = (key : Option ℕ) × (stage ≡ remove.Keyed key)

remove_grows : (id : ℕ) (g h : remove_stages.Stage) → is_some (removes.asked id h) ≡ true → removes.FollowsAt g h →
    Begins (by_phase id (removes.locked_at id g)) (by_phase id (removes.locked_at id h)) ⊎ IsAtKey h
remove_grows id g (remove.Refused errno) more follows = asks_not more
remove_grows id g (remove.Removing r) more follows = asks_not more
remove_grows id g (remove.Keyed key) more follows = inr (key, refl)
remove_grows id (remove.Seeking sought) (remove.Seeking then) more follows = inl (begins_itself (queue_for id Read))
remove_grows id (remove.Seeking sought) (remove.Counting key queue) more follows = absurd follows
remove_grows id (remove.Refused errno) (remove.Seeking then) more follows = absurd follows
remove_grows id (remove.Refused errno) (remove.Counting key queue) more follows = absurd follows
remove_grows id (remove.Keyed key) (remove.Seeking then) more follows = absurd follows
remove_grows id (remove.Keyed key) (remove.Counting k queue) more follows = inl (keyed_names id key k follows)
remove_grows id (remove.Counting key queue) (remove.Seeking then) more follows = absurd follows
remove_grows id (remove.Counting key queue) (remove.Counting k q) more follows = inl (keyed_names id key k follows)
remove_grows id (remove.Removing r) (remove.Seeking then) more follows = absurd follows
remove_grows id (remove.Removing r) (remove.Counting key queue) more follows = absurd follows

remove_grows_in : (id : ℕ) (i j : AnyInquiry) → asks_more (calls.Remove id) j ≡ true →
    FollowsOf (calls.Remove id) i j →
    Begins (names_for (calls.Remove id) i) (names_for (calls.Remove id) j) ⊎ KnowsItsKey (calls.Remove id) j
remove_grows_in id (any.Get i) j more follows = absurd follows
remove_grows_in id (any.Send i) j more follows = absurd follows
remove_grows_in id (any.Receive i) j more follows = absurd follows
remove_grows_in id (any.Stat i) j more follows = absurd follows
remove_grows_in id (any.Set i) j more follows = absurd follows
remove_grows_in id (any.Remove i) (any.Get j) more follows = absurd follows
remove_grows_in id (any.Remove i) (any.Send j) more follows = absurd follows
remove_grows_in id (any.Remove i) (any.Receive j) more follows = absurd follows
remove_grows_in id (any.Remove i) (any.Stat j) more follows = absurd follows
remove_grows_in id (any.Remove i) (any.Set j) more follows = absurd follows
remove_grows_in id (any.Remove i) (any.Remove j) more follows = elim (remove_grows id i.stage j.stage more follows) [
  | inl begins ↦ inl begins
  | inr at ↦ inr (record { id = id; key = at.0; is = refl; inquiry = j; asks = refl; stage = at.1 })
]

pub grows_on : (call : Call) (i j : AnyInquiry) → asked_of call i ≢ None → asks_more call j ≡ true →
    left_of call j < left_of call i → FollowsOf call i j →
    Begins (names_for call i) (names_for call j) ⊎ KnowsItsKey call j
grows_on (calls.Get a) i j asks more fewer follows = inl (asks_grow (calls.Get a) i j tt asks more fewer)
grows_on (calls.Send a) i j asks more fewer follows = inl (asks_grow (calls.Send a) i j tt asks more fewer)
grows_on (calls.Receive a) i j asks more fewer follows = inl (asks_grow (calls.Receive a) i j tt asks more fewer)
grows_on (calls.Stat id) i j asks more fewer follows = inl (asks_grow (calls.Stat id) i j tt asks more fewer)
grows_on (calls.Set a) i j asks more fewer follows = inl (asks_grow (calls.Set a) i j tt asks more fewer)
grows_on (calls.Remove id) i j asks more fewer follows = remove_grows_in id i j more follows
