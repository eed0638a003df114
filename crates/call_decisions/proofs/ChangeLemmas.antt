-- A call that changes a system writes under the name of the one queue that it changes.
use Rattle.std.proofs.Common.{◌≡◌, ◌⊎◌, inl, inr, ℕ, ◌+◌, Bool, true, false, List, [], ◌∷◌, ◌++◌, length, Option, Some, None, refl, sym, ap, ◌∙◌, subst, arith}
use Rattle.std.specs.Prelude.{◌==◌, ◌||◌, ◌&&◌, nat_lt, IsSome, if◌then◌else◌}
use Rattle.std.specs.List.{Contains}
use Rattle.std.proofs.lemmas.Bool.Decides.{nat_tests}
use Rattle.call_decisions.proofs.Names.{AnyInquiry, Counter, END_OF_IDS, Effect-outcome, Errno, GetArguments, Getting, IsFiled, IsOfKind, KnowsAt, KnowsOf, KnowsOfGet, MAX_QUEUES, Outcome, Roomful, Stage, asked, asked_of, caller_of, counter_of, create, get_locked, get_wanted, if_of, key_names, key_wanted, locked_at, locked_of, made_names, making_names, new_queue, of_receive, of_send, of_set, one_more, queue_of, refuse, sought_next}
use Rattle.call_decisions.specs.declared.any_inquiry.AnyInquiry.TheVariants as any
use Rattle.page_locks.specs.declared.lock.LockName.TheVariants as names
use Rattle.queue_model.specs.declared.answer.Answer.TheVariants.{Id}
use Rattle.queue_model.specs.declared.call.Call.TheVariants.{Get, Send, Receive, Stat, Set, Remove}
use Rattle.queue_model.specs.declared.errno.Errno.TheVariants.{EEXIST, ENOENT, ENOSPC}
use Rattle.xsi_control.specs.declared.get_inquiry.Getting.TheVariants.{AtKey, Found, Absent, AtCounter, Counted}
use Rattle.xsi_control.specs.declared.stage.Stage.TheVariants.{Seeking, Refused, Keyed, Counting, Removing}
use Rattle.call_decisions.specs.Words.{Answer, Call, Caller, LockName, State, outcome}
use Rattle.call_decisions.proofs.HoldLemmas.{has_queue}

-- nothing has changed, or the names have this one
abbrev pub UnderName : State → State → List LockName → LockName → Type 0
UnderName s t held name = (t ≡ s) ⊎ Contains held name

abbrev state_in : State → Outcome → State
state_in s None = s
state_in s (Some o) = o.1

-- a refusal leaves the system
refused : (c : Caller) (call : Call) (e : Errno) (a : Answer) (s t : State) → outcome c call s ≡ Some (a, t) →
    outcome c call s ≡ refuse e s → t ≡ s
refused c call e a s t at is = ap (state_in s) (sym at ∙ is)

one_name : (name : LockName) → Contains (name ∷ []) name
one_name name = (0, omega arith, refl)

-- ---- Get

found_leaves : (b : Bool) (id : ℕ) (a : Answer) (s t : State) →
    ◌≡◌ {A = Outcome} (Some (a, t)) (if b then refuse EEXIST s else Some (Id id, s)) → t ≡ s
found_leaves true id a s t is = ap (state_in s) is
found_leaves false id a s t is = ap (state_in s) is

key_asked : (key : Option ℕ) → IsSome key → key_wanted key ≡ None → ⊥
key_asked None has none = absurd cc
key_asked (Some key) has none = absurd cc

made_has : (key : Option ℕ) (n : ℕ) (m : Counter) →
    Contains (key_names key ++ (names.Counter ∷ made_names n (Some m))) (names.Queue n)
made_has None n m = (1, omega arith, refl)
made_has (Some key) n m = (2, omega arith, refl)

abbrev has_place : State → Bool
has_place s = nat_lt (length s.queues) MAX_QUEUES && nat_lt s.next_id END_OF_IDS

counted_has : (key : Option ℕ) (s : State) → has_place s ≡ true →
    Contains (key_names key ++ (names.Counter ∷ made_names s.next_id (one_more (counter_of s)))) (names.Queue s.next_id)
counted_has key s place =
    rw place (made_has key s.next_id (record { next_id = s.next_id + 1; queues_alive = length s.queues + 1 }))

counted : (c : Caller) (a : GetArguments) (s t : State) (answer : Answer) → IsFiled s →
    create c a s ≡ Some (answer, t) →
    UnderName s t (key_names a.key ++ making_names (Counted (counter_of s))) (names.Queue s.next_id)
counted c a s t answer filed made = by (length s.queues == MAX_QUEUES || s.next_id == END_OF_IDS) refl made
  where
    by : (b : Bool) → (length s.queues == MAX_QUEUES || s.next_id == END_OF_IDS) ≡ b →
        (if b then refuse ENOSPC s else Some (
          Id s.next_id,
          record s { queues = s.queues ++ new_queue s.next_id c a ∷ []; next_id = s.next_id + 1 },
        )) ≡ Some (answer, t) →
        UnderName s t (key_names a.key ++ making_names (Counted (counter_of s))) (names.Queue s.next_id)
    by true full made = inl (ap (state_in s) (sym made))
    by false room made =
        let few = filed.lawful.few_queues in
        let ids = filed.lawful.ids_end in
        let place : has_place s ≡ true = grind (arith, nat_tests, room, few, ids) in
        inr (counted_has a.key s place)

get_under : (c : Caller) (a : GetArguments) (g : Getting) (s t : State) (answer : Answer) → IsFiled s →
    KnowsOfGet c a g s → get_wanted a g ≡ None → outcome c (Get a) s ≡ Some (answer, t) →
    UnderName s t (get_locked a g) (names.Queue s.next_id)
get_under c a AtKey s t answer filed knows none at = absurd (key_asked a.key knows none)
get_under c a (Found id) s t answer filed knows none at =
    inl (found_leaves (a.create && a.excl) id answer s t (sym at ∙ knows))
get_under c a Absent s t answer filed knows none at = inl (refused c (Get a) ENOENT answer s t at knows)
get_under c a AtCounter s t answer filed knows none at = absurd cc
get_under c a (Counted n) s t answer filed knows none at =
    subst (λ (m : Counter). UnderName s t (key_names a.key ++ making_names (Counted m)) (names.Queue s.next_id))
    (sym knows.1) (counted c a s t answer filed (sym knows.0.outcome ∙ at))

get_changes : (a : GetArguments) (i : AnyInquiry) (room : Roomful) (s t : State) (answer : Answer) → IsFiled s →
    KnowsOf (Get a) i room s → asked_of (Get a) i ≡ None → outcome (caller_of i) (Get a) s ≡ Some (answer, t) →
    UnderName s t (locked_of (Get a) i) (names.Queue s.next_id)
get_changes a (any.Get i) room s t answer filed knows none at =
    get_under i.caller a i.getting s t answer filed knows none at
get_changes a (any.Send i) room s t answer filed knows none at = absurd knows
get_changes a (any.Receive i) room s t answer filed knows none at = absurd knows
get_changes a (any.Stat i) room s t answer filed knows none at = absurd knows
get_changes a (any.Set i) room s t answer filed knows none at = absurd knows
get_changes a (any.Remove i) room s t answer filed knows none at = absurd knows

-- ---- Remove

is_some_none : {X : Type 0} (o : Option X) → IsSome o → o ≡ None → ⊥
is_some_none None has none = absurd cc
is_some_none (Some x) has none = absurd cc

remove_under : (c : Caller) (id : ℕ) (stage : Stage) (s t : State) (answer : Answer) → KnowsAt c id stage s →
    asked id stage ≡ None → outcome c (Remove id) s ≡ Some (answer, t) →
    UnderName s t (locked_at id stage) (names.Queue id)
remove_under c id (Seeking sought) s t answer knows none at = absurd (is_some_none (sought_next id sought) knows.1 none)
remove_under c id (Refused e) s t answer knows none at = inl (refused c (Remove id) e answer s t at knows)
remove_under c id (Keyed key) s t answer knows none at = absurd cc
remove_under c id (Counting key queue) s t answer knows none at = absurd cc
remove_under c id (Removing r) s t answer knows none at = inr (has_queue id r.key)

remove_changes : (id : ℕ) (i : AnyInquiry) (room : Roomful) (s t : State) (answer : Answer) →
    KnowsOf (Remove id) i room s → asked_of (Remove id) i ≡ None →
    outcome (caller_of i) (Remove id) s ≡ Some (answer, t) →
    UnderName s t (locked_of (Remove id) i) (names.Queue id)
remove_changes id (any.Remove i) room s t answer knows none at =
    remove_under i.caller id i.stage s t answer knows none at
remove_changes id (any.Get i) room s t answer knows none at = absurd knows
remove_changes id (any.Send i) room s t answer knows none at = absurd knows
remove_changes id (any.Receive i) room s t answer knows none at = absurd knows
remove_changes id (any.Stat i) room s t answer knows none at = absurd knows
remove_changes id (any.Set i) room s t answer knows none at = absurd knows

-- ---- any call

-- the call of a kind has the name of its queue
of_kind : {I : Type 0} (IsSo : I → Type 0) (name : LockName) (o : Option I) → IsOfKind IsSo o →
    Contains (if_of (λ (i : I). name ∷ []) [] o) name
of_kind IsSo name None is = absurd is
of_kind IsSo name (Some i) is = one_name name

pub changes_under : (call : Call) (i : AnyInquiry) (room : Roomful) (s : State) (answer : Answer) (t : State) →
    IsFiled s → KnowsOf call i room s → asked_of call i ≡ None → outcome (caller_of i) call s ≡ Some (answer, t) →
    UnderName s t (locked_of call i) (names.Queue (queue_of call s))
changes_under (Get a) i room s answer t filed knows none at = get_changes a i room s t answer filed knows none at
changes_under (Send a) i room s answer t filed knows none at = inr (of_kind _ (names.Queue a.id) (of_send i) knows)
changes_under (Receive a) i room s answer t filed knows none at =
    inr (of_kind _ (names.Queue a.id) (of_receive i) knows)
changes_under (Stat id) i room s answer t filed knows none at =
    inl (Effect-outcome (caller_of i) (Stat id) answer s t at)
changes_under (Set a) i room s answer t filed knows none at = inr (of_kind _ (names.Queue a.id) (of_set i) knows)
changes_under (Remove id) i room s answer t filed knows none at = remove_changes id i room s t answer knows none at
