-- The names that a call takes by what it was told are those that its system has.
use Rattle.std.proofs.Common.{◌≡◌, ◌⊎◌, refl, sym, ap, ◌∙◌, subst, ℕ, inl, inr, List, [], ◌∷◌, ◌++◌, map, Option, Some, None, Err}
use Rattle.std.specs.List.{AllByRecursion, find}
use Rattle.call_writes.specs.call_decisions.Anything.{FollowsOf, KnowsOf, asked_of, of_get, of_remove}
use Rattle.page_locks.specs.declared.lock.LockName.TheVariants as names
use Rattle.queue_model.specs.declared.call.Call.TheVariants as calls
use Rattle.queue_model.specs.declared.queue.Queue.{Queue}
use Rattle.queue_model.specs.Rules.{has_id}
use Rattle.xsi_control.specs.Asking as removes
use Rattle.xsi_control.specs.Getting.{KnowsOfGet, get_locked, get_wanted, key_names, made_names, making_names, one_more}
use Rattle.xsi_control.specs.Knowing as remove_knowing
use Rattle.xsi_control.specs.declared.get_inquiry.Getting.TheVariants as gets
use Rattle.xsi_control.specs.declared.stage.Stage.{Stage}
use Rattle.xsi_control.specs.declared.stage.Stage.TheVariants as stages
use Rattle.xsi_calls.proofs.OrderLemmas.{begin_all}
use Rattle.xsi_calls.proofs.QuestionNames.{GetArguments, GetInquiry, Getting, IsOfKind, Lock, RemoveInquiry, by_phase, exclusively, if_of, names_of}
use Rattle.xsi_calls.specs.QuestionWords.{AnyInquiry, Begins, Call, Caller, Counter, LockName, Roomful, State, Wanted, names_for}
use Rattle.xsi_calls.specs.ToldNames.{AreNamesIn, AreTold, IsIdAt, IsKeyAt, IsKeyOf, IsNameIn, IsRefused, IsToldName, IsToldToGet, IsToldToRemove, OfKey, OfQueue}

-- ---- of a Get

-- a key's name, and the Counter's, tell nothing
key_free : (o : Option GetInquiry) (key : ℕ) → IsToldToGet o (names.Key key)
key_free None key = tt
key_free (Some i) key = tt

counter_free : (o : Option GetInquiry) → IsToldToGet o names.Counter
counter_free None = tt
counter_free (Some i) = tt

abbrev AllToldToGet : Option GetInquiry → List LockName → Type 0
AllToldToGet o ns = AllByRecursion (λ (l : Lock). IsToldToGet o l.name) (map exclusively ns)

behind_key : (o : Option GetInquiry) (key : Option ℕ) (ns : List LockName) → AllToldToGet o ns →
    AllToldToGet o (key_names key ++ ns)
behind_key o None ns told = told
behind_key o (Some key) ns told = (key_free o key, told)

-- the queue that is made has the id that the Counter told
making_told : (g : Getting) →
    AllByRecursion (λ (l : Lock). OfQueue (IsIdAt g) l.name) (map exclusively (making_names g))
making_told gets.AtKey = tt
making_told (gets.Found id) = tt
making_told gets.Absent = tt
making_told gets.AtCounter = (tt, tt)
making_told (gets.Counted n) = (tt, by (one_more n))
  where
    by : (m : Option Counter) →
        AllByRecursion (λ (l : Lock). OfQueue (IsIdAt (gets.Counted n)) l.name)
        (map exclusively (made_names n.next_id m))
    by None = tt
    by (Some m) = (refl, tt)

get_told : (a : GetArguments) (o : Option GetInquiry) → AllByRecursion (λ (l : Lock). IsToldToGet o l.name)
    (if_of (λ (i : GetInquiry). map exclusively (get_locked a i.getting)) [] o)
get_told a None = tt
get_told a (Some i) = behind_key (Some i) a.key (making_names i.getting) (making_told i.getting)

-- while it asks it has no queue's name, wherever it is led
get_asks : (a : GetArguments) (o p : Option GetInquiry) (wanted : Wanted) →
    if_of (λ (i : GetInquiry). get_wanted a i.getting) None o ≡ Some wanted →
    AllByRecursion (λ (l : Lock). IsToldToGet p l.name)
    (if_of (λ (i : GetInquiry). map exclusively (get_locked a i.getting)) [] o)
get_asks a None p wanted asked = tt
get_asks a (Some i) p wanted asked = behind_key p a.key (making_names i.getting) (by i.getting asked)
  where
    by : (g : Getting) → get_wanted a g ≡ Some wanted → AllToldToGet p (making_names g)
    by gets.AtKey asked = tt
    by (gets.Found id) asked = absurd cc
    by gets.Absent asked = absurd cc
    by gets.AtCounter asked = (counter_free p, tt)
    by (gets.Counted n) asked = absurd cc

-- ---- of a Remove

keyed : (id : ℕ) (IsSo : ℕ → Type 0) (key : Option ℕ) → ((k : ℕ) → key ≡ Some k → IsSo k) →
    AllByRecursion (λ (l : Lock). OfKey IsSo l.name) (by_phase id (names_of id key))
keyed id IsSo None is = (tt, (tt, tt))
keyed id IsSo (Some k) is = (is k refl, (tt, (tt, tt)))

remove_told : (id : ℕ) (o : Option RemoveInquiry) → AllByRecursion (λ (l : Lock). IsToldToRemove o l.name)
    (if_of (λ (i : RemoveInquiry). by_phase id (removes.locked_at id i.stage)) [] o)
remove_told id None = tt
remove_told id (Some i) = by i.stage
  where
    by : (g : Stage) → AllByRecursion (λ (l : Lock). OfKey (IsKeyAt g) l.name) (by_phase id (removes.locked_at id g))
    by (stages.Seeking sought) = (tt, tt)
    by (stages.Refused errno) = (tt, tt)
    by (stages.Keyed key) = keyed id (IsKeyAt (stages.Keyed key)) key (λ k is. is)
    by (stages.Counting key queue) = keyed id (IsKeyAt (stages.Counting key queue)) key (λ k is. is)
    by (stages.Removing r) = keyed id (IsKeyAt (stages.Removing r)) r.key (λ k is. is)

-- the second phase keeps the key
same_key : (key : Option ℕ) (h : Stage) → removes.IsOfSecond key h → (k : ℕ) → key ≡ Some k → IsKeyAt h k
same_key key (stages.Seeking sought) second k is = absurd second
same_key key (stages.Refused errno) second k is = tt
same_key key (stages.Keyed other) second k is = absurd second
same_key key (stages.Counting other queue) second k is = second ∙ is
same_key key (stages.Removing r) second k is = second ∙ is

remove_asks : (id : ℕ) (o p : Option RemoveInquiry) →
    IsOfKind (λ (i : RemoveInquiry). IsOfKind (λ (j : RemoveInquiry). removes.FollowsAt i.stage j.stage) p) o →
    AllByRecursion (λ (l : Lock). IsToldToRemove p l.name)
    (if_of (λ (i : RemoveInquiry). by_phase id (removes.locked_at id i.stage)) [] o)
remove_asks id None p follows = absurd follows
remove_asks id (Some i) None follows = absurd follows
remove_asks id (Some i) (Some j) follows = by i.stage follows
  where
    by : (g : Stage) → removes.FollowsAt g j.stage →
        AllByRecursion (λ (l : Lock). OfKey (IsKeyAt j.stage) l.name) (by_phase id (removes.locked_at id g))
    by (stages.Seeking sought) follows = (tt, tt)
    by (stages.Refused errno) follows = absurd follows
    by (stages.Keyed key) follows = keyed id (IsKeyAt j.stage) key (same_key key j.stage follows)
    by (stages.Counting key queue) follows = keyed id (IsKeyAt j.stage) key (same_key key j.stage follows)
    by (stages.Removing r) follows = absurd follows

-- ---- of any call

free : (P : LockName → Type 0) → ((name : LockName) → P name) → (held : List Lock) →
    AllByRecursion (λ (l : Lock). P l.name) held
free P each [] = tt
free P each (l ∷ ls) = (each l.name, free P each ls)

-- all that it needs
pub all_told : (call : Call) (i : AnyInquiry) → AreTold call i (names_for call i)
all_told (calls.Get a) i = get_told a (of_get i)
all_told (calls.Send a) i = free (IsToldName (calls.Send a) i) (λ name. tt) (names_for (calls.Send a) i)
all_told (calls.Receive a) i = free (IsToldName (calls.Receive a) i) (λ name. tt) (names_for (calls.Receive a) i)
all_told (calls.Stat id) i = free (IsToldName (calls.Stat id) i) (λ name. tt) (names_for (calls.Stat id) i)
all_told (calls.Set a) i = free (IsToldName (calls.Set a) i) (λ name. tt) (names_for (calls.Set a) i)
all_told (calls.Remove id) i = remove_told id (of_remove i)

-- those that begin others
pub told_first : (call : Call) (i : AnyInquiry) (xs ys : List Lock) → AreTold call i (xs ++ ys) → AreTold call i xs
told_first call i xs ys told = begin_all (λ (l : Lock). IsToldName call i l.name) xs ys told

-- those that begin what it needs
pub told_begun : (call : Call) (i : AnyInquiry) (held : List Lock) → Begins held (names_for call i) →
    AreTold call i held
told_begun call i held begins =
    told_first call i held begins.0 (subst (AreTold call i) begins.1 (all_told call i))

-- under all that it needs it was told an answer, and has come to another place
pub told_on : (call : Call) (i j : AnyInquiry) (wanted : Wanted) → asked_of call i ≡ Some wanted →
    FollowsOf call i j → AreTold call j (names_for call i)
told_on (calls.Get a) i j wanted asked follows = get_asks a (of_get i) (of_get j) wanted asked
told_on (calls.Send a) i j wanted asked follows =
    free (IsToldName (calls.Send a) j) (λ name. tt) (names_for (calls.Send a) i)
told_on (calls.Receive a) i j wanted asked follows =
    free (IsToldName (calls.Receive a) j) (λ name. tt) (names_for (calls.Receive a) i)
told_on (calls.Stat id) i j wanted asked follows =
    free (IsToldName (calls.Stat id) j) (λ name. tt) (names_for (calls.Stat id) i)
told_on (calls.Set a) i j wanted asked follows =
    free (IsToldName (calls.Set a) j) (λ name. tt) (names_for (calls.Set a) i)
told_on (calls.Remove id) i j wanted asked follows = remove_asks id (of_remove i) (of_remove j) follows

-- ---- over a system of which it knows what it was told

each : (P Q : LockName → Type 0) → ((name : LockName) → P name → Q name) → (held : List Lock) →
    AllByRecursion (λ (l : Lock). P l.name) held → AllByRecursion (λ (l : Lock). Q l.name) held
each P Q by [] all = tt
each P Q by (l ∷ ls) all = (by l.name all.0, each P Q by ls all.1)

next_id : (c : Caller) (a : GetArguments) (s : State) (g : Getting) → KnowsOfGet c a g s → (id : ℕ) → IsIdAt g id →
    id ≡ s.next_id
next_id c a s gets.AtKey knows id told = absurd told
next_id c a s (gets.Found other) knows id told = absurd told
next_id c a s gets.Absent knows id told = absurd told
next_id c a s gets.AtCounter knows id told = absurd told
next_id c a s (gets.Counted n) knows id told = sym told ∙ ap (λ (m : Counter). m.next_id) knows.1

get_in : (a : GetArguments) (s : State) (o : Option GetInquiry) →
    IsOfKind (λ (i : GetInquiry). KnowsOfGet i.caller a i.getting s) o → (name : LockName) → IsToldToGet o name →
    OfQueue (λ (id : ℕ). id ≡ s.next_id) name
get_in a s None knows name told = absurd knows
get_in a s (Some i) knows (names.Queue id) told = next_id i.caller a s i.getting knows id told
get_in a s (Some i) knows (names.Key key) told = tt
get_in a s (Some i) knows names.Counter told = tt
get_in a s (Some i) knows names.Directory told = tt
get_in a s (Some i) knows (names.Page page) told = tt

its_key : (c : Caller) (id : ℕ) (s : State) (g : Stage) → remove_knowing.KnowsAt c id g s → (key : ℕ) → IsKeyAt g key →
    IsKeyOf id s key ⊎ IsRefused (removes.decided_at id g)
its_key c id s (stages.Seeking sought) knows key told = absurd told
its_key c id s (stages.Refused errno) knows key told = inr (errno, refl)
its_key c id s (stages.Keyed k) knows key told = inl (λ q found. knows.keeps q found ∙ told)
its_key c id s (stages.Counting k queue) knows key told = inl (λ q found. knows.keyed.keeps q found ∙ told)
its_key c id s (stages.Removing r) knows key told = inl (λ q found.
    let alive : find (has_id id) s.queues ≡ Some knows.queue = knows.alive in
    let same : q ≡ knows.queue = cc in
    ap (λ (x : Queue). x.key) same ∙ sym knows.key ∙ told)

remove_in : (id : ℕ) (s : State) (o : Option RemoveInquiry) →
    IsOfKind (λ (i : RemoveInquiry). remove_knowing.KnowsAt i.caller id i.stage s) o → (name : LockName) →
    IsToldToRemove o name →
    OfKey (λ (key : ℕ). IsKeyOf id s key
    ⊎ IsRefused (if_of (λ (i : RemoveInquiry). removes.decided_at id i.stage) (Err (record {})) o)) name
remove_in id s None knows name told = absurd knows
remove_in id s (Some i) knows (names.Key key) told = its_key i.caller id s i.stage knows key told
remove_in id s (Some i) knows (names.Queue other) told = tt
remove_in id s (Some i) knows names.Counter told = tt
remove_in id s (Some i) knows names.Directory told = tt
remove_in id s (Some i) knows (names.Page page) told = tt

pub told_names_in : (call : Call) (i : AnyInquiry) (room : Roomful) (s : State) (held : List Lock) →
    KnowsOf call i room s → AreTold call i held → AreNamesIn call i s held
told_names_in (calls.Get a) i room s held knows told =
    each (IsToldName (calls.Get a) i) (IsNameIn (calls.Get a) i s) (get_in a s (of_get i) knows) held told
told_names_in (calls.Send a) i room s held knows told =
    free (IsNameIn (calls.Send a) i s) (λ name. tt) held
told_names_in (calls.Receive a) i room s held knows told =
    free (IsNameIn (calls.Receive a) i s) (λ name. tt) held
told_names_in (calls.Stat id) i room s held knows told =
    free (IsNameIn (calls.Stat id) i s) (λ name. tt) held
told_names_in (calls.Set a) i room s held knows told =
    free (IsNameIn (calls.Set a) i s) (λ name. tt) held
told_names_in (calls.Remove id) i room s held knows told =
    each (IsToldName (calls.Remove id) i) (IsNameIn (calls.Remove id) i s) (remove_in id s (of_remove i) knows) held
    told
