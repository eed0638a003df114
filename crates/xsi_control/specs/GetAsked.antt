-- What a Get asks for is under its key's name or the Counter's, and it writes little.
use Rattle.std.proofs.Common.{inl, inr, ◌≡◌, Ok, ℕ, ◌≤◌, Bool, List, [], ◌∷◌, length, Option, Some, None, refl, sym, ap, ◌∙◌, arith}
use Rattle.std.proofs.lemmas.List.Elements.{All-cons, All-nil}
use Rattle.std.specs.Prelude.{option_map}
use Rattle.std.specs.List.{find}
use Rattle.queue_model.specs.Rules.{has_key}
use Rattle.queue_records.specs.declared.record.Record.TheVariants as records
use Rattle.xsi_inquiry.specs.declared.wanted.Wanted.TheVariants.{At}
use Rattle.xsi_inquiry.specs.declared.write.TheConstants.{MAX_TRIALS}
use Rattle.xsi_inquiry.specs.Agreeing.{AgreeOnKey, AgreesFor, IsCovered}
use Rattle.xsi_inquiry.specs.Deciding.{InsertsOnlyFor}
use Rattle.xsi_inquiry.specs.Writing.{KeepsAll}
use Rattle.xsi_inquiry.proofs.AskLemmas.{at_counter, at_none, at_one, given_none}
use Rattle.xsi_inquiry.proofs.DecisionLemmas.{small_none}
use Rattle.xsi_control.specs.declared.get_inquiry.Getting.{Getting}
use Rattle.xsi_control.specs.declared.get_inquiry.Getting.TheVariants.{AtKey, Found, Absent, AtCounter, Counted}
use Rattle.xsi_control.specs.Getting.{decided_made, get_decided, get_plan, get_wanted, key_made, key_wanted, one_more, plan_made}
use Rattle.xsi_control.specs.Words.{LockName, Get, GetArguments, Caller, Queue, new_queue, State, Counter, Record, key_of_key, counter_key, key_entry, queue_entry, IsTold, IsToldGiven, IsSmall}

-- the Key of a queue says its id alone
abbrev key_record : ℕ → ℕ → Record
key_record key id = records.Key (record { key = key; id = id })

entry_by : (key : ℕ) (found : Option Queue) → option_map (λ (q : Queue). records.Key (key_entry key q)) found
    ≡ option_map (key_record key) (option_map (λ (q : Queue). q.id) found)
entry_by key None = refl
entry_by key (Some q) = refl

key_asks : (key : Option ℕ) (s t : State) (found : Option Record) → AgreeOnKey key s t →
    IsTold s (key_wanted key) found → IsTold t (key_wanted key) found
key_asks None s t found agrees told = at_none t found
key_asks (Some key) s t found agrees told = at_one (key_of_key key) s t found
    (entry_by key (find (has_key key) s.queues) ∙ ap (option_map (key_record key)) agrees
    ∙ sym (entry_by key (find (has_key key) t.queues))) told

pub get_asks : (a : GetArguments) (getting : Getting) (names : List LockName) (s t : State) (found : Option Record) →
    IsCovered names (get_wanted a getting) → AgreesFor (Get a) names s t →
    IsTold s (get_wanted a getting) found → IsTold t (get_wanted a getting) found
get_asks a AtKey names s t found covered agrees told = key_asks a.key s t found agrees.asked told
get_asks a (Found id) names s t found covered agrees told = at_none t found
get_asks a Absent names s t found covered agrees told = at_none t found
get_asks a AtCounter names s t found covered agrees told = at_counter s t found (agrees.counter (covered refl)) told
get_asks a (Counted n) names s t found covered agrees told = at_none t found

never_given : (key : Option ℕ) (t : State) (given : Bool) → IsToldGiven t (key_wanted key) given
never_given None t given id is = absurd cc
never_given (Some key) t given id is = absurd cc

never_given_at : (t : State) (given : Bool) → IsToldGiven t (Some (At counter_key)) given
never_given_at t given id is = absurd cc

pub get_asks_given : (a : GetArguments) (getting : Getting) (s t : State) (given : Bool) →
    IsToldGiven s (get_wanted a getting) given → IsToldGiven t (get_wanted a getting) given
get_asks_given a AtKey s t given told = never_given a.key t given
get_asks_given a (Found id) s t given told = given_none t given
get_asks_given a Absent s t given told = given_none t given
get_asks_given a AtCounter s t given told = never_given_at t given
get_asks_given a (Counted n) s t given told = given_none t given

few_trials : (c : Caller) (a : GetArguments) (id : ℕ) (key : Option ℕ) →
    length (records.Queue (queue_entry (new_queue id c a)) ∷ key_made id key) ≤ MAX_TRIALS
few_trials c a id None = omega arith
few_trials c a id (Some key) = omega arith

few_made : (c : Caller) (a : GetArguments) (id : ℕ) (n : Option Counter) → IsSmall (plan_made c a id n)
few_made c a id None = small_none
few_made c a id (Some n) = record { trials = few_trials c a id a.key; slots = omega arith }

pub few_of_get : (c : Caller) (a : GetArguments) (getting : Getting) → IsSmall (get_plan c a getting)
few_of_get c a AtKey = small_none
few_of_get c a (Found id) = small_none
few_of_get c a Absent = small_none
few_of_get c a AtCounter = small_none
few_of_get c a (Counted n) = few_made c a n.next_id (one_more n)

-- a queue that is made is inserted
made_inserts : (c : Caller) (a : GetArguments) (id : ℕ) (n : Option Counter) →
    InsertsOnlyFor (Ok (decided_made id n)) (plan_made c a id n)
made_inserts c a id None = inl refl
made_inserts c a id (Some n) = inr (tt, All-cons KeepsAll _ [] tt (All-nil KeepsAll))

pub get_inserts : (c : Caller) (a : GetArguments) (getting : Getting) →
    InsertsOnlyFor (get_decided a getting) (get_plan c a getting)
get_inserts c a AtKey = inl refl
get_inserts c a (Found id) = inl refl
get_inserts c a Absent = inl refl
get_inserts c a AtCounter = inl refl
get_inserts c a (Counted n) = made_inserts c a n.next_id (one_more n)
