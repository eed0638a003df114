-- What a Set asks for is that of its own queue, and it writes little.
use Rattle.std.proofs.Common.{◌≡◌, inl, refl, Bool, true, false, cond, [], Option, None, arith}
use Rattle.std.specs.Prelude.{nat_lt, Result, Ok, Err}
use Rattle.xsi_inquiry.specs.declared.sought.Sought.{Sought}
use Rattle.xsi_inquiry.specs.declared.sought.Sought.TheVariants.{Unread, Absent, Found, Refused}
use Rattle.xsi_inquiry.specs.Agreeing.{AgreeOnId}
use Rattle.xsi_inquiry.specs.Deciding.{InsertsOnlyFor}
use Rattle.xsi_inquiry.proofs.DecisionLemmas.{small_none}
use Rattle.xsi_inquiry.proofs.AskLemmas.{at_none, given_asks, given_none, sought_asks, sought_given}
use Rattle.xsi_control.specs.Setting.{plan_by, plan_on, set_decided, set_entry, set_plan, set_wanted}
use Rattle.xsi_control.specs.Words.{SetArguments, Caller, Errno, MAX_QBYTES, State, QueueEntry, Record, sought_next, IsTold, IsToldGiven, IsSmall, nothing}

pub set_asks : (a : SetArguments) (sought : Sought) (s t : State) (found : Option Record) → AgreeOnId a.id s t →
    IsTold s (set_wanted a sought) found → IsTold t (set_wanted a sought) found
set_asks a sought s t found agrees told = by (nat_lt MAX_QBYTES a.qbytes) told
  where
    by : (b : Bool) → IsTold s (cond b None (sought_next a.id sought)) found →
        IsTold t (cond b None (sought_next a.id sought)) found
    by true told = at_none t found
    by false told = sought_asks a.id sought s t found agrees told

pub set_asks_given : (a : SetArguments) (sought : Sought) (s t : State) (given : Bool) → AgreeOnId a.id s t →
    IsToldGiven s (set_wanted a sought) given → IsToldGiven t (set_wanted a sought) given
set_asks_given a sought s t given agrees told = by (nat_lt MAX_QBYTES a.qbytes) told
  where
    by : (b : Bool) → IsToldGiven s (cond b None (sought_next a.id sought)) given →
        IsToldGiven t (cond b None (sought_next a.id sought)) given
    by true told = given_none t given
    by false told = given_asks (sought_next a.id sought) a.id s t given agrees (sought_given a.id sought) told

few_by : (entry : Result QueueEntry Errno) → IsSmall (plan_by entry)
few_by (Ok e) = record { trials = omega arith; slots = omega arith }
few_by (Err errno) = small_none

few_on : (c : Caller) (a : SetArguments) (sought : Sought) → IsSmall (plan_on c a sought)
few_on c a (Found e) = few_by (set_entry c a e)
few_on c a (Refused errno) = small_none
few_on c a Unread = small_none
few_on c a Absent = small_none

pub few_of_set : (c : Caller) (a : SetArguments) (sought : Sought) → IsSmall (set_plan c a sought)
few_of_set c a sought = by (nat_lt MAX_QBYTES a.qbytes)
  where
    by : (b : Bool) → IsSmall (cond b nothing (plan_on c a sought))
    by true = small_none
    by false = few_on c a sought

-- nothing is inserted
none_by : (entry : Result QueueEntry Errno) → (plan_by entry).trials ≡ []
none_by (Ok e) = refl
none_by (Err errno) = refl

none_on : (c : Caller) (a : SetArguments) (sought : Sought) → (plan_on c a sought).trials ≡ []
none_on c a (Found e) = none_by (set_entry c a e)
none_on c a (Refused errno) = refl
none_on c a Unread = refl
none_on c a Absent = refl

pub set_inserts : (c : Caller) (a : SetArguments) (sought : Sought) →
    InsertsOnlyFor (set_decided c a sought) (set_plan c a sought)
set_inserts c a sought = inl (by (nat_lt MAX_QBYTES a.qbytes))
  where
    by : (b : Bool) → (cond b nothing (plan_on c a sought)).trials ≡ []
    by true = refl
    by false = none_on c a sought
