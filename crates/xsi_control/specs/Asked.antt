-- What a Remove asks for is that of its own queue or the Counter, and it writes little.
use Rattle.std.proofs.Common.{◌≡◌, inl, ℕ, Bool, List, Option, Some, refl, arith}
use Rattle.page_locks.specs.declared.lock.LockName.{LockName}
use Rattle.queue_model.specs.declared.call.Call.TheVariants as calls
use Rattle.queue_model.specs.State.{State}
use Rattle.queue_records.specs.declared.record.Record.{Record}
use Rattle.xsi_inquiry.specs.declared.wanted.Wanted.TheVariants.{Given}
use Rattle.xsi_inquiry.specs.Agreeing.{AgreesFor, IsCovered}
use Rattle.xsi_inquiry.specs.Deciding.{InsertsOnlyFor}
use Rattle.xsi_inquiry.specs.Telling.{IsTold, IsToldGiven}
use Rattle.xsi_inquiry.specs.Writing.{IsSmall}
use Rattle.xsi_inquiry.proofs.DecisionLemmas.{small_none}
use Rattle.xsi_inquiry.proofs.AskLemmas.{at_counter, at_none, at_queue, given_asks, sought_asks, sought_given}
use Rattle.xsi_control.specs.declared.stage.Stage.{Stage}
use Rattle.xsi_control.specs.declared.stage.Stage.TheVariants.{Seeking, Refused, Keyed, Counting, Removing}
use Rattle.xsi_control.specs.Asking.{asked, decided_at, plan_at}

pub stage_asks : (id : ℕ) (stage : Stage) (names : List LockName) (s t : State) (found : Option Record) →
    IsCovered names (asked id stage) → AgreesFor (calls.Remove id) names s t →
    IsTold s (asked id stage) found → IsTold t (asked id stage) found
stage_asks id (Seeking sought) names s t found covered agrees told = sought_asks id sought s t found agrees.asked told
stage_asks id (Refused errno) names s t found covered agrees told = at_none t found
stage_asks id (Keyed key) names s t found covered agrees told =
    at_queue id s t found agrees.asked told
stage_asks id (Counting key queue) names s t found covered agrees told =
    at_counter s t found (agrees.counter (covered refl)) told
stage_asks id (Removing r) names s t found covered agrees told = at_none t found

given_of : (id : ℕ) (stage : Stage) (other : ℕ) → asked id stage ≡ Some (Given other) → id ≡ other
given_of id (Seeking sought) other is = sought_given id sought other is
given_of id (Refused errno) other is = absurd cc
given_of id (Keyed key) other is = absurd cc
given_of id (Counting key queue) other is = absurd cc
given_of id (Removing r) other is = absurd cc

pub given_at : (id : ℕ) (stage : Stage) (names : List LockName) (s t : State) (given : Bool) →
    AgreesFor (calls.Remove id) names s t → IsToldGiven s (asked id stage) given → IsToldGiven t (asked id stage) given
given_at id stage names s t given agrees told =
    given_asks (asked id stage) id s t given agrees.asked (given_of id stage) told

-- three writes, and nothing on trial
pub few_at : (id : ℕ) (stage : Stage) → IsSmall (plan_at id stage)
few_at id (Seeking sought) = small_none
few_at id (Refused errno) = small_none
few_at id (Keyed key) = small_none
few_at id (Counting key queue) = small_none
few_at id (Removing r) = record { trials = omega arith; slots = omega arith }

-- nothing is inserted
pub inserts_at : (id : ℕ) (stage : Stage) → InsertsOnlyFor (decided_at id stage) (plan_at id stage)
inserts_at id (Seeking sought) = inl refl
inserts_at id (Refused errno) = inl refl
inserts_at id (Keyed key) = inl refl
inserts_at id (Counting key queue) = inl refl
inserts_at id (Removing r) = inl refl
