-- What a Receive asks for is that of its own queue, and it writes little.
use Rattle.std.proofs.Common.{◌≡◌, inl, ℕ, Bool, Option, Some, refl, arith}
use Rattle.queue_model.specs.State.{State}
use Rattle.queue_records.specs.declared.record.Record.{Record}
use Rattle.queue_records.specs.Fields.{type_number}
use Rattle.queue_records.specs.Keys.{key_of_message}
use Rattle.xsi_inquiry.specs.declared.wanted.Wanted.TheVariants.{At, Given}
use Rattle.xsi_inquiry.specs.Agreeing.{AgreeOnId}
use Rattle.xsi_inquiry.specs.Deciding.{InsertsOnlyFor}
use Rattle.xsi_inquiry.specs.Telling.{IsTold, IsToldGiven}
use Rattle.xsi_inquiry.specs.Writing.{IsSmall}
use Rattle.xsi_inquiry.proofs.AgreeLemmas.{same_message_record, same_type_record}
use Rattle.xsi_inquiry.proofs.DecisionLemmas.{small_none}
use Rattle.xsi_inquiry.proofs.AskLemmas.{at_none, at_one, given_asks, sought_asks, sought_given}
use Rattle.xsi_receive.specs.Asking.{asked, decided_at, plan_at}
use Rattle.xsi_receive.specs.declared.stage.Stage.{Stage}
use Rattle.xsi_receive.specs.declared.stage.Stage.TheVariants.{Seeking, Refused, PutOff, AtType, AtMessage, AtTypeOf, Taken}

module _ (id : ℕ) (s t : State) (found : Option Record) (agrees : AgreeOnId id s t) where
  at_type : (number : ℕ) → IsTold s (Some (At (record { kind = 4; queue = id; number = number }))) found →
      IsTold t (Some (At (record { kind = 4; queue = id; number = number }))) found
  at_type number told = at_one _ s t found (same_type_record id s t agrees number) told

  at_message : (serial : ℕ) → IsTold s (Some (At (key_of_message id serial))) found →
      IsTold t (Some (At (key_of_message id serial))) found
  at_message serial told = at_one _ s t found (same_message_record id s t agrees serial) told

pub stage_asks : (id : ℕ) (stage : Stage) (s t : State) (found : Option Record) → AgreeOnId id s t →
    IsTold s (asked id stage) found → IsTold t (asked id stage) found
stage_asks id (Seeking sought) s t found agrees told = sought_asks id sought s t found agrees told
stage_asks id (Refused errno) s t found agrees told = at_none t found
stage_asks id PutOff s t found agrees told = at_none t found
stage_asks id (AtType e mtype) s t found agrees told = at_type id s t found agrees (type_number mtype) told
stage_asks id (AtMessage e entry serial) s t found agrees told = at_message id s t found agrees serial told
stage_asks id (AtTypeOf e m) s t found agrees told = at_type id s t found agrees (type_number m.mtype) told
stage_asks id (Taken r) s t found agrees told = at_none t found

given_of : (id : ℕ) (stage : Stage) (other : ℕ) → asked id stage ≡ Some (Given other) → id ≡ other
given_of id (Seeking sought) other is = sought_given id sought other is
given_of id (Refused errno) other is = absurd cc
given_of id PutOff other is = absurd cc
given_of id (AtType e mtype) other is = absurd cc
given_of id (AtMessage e entry serial) other is = absurd cc
given_of id (AtTypeOf e m) other is = absurd cc
given_of id (Taken r) other is = absurd cc

pub given_at : (id : ℕ) (stage : Stage) (s t : State) (given : Bool) → AgreeOnId id s t →
    IsToldGiven s (asked id stage) given → IsToldGiven t (asked id stage) given
given_at id stage s t given agrees told = given_asks (asked id stage) id s t given agrees (given_of id stage) told

-- seven writes, and nothing on trial
pub few_at : (id : ℕ) (stage : Stage) → IsSmall (plan_at id stage)
few_at id (Seeking sought) = small_none
few_at id (Refused errno) = small_none
few_at id PutOff = small_none
few_at id (AtType e mtype) = small_none
few_at id (AtMessage e entry serial) = small_none
few_at id (AtTypeOf e m) = small_none
few_at id (Taken r) = record { trials = omega arith; slots = omega arith }

-- nothing is inserted
pub inserts_at : (id : ℕ) (stage : Stage) → InsertsOnlyFor (decided_at stage) (plan_at id stage)
inserts_at id (Seeking sought) = inl refl
inserts_at id (Refused errno) = inl refl
inserts_at id PutOff = inl refl
inserts_at id (AtType e mtype) = inl refl
inserts_at id (AtMessage e entry serial) = inl refl
inserts_at id (AtTypeOf e m) = inl refl
inserts_at id (Taken r) = inl refl
