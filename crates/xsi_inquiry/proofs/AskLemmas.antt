-- What is asked is the same in systems that agree at what the call names.
use Rattle.std.proofs.Common.{◌≡◌, ◌∙◌, refl, subst, ℕ, Bool, nat_lt, Option, Some, None}
use Rattle.type_chains.specs.bucket_page.declared.record_key.RecordKey.{RecordKey}
use Rattle.queue_model.specs.State.{State}
use Rattle.type_chains.specs.queue_records.declared.record.Record.{Record}
use Rattle.type_chains.specs.queue_records.declared.record.Record.TheVariants as records
use Rattle.type_chains.specs.queue_records.Keys.{key_of_queue}
use Rattle.type_chains.specs.queue_records.Spelling.{counter_key}
use Rattle.type_chains.specs.RecordOf.{record_of}
use Rattle.xsi_inquiry.specs.declared.sought.Sought.{Sought}
use Rattle.xsi_inquiry.specs.declared.sought.Sought.TheVariants.{Unread, Absent, Found, Refused}
use Rattle.xsi_inquiry.specs.declared.wanted.Wanted.{Wanted}
use Rattle.xsi_inquiry.specs.declared.wanted.Wanted.TheVariants.{At, Given}
use Rattle.xsi_inquiry.specs.Agreeing.{AgreeOnCounter, AgreeOnId}
use Rattle.xsi_inquiry.specs.Seeking.{sought_next}
use Rattle.xsi_inquiry.specs.Telling.{IsTold, IsToldGiven}
use Rattle.xsi_inquiry.proofs.AgreeLemmas.{same_queue_record}

-- ---- a record

-- one key at which both systems have the same
pub at_one : (k : RecordKey) (s t : State) (found : Option Record) → record_of s k ≡ record_of t k →
    IsTold s (Some (At k)) found → IsTold t (Some (At k)) found
at_one k s t found same told key is =
    let it : k ≡ key = cc in
    subst (λ (x : RecordKey). found ≡ record_of t x) it (told k refl ∙ same)

pub at_none : (t : State) (found : Option Record) → IsTold t None found
at_none t found key is = absurd cc

pub at_counter : (s t : State) (found : Option Record) → AgreeOnCounter s t →
    IsTold s (Some (At counter_key)) found → IsTold t (Some (At counter_key)) found
at_counter s t found agrees =
    at_one counter_key s t found
    (λ i. Some (records.Counter (record { next_id = agrees.next_id i; queues_alive = agrees.alive i })))

pub at_queue : (id : ℕ) (s t : State) (found : Option Record) → AgreeOnId id s t →
    IsTold s (Some (At (key_of_queue id))) found → IsTold t (Some (At (key_of_queue id))) found
at_queue id s t found agrees = at_one (key_of_queue id) s t found (same_queue_record id s t agrees)

pub sought_asks : (id : ℕ) (sought : Sought) (s t : State) (found : Option Record) → AgreeOnId id s t →
    IsTold s (sought_next id sought) found → IsTold t (sought_next id sought) found
sought_asks id Unread s t found agrees told = at_queue id s t found agrees told
sought_asks id Absent s t found agrees told = λ key is. absurd cc
sought_asks id (Found e) s t found agrees told = at_none t found
sought_asks id (Refused errno) s t found agrees told = at_none t found

-- ---- whether an id was given out

pub given_none : (t : State) (given : Bool) → IsToldGiven t None given
given_none t given id is = absurd cc

pub given_asks : (wanted : Option Wanted) (id : ℕ) (s t : State) (given : Bool) → AgreeOnId id s t →
    ((other : ℕ) → wanted ≡ Some (Given other) → id ≡ other) → IsToldGiven s wanted given → IsToldGiven t wanted given
given_asks wanted id s t given agrees its told other is =
    told other is ∙ subst (λ n. nat_lt n s.next_id ≡ nat_lt n t.next_id) (its other is) agrees.given

pub sought_given : (id : ℕ) (sought : Sought) (other : ℕ) → sought_next id sought ≡ Some (Given other) → id ≡ other
sought_given id Unread other is = absurd cc
sought_given id Absent other is = cc
sought_given id (Found e) other is = absurd cc
sought_given id (Refused errno) other is = absurd cc
