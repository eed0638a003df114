-- What the records that a Remove reads tell, and what is decided then.
use Rattle.std.proofs.Common.{◌≡◌, ℕ, length, Option, Some, refl, sym, ◌∙◌, subst}
use Rattle.xsi_control.specs.RemoveWords.{Contains, found_id, Caller, without_queue, State, Counter, Record, guard_of, key_of, counter_key, counter_of, record_of, At, IsSwept, swept, IsFiled, IsTold, Leads}
use Rattle.std.proofs.lemmas.List.Elements.{All-nil}
use Rattle.queue_model.specs.declared.call.Call.TheVariants as calls
use Rattle.queue_records.specs.declared.record.Record.TheVariants as records
use Rattle.xsi_control.specs.declared.removal.Removal.{Removal}
use Rattle.xsi_control.specs.Knowing.{KnowsRemoval}
use Rattle.xsi_control.specs.Removing.{names_of, removal_plan}
use Rattle.xsi_control.proofs.RemovingLemmas.{ascend, plan_of, remove_leads, under}

-- the Counter always stands
pub counter_stands : (s : State) (found : Option Record) → IsTold s (Some (At counter_key)) found →
    found ≡ Some (records.Counter (counter_of s))
counter_stands s found told = told counter_key refl

pub same_counter : (s : State) (found : Option Record) (n : Counter) → IsTold s (Some (At counter_key)) found →
    found ≡ Some (records.Counter n) → n ≡ counter_of s
same_counter s found n told is =
    let both : ◌≡◌ {A = Option Record} (Some (records.Counter n)) (Some (records.Counter (counter_of s))) =
    sym is ∙ counter_stands s found told in
    cc

-- the queue is swept, and goes
pub decides_removal : (c : Caller) (id : ℕ) (r : Removal) (s : State) → IsFiled s → KnowsRemoval c id r s →
    IsSwept c (calls.Remove id) (names_of id r.key) s (record { id = id; first = r.first }) (removal_plan id r)
decides_removal c id r s filed known =
    let q = known.queue in
    let its = found_id s id q known.alive in
    let leads = remove_leads id s q filed known.alive its r.key (sym known.key) in
    record {
      queue = q;
      after = without_queue id s;
      is_remove = refl;
      alive = known.alive;
      outcome = known.outcome;
      first_left = known.first;
      no_trials = refl;
      leads = subst (λ (n : Counter). Leads (plan_of r.key id n) (swept id (length q.messages) s)
          (record_of (without_queue id s))) (sym known.counter) leads;
      own = record {
        trials = All-nil (λ (x : Record). Contains (names_of id r.key) (guard_of (key_of x)));
        writes = under id r.key r.counter;
      };
      ordered = record { trials = tt; writes = ascend id r.key r.counter };
    }
