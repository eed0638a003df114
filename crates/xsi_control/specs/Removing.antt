-- What is written once the messages of a queue are swept.
-- docs/STEPS.md, "Remove".
use Rattle.std.specs.Prelude.{ℕ, List, [], ◌∷◌, Option, Some, None, option_map}
use Rattle.page_locks.specs.declared.lock.LockName.{LockName}
use Rattle.page_locks.specs.declared.lock.LockName.TheVariants as names
use Rattle.queue_records.specs.declared.record.Record.TheVariants as records
use Rattle.queue_records.specs.Keys.{key_of_key, key_of_queue}
use Rattle.xsi_inquiry.specs.declared.write.Write.{Write}
use Rattle.xsi_inquiry.specs.declared.write.Write.TheVariants.{Replace, Delete}
use Rattle.xsi_inquiry.specs.Writing.{Plan}
use Rattle.xsi_control.specs.declared.removal.Removal.{Removal}

-- the Key goes, where there is one
abbrev pub key_deletion : Option ℕ → Option Write
key_deletion key = option_map (λ (k : ℕ). Delete (key_of_key k)) key

-- in order: the Key and the Queue go, and the Counter is replaced last
abbrev pub slots_of : ℕ → Removal → List (Option Write)
slots_of id r =
    key_deletion r.key
    ∷ Some (Delete (key_of_queue id))
    ∷ Some (Replace (records.Counter r.counter))
    ∷ []

-- nothing is inserted
abbrev pub removal_plan : ℕ → Removal → Plan
removal_plan id r = record { trials = []; slots = slots_of id r }

-- the names of the second phase
abbrev pub names_of : ℕ → Option ℕ → List LockName
names_of id None = names.Counter ∷ names.Queue id ∷ []
names_of id (Some key) = names.Key key ∷ names.Counter ∷ names.Queue id ∷ []
