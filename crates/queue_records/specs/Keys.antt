-- The keys of records, and the name under whose lock each is read and written.
-- docs/FORMAT.md, "Records"; docs/STEPS.md, "Locks".
use Rattle.std.specs.Prelude.{ℕ, ◌==◌, ℤ, if◌then◌else◌}
use Rattle.bucket_page.specs.declared.record_key.RecordKey.{RecordKey}
use Rattle.page_locks.specs.declared.lock.LockName.{LockName}
use Rattle.page_locks.specs.declared.lock.LockName.TheVariants.{Key, Counter, Queue}
use Rattle.queue_records.specs.declared.layout.TheConstants.{COUNTER, KEY, QUEUE, TYPE, MESSAGE}
use Rattle.queue_records.specs.Fields.{type_number}

abbrev pub key_of_key : ℕ → RecordKey
key_of_key key = record { kind = KEY; queue = 0; number = key }

abbrev pub key_of_queue : ℕ → RecordKey
key_of_queue id = record { kind = QUEUE; queue = id; number = 0 }

abbrev pub key_of_type : ℕ → ℤ → RecordKey
key_of_type id mtype = record { kind = TYPE; queue = id; number = type_number mtype }

abbrev pub key_of_message : ℕ → ℕ → RecordKey
key_of_message id serial = record { kind = MESSAGE; queue = id; number = serial }

-- the Counter's lock is the counter, a Key's is that key, a Queue's, Type's or Message's is its queue
abbrev pub guard_of : RecordKey → LockName
guard_of key = if key.kind == COUNTER then Counter else if key.kind == KEY then Key key.number else Queue key.queue
