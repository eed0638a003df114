-- What is true of every system: the limits, and that ids, keys and serials are told apart.
-- docs/QUEUES.md, "Limits" and "Systems".
use Rattle.std.specs.Prelude.{◌≡◌, ℕ, ◌<◌, ◌≤◌, pos, ◌≤ℤ◌, List, length, map, Option, Some}
use Rattle.std.specs.List.{All, AllPairs}
use Rattle.numbers.specs.declared.limits.TheConstants.{MAX_QUEUES, MAX_MESSAGES, MAX_BODY, MAX_QBYTES, END_OF_IDS, END_OF_SERIALS, MODES}
use Rattle.queue_model.specs.declared.message.Message.{Message}
use Rattle.queue_model.specs.declared.queue.Queue.{Queue}
use Rattle.queue_model.specs.Selection.{total_bytes}
use Rattle.queue_model.specs.State.{State}

pub record IsLawfulMessage (next_serial : ℕ) (m : Message) : Type 0 where
  -- serials count from 1
  pub serial_begun : 1 ≤ m.serial
  -- and are below the queue's next
  pub serial_given : m.serial < next_serial
  -- types count from 1
  pub typed : pos 1 ≤ℤ m.mtype
  -- a body is short
  pub short : length m.bytes ≤ MAX_BODY

pub record IsLawfulQueue (q : Queue) : Type 0 where
  -- as many messages as may stand
  pub few_messages : length q.messages ≤ MAX_MESSAGES
  -- as many bytes as a queue may ever hold
  pub few_bytes : total_bytes q.messages ≤ MAX_QBYTES
  -- its own limit is within that
  pub small_limit : q.qbytes ≤ MAX_QBYTES
  -- its mode has nine bits
  pub mode : q.permissions.mode < MODES
  -- serials count from 1
  pub serial_begun : 1 ≤ q.next_serial
  -- and end
  pub serials_end : q.next_serial ≤ END_OF_SERIALS
  pub messages_lawful : All (IsLawfulMessage q.next_serial) q.messages
  -- messages stand in the order in which they were accepted
  pub serials_ascend : AllPairs (λ (m n : Message). m.serial < n.serial) q.messages

-- the numbers of a queue keep their limits
pub record HasLimits (q : Queue) : Type 0 where
  pub small_limit : q.qbytes ≤ MAX_QBYTES
  pub mode : q.permissions.mode < MODES
  pub serial_begun : 1 ≤ q.next_serial

-- messages can stand on a queue
pub record AreLawfulMessages (next_serial : ℕ) (ms : List Message) : Type 0 where
  pub each : All (IsLawfulMessage next_serial) ms
  pub ascend : AllPairs (λ (m n : Message). m.serial < n.serial) ms

-- a message can stand behind one of a serial
abbrev pub FollowsMessage : ℕ → ℕ → Message → Type 0
FollowsMessage next_serial low m = IsLawfulMessage next_serial m × (low < m.serial)

-- a queue can be alive under a next id
pub record IsLawfulAlive (next_id : ℕ) (q : Queue) : Type 0 where
  pub lawful : IsLawfulQueue q
  pub begun : 1 ≤ q.id
  pub given : q.id < next_id

-- queues can be alive together, but for their keys
pub record AreLawfulQueues (next_id : ℕ) (qs : List Queue) : Type 0 where
  pub each : All (IsLawfulAlive next_id) qs
  pub ascend : AllPairs (λ (p q : Queue). p.id < q.id) qs

-- a queue can be alive behind one of an id
abbrev pub FollowsQueue : ℕ → ℕ → Queue → Type 0
FollowsQueue next_id low q = IsLawfulAlive next_id q × (low < q.id)

-- two queues have no key in common
abbrev pub AreKeysApart : Option ℕ → Option ℕ → Type 0
AreKeysApart a b = (k : ℕ) → a ≡ Some k → b ≡ Some k → ⊥

pub record IsLawful (s : State) : Type 0 where
  -- as many queues as may be alive
  pub few_queues : length s.queues ≤ MAX_QUEUES
  -- ids count from 1
  pub id_begun : 1 ≤ s.next_id
  -- and end
  pub ids_end : s.next_id ≤ END_OF_IDS
  pub queues_lawful : All IsLawfulQueue s.queues
  -- the ids alive were given out
  pub ids_given : All (λ (id : ℕ). (1 ≤ id) × (id < s.next_id)) (map (λ (q : Queue). q.id) s.queues)
  -- queues stand in the order in which they were made
  pub ids_ascend : AllPairs (λ (a b : ℕ). a < b) (map (λ (q : Queue). q.id) s.queues)
  pub keys_apart : AllPairs AreKeysApart (map (λ (q : Queue). q.key) s.queues)
