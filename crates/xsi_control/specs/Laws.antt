-- How a sweep begins and ends, and what others keep meanwhile.
-- docs/STEPS.md, "Remove".
use Rattle.std.specs.Prelude.{◌≡◌, ◌↔◌, ℕ, ◌<◌, ◌≤◌, length, Option, Some, None}
use Rattle.queue_records.specs.bucket_page.declared.record_key.RecordKey.{RecordKey}
use Rattle.queue_model.specs.declared.answer.Answer.{Answer}
use Rattle.queue_model.specs.declared.call.Call.{Call}
use Rattle.queue_model.specs.declared.caller.Caller.{Caller}
use Rattle.numbers.specs.declared.limits.TheConstants.{MAX_MESSAGES}
use Rattle.queue_model.specs.declared.queue.Queue.{Queue}
use Rattle.queue_model.specs.Rules.{outcome}
use Rattle.queue_model.specs.State.{State}
use Rattle.xsi_inquiry.specs.type_chains.Lists.{serials}
use Rattle.xsi_inquiry.specs.type_chains.Neighbours.{first_of}
use Rattle.xsi_inquiry.specs.type_chains.RecordOf.{record_of}
use Rattle.xsi_inquiry.specs.Seeking.{IsKeyed}
use Rattle.xsi_inquiry.specs.Sweeping.{swept, unswept}
use Rattle.xsi_inquiry.specs.Telling.{IsFiled}
use Rattle.xsi_control.specs.declared.turn.Turn.{Turn}
use Rattle.xsi_control.specs.Turns.{IsAtTurn}

-- before the first turn each record stands
abbrev pub BeginsWhole : Type 0
BeginsWhole = (id : ℕ) (s : State) (key : RecordKey) → swept id 0 s key ≡ record_of s key

-- no turn follows exactly where each message was swept
abbrev pub EndsBehindTheLast : Type 0
EndsBehindTheLast = (count : ℕ) (q : Queue) → count ≤ length q.messages →
    first_of (serials (unswept count q)) ≡ None ↔ (count ≡ length q.messages)

-- so there are at most as many turns as messages may stand on a queue
abbrev pub HasFewTurns : Type 0
HasFewTurns = (count : ℕ) (q : Queue) (s : State) (t : Turn) → IsFiled s → IsAtTurn count q s t → count < MAX_MESSAGES

-- an answered call keeps what a Remove knows between its two phases
abbrev pub KeepsKeyed : Type 0
KeepsKeyed = (id : ℕ) (key : Option ℕ) (c : Caller) (call : Call) (a : Answer) (s t : State) → IsFiled s →
    outcome c call s ≡ Some (a, t) → IsKeyed id key s → IsKeyed id key t
