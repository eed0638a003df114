-- What a Send knows of a system at each stage of its reading, and what it asks for next.
-- docs/STEPS.md, "What a call reads".
use Rattle.std.specs.Prelude.{◌≡◌, ℕ, ◌+◌, pos, nat_lt, int_lt, false, ◌||◌, length, Option, Some, None, IsSome}
use Rattle.std.specs.List.{find}
use Rattle.queue_model.specs.declared.answer.Answer.TheVariants.{Sent}
use Rattle.queue_model.specs.declared.call.SendArguments.{SendArguments}
use Rattle.queue_model.specs.declared.caller.Caller.{Caller}
use Rattle.queue_model.specs.declared.errno.Errno.TheVariants.{EAGAIN}
use Rattle.numbers.specs.declared.limits.TheConstants.{MAX_BODY}
use Rattle.queue_model.specs.declared.queue.Queue.{Queue}
use Rattle.queue_model.specs.Rules.{has_id, lacks_room, outcome_of_send, put_off, refuse, with_message, with_queue}
use Rattle.queue_model.specs.State.{State}
use Rattle.queue_records.specs.declared.queue_entry.QueueEntry.{QueueEntry}
use Rattle.queue_records.specs.Keys.{key_of_type}
use Rattle.type_chains.specs.Entries.{queue_entry}
use Rattle.xsi_inquiry.specs.Seeking.{Tells, reads_left, sought_next}
use Rattle.xsi_inquiry.specs.declared.wanted.Wanted.{Wanted}
use Rattle.xsi_inquiry.specs.declared.wanted.Wanted.TheVariants.{At}
use Rattle.xsi_send.specs.declared.stage.Ahead.{Ahead}
use Rattle.xsi_send.specs.declared.stage.Ahead.TheVariants.{Ends, Goes}
use Rattle.xsi_send.specs.declared.stage.Stage.{Stage}
use Rattle.xsi_send.specs.declared.stage.Walk.{Walk}
use Rattle.xsi_send.specs.declared.stage.Stage.TheVariants.{Seeking, Refused, Full, AtType, AtNeighbour, Done}
use Rattle.xsi_send.specs.Places.{IsPlaceOf, IsWalked}

-- what it asks for next
abbrev pub asked : SendArguments → Stage → Option Wanted
asked a (Seeking sought) = sought_next a.id sought
asked a (Refused errno) = None
asked a Full = None
asked a (AtType e) = Some (At (key_of_type a.id a.mtype))
asked a (AtNeighbour w) = Some (At (key_of_type a.id w.next))
asked a (Done e place) = None

-- the stage to which a way up leads
abbrev pub led_to : Walk → Ahead → Stage
led_to w (Ends place) = Done w.queue place
led_to w (Goes next left) =
    AtNeighbour (record { queue = w.queue; lower = Some w.next; next = next; left = left })

-- the stage to which the message's type leads: to its place, or up from the lowest type
abbrev pub begun_to : QueueEntry → Ahead → Stage
begun_to e (Ends place) = Done e place
begun_to e (Goes next left) = AtNeighbour (record { queue = e; lower = None; next = next; left = left })

-- at most as many questions are still asked
abbrev pub asks_left : Stage → ℕ
asks_left (Seeking sought) = reads_left sought + 1025
asks_left (Refused errno) = 0
asks_left Full = 0
asks_left (AtType e) = 1025
asks_left (AtNeighbour w) = w.left
asks_left (Done e place) = 0

-- the type and the body are within their limits
abbrev pub IsAllowed : SendArguments → Type 0
IsAllowed a = (int_lt a.mtype (pos 1) || nat_lt MAX_BODY (length a.body)) ≡ false

-- the entry is that of the queue, and the message is put on it
pub record IsOpen (c : Caller) (a : SendArguments) (e : QueueEntry) (s : State) : Type 0 where
  pub queue : Queue
  pub found : find (has_id a.id) s.queues ≡ Some queue
  pub its_id : queue.id ≡ a.id
  pub entry : e ≡ queue_entry queue
  pub typed : int_lt a.mtype (pos 1) ≡ false
  pub short : nat_lt MAX_BODY (length a.body) ≡ false
  pub room : lacks_room (length a.body) queue ≡ false
  pub outcome : outcome_of_send c a s
      ≡ Some (Sent queue.next_serial, with_queue a.id (with_message c.pid a queue) s)

-- what is known is so in s
abbrev pub KnowsAt : Caller → SendArguments → Stage → State → Type 0
KnowsAt c a (Seeking sought) s = IsAllowed a × Tells a.id sought s × IsSome (sought_next a.id sought)
KnowsAt c a (Refused errno) s = outcome_of_send c a s ≡ refuse errno s
KnowsAt c a Full s = outcome_of_send c a s ≡ put_off a.nowait EAGAIN s
KnowsAt c a (AtType e) s = IsOpen c a e s
KnowsAt c a (AtNeighbour w) s = (known : IsOpen c a w.queue s) × IsWalked a.mtype w known.queue
KnowsAt c a (Done e place) s = (known : IsOpen c a e s) × IsPlaceOf a.mtype place known.queue
