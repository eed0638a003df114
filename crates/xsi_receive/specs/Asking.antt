-- What a Receive asks for next, and what it decides and writes.
-- docs/STEPS.md, "What a call reads".
use Rattle.std.specs.Prelude.{ℕ, nat_lt, Bool, not, ◌&&◌, length, Option, Some, None, Result, Ok, Err, if◌then◌else◌}
use Rattle.queue_model.specs.declared.call.ReceiveArguments.{ReceiveArguments}
use Rattle.queue_model.specs.declared.errno.Errno.TheVariants.{ENOMSG}
use Rattle.queue_records.specs.declared.message_entry.MessageEntry.{MessageEntry}
use Rattle.queue_records.specs.Keys.{key_of_message, key_of_type}
use Rattle.xsi_inquiry.specs.declared.decision.Decision.{Decision}
use Rattle.xsi_inquiry.specs.declared.decision.Decision.TheVariants as decisions
use Rattle.xsi_inquiry.specs.declared.inquiry.NotASystem.{NotASystem}
use Rattle.xsi_inquiry.specs.declared.verdict.Verdict.{Verdict}
use Rattle.xsi_inquiry.specs.declared.verdict.Verdict.TheVariants as verdicts
use Rattle.xsi_inquiry.specs.declared.wanted.Wanted.{Wanted}
use Rattle.xsi_inquiry.specs.declared.wanted.Wanted.TheVariants.{At}
use Rattle.xsi_inquiry.specs.Deciding.{refuses}
use Rattle.xsi_inquiry.specs.Seeking.{asks_of_sought, sought_next}
use Rattle.xsi_inquiry.specs.Writing.{Plan, nothing}
use Rattle.xsi_receive.specs.declared.removal.Removal.{Removal}
use Rattle.xsi_receive.specs.declared.stage.Stage.{Stage}
use Rattle.xsi_receive.specs.declared.stage.Stage.TheVariants.{Seeking, Refused, PutOff, AtType, AtMessage, AtTypeOf, Taken}
use Rattle.xsi_receive.specs.Removing.{removal_plan}

-- what it asks for next
abbrev pub asked : ℕ → Stage → Option Wanted
asked id (Seeking sought) = sought_next id sought
asked id (Refused errno) = None
asked id PutOff = None
asked id (AtType e mtype) = Some (At (key_of_type id mtype))
asked id (AtMessage e t serial) = Some (At (key_of_message id serial))
asked id (AtTypeOf e m) = Some (At (key_of_type id m.mtype))
asked id (Taken r) = None

-- at most as many questions are still asked: the Queue, a Message and a Type
abbrev pub asks_left : Stage → ℕ
asks_left (Seeking sought) = asks_of_sought sought
asks_left (Refused errno) = 0
asks_left PutOff = 0
asks_left (AtType e mtype) = 2
asks_left (AtMessage e None serial) = 2
asks_left (AtMessage e (Some t) serial) = 1
asks_left (AtTypeOf e m) = 1
asks_left (Taken r) = 0

-- the message is longer than asked for, and may not be cut
abbrev pub is_long : ReceiveArguments → MessageEntry → Bool
is_long a m = nat_lt a.size (length m.body) && not a.noerror

-- where no message is selected
abbrev pub put_off_at : Bool → Stage
put_off_at nowait = if nowait then Refused ENOMSG else PutOff

-- the message as it is given
abbrev pub received : Removal → Verdict
received r =
    verdicts.Received (record { serial = r.message.serial; sender = r.message.sender; mtype = r.message.mtype })

abbrev pub decided_at : Stage → Result Decision NotASystem
decided_at (Seeking sought) = Err (record {})
decided_at (Refused errno) = Ok (refuses errno)
decided_at PutOff = Ok decisions.PutOff
decided_at (AtType e mtype) = Err (record {})
decided_at (AtMessage e t serial) = Err (record {})
decided_at (AtTypeOf e m) = Err (record {})
decided_at (Taken r) = Ok (decisions.Answers (received r))

abbrev pub plan_at : ℕ → Stage → Plan
plan_at id (Seeking sought) = nothing
plan_at id (Refused errno) = nothing
plan_at id PutOff = nothing
plan_at id (AtType e mtype) = nothing
plan_at id (AtMessage e t serial) = nothing
plan_at id (AtTypeOf e m) = nothing
plan_at id (Taken r) = removal_plan id r
