-- What a Send decides and writes, from the entries that it read.
-- docs/STEPS.md, "What a call writes".
use Rattle.std.specs.Prelude.{ℕ, ◌+◌, ◌==◌, nat_eq, nat_le, nat_lt, ℤ, Bool, true, false, ◌&&◌, List, [], ◌∷◌, length, Option, Some, None, Result, Ok, Err, option_map, if◌then◌else◌}
use Rattle.std.specs.Option.{option_eq}
use Rattle.queue_model.specs.declared.errno.Errno.TheVariants.{EAGAIN}
use Rattle.queue_records.specs.declared.links.Link.{Link}
use Rattle.queue_records.specs.declared.links.Links.{Links}
use Rattle.queue_records.specs.declared.links.Links.TheVariants as links
use Rattle.queue_records.specs.declared.record.Record.TheVariants as records
use Rattle.xsi_inquiry.specs.declared.decision.Decision.{Decision}
use Rattle.xsi_inquiry.specs.declared.decision.Decision.TheVariants.{PutOff, Answers}
use Rattle.xsi_inquiry.specs.declared.inquiry.NotASystem.{NotASystem}
use Rattle.xsi_inquiry.specs.declared.verdict.Verdict.TheVariants as verdicts
use Rattle.xsi_inquiry.specs.Deciding.{refuses}
use Rattle.xsi_inquiry.specs.Writing.{nothing}
use Rattle.xsi_send.specs.Words.{LeadsTo, Plan, QueueEntry, Record, Relink, Replace, SendArguments, Stays, TypeEntry, Write, key_of_message, key_of_type, last_message, with_one_more}
use Rattle.xsi_send.specs.declared.stage.Stage.{Stage}
use Rattle.xsi_send.specs.declared.stage.Stage.TheVariants.{Seeking, Refused, Full, AtType, AtNeighbour, Done}
use Rattle.xsi_send.specs.declared.type_place.TypePlace.{TypePlace}
use Rattle.xsi_send.specs.declared.type_place.TypePlace.TheVariants.{Standing, Between}

-- ---- what is inserted

-- the Type of a type whose one message has this serial
abbrev pub new_type : ℕ → ℤ → ℕ → Option ℤ → Option ℤ → TypeEntry
new_type id mtype serial lower higher = record {
  id = id;
  mtype = mtype;
  first = serial;
  last = serial;
  lower = lower;
  higher = higher;
}

-- the Message, and the Type where the type is new
abbrev pub sent_trials : ℕ → SendArguments → QueueEntry → TypePlace → List Record
sent_trials pid a e (Standing last) = records.Message (last_message pid a e) ∷ []
sent_trials pid a e (Between lower higher) =
    records.Message (last_message pid a e) ∷ records.Type (new_type e.id a.mtype e.next_serial lower higher) ∷ []

-- ---- what is changed

-- the counts of the Queue stay numbers with one message more
abbrev pub takes_more : ℕ → QueueEntry → Bool
takes_more len e =
    nat_le (e.cbytes + len) 4294967295 && nat_lt e.qnum 4294967295 && nat_lt e.next_serial 18446744073709551615

abbrev pub queue_write : ℕ → SendArguments → QueueEntry → Option Write
queue_write pid a e =
    if takes_more (length a.body) e then Some (Replace (records.Queue (with_one_more pid a e))) else None

abbrev pub link_if : Bool → ℕ → Link ℕ
link_if leads serial = if leads then LeadsTo serial else Stays

-- links of a Message behind which the message of a serial comes, on the queue or of its type
abbrev pub links_behind : ℕ → Bool → Bool → Links
links_behind serial on_queue of_type = links.Message (record {
  previous = Stays;
  next = link_if on_queue serial;
  next_of_type = link_if of_type serial;
})

-- the last Message of the type leads to the new one, where it is not the last of the queue
abbrev pub end_of_type : QueueEntry → ℕ → Option Write
end_of_type e last =
    if option_eq nat_eq e.last (Some last) then None
    else Some (Relink (key_of_message e.id last) (links_behind e.next_serial false true))

-- so does the last Message of the queue, which may be the last of the type
abbrev pub behind_end : QueueEntry → Bool → ℕ → Write
behind_end e typed end = Relink (key_of_message e.id end) (links_behind e.next_serial true typed)

abbrev pub end_of_queue : QueueEntry → (ℕ → Bool) → Option Write
end_of_queue e typed = option_map (λ (end : ℕ). behind_end e (typed end) end) e.last

-- the Type of the type, and those beside a new one
abbrev pub type_write : SendArguments → QueueEntry → Write
type_write a e = Relink (key_of_type e.id a.mtype)
    (links.Type (record { first = None; last = Some e.next_serial; lower = Stays; higher = Stays }))

abbrev pub lower_write : SendArguments → QueueEntry → ℤ → Write
lower_write a e mtype = Relink (key_of_type e.id mtype)
    (links.Type (record { first = None; last = None; lower = Stays; higher = LeadsTo a.mtype }))

abbrev pub higher_write : SendArguments → QueueEntry → ℤ → Write
higher_write a e mtype = Relink (key_of_type e.id mtype)
    (links.Type (record { first = None; last = None; lower = LeadsTo a.mtype; higher = Stays }))

-- the Queue, then Messages by serial, then Types by type
abbrev pub sent_slots : ℕ → SendArguments → QueueEntry → TypePlace → List (Option Write)
sent_slots pid a e (Standing last) =
    queue_write pid a e ∷ end_of_type e last ∷ end_of_queue e (λ end. end == last) ∷ Some (type_write a e) ∷ []
sent_slots pid a e (Between lower higher) =
    queue_write pid a e
    ∷ end_of_queue e (λ end. false)
    ∷ option_map (lower_write a e) lower
    ∷ option_map (higher_write a e) higher
    ∷ []

-- ---- by stage

abbrev pub plan_at : ℕ → SendArguments → Stage → Plan
plan_at pid a (Seeking sought) = nothing
plan_at pid a (Refused errno) = nothing
plan_at pid a Full = nothing
plan_at pid a (AtType e) = nothing
plan_at pid a (AtNeighbour w) = nothing
plan_at pid a (Done e place) = record { trials = sent_trials pid a e place; slots = sent_slots pid a e place }

-- what a Send decides
abbrev pub decided_at : SendArguments → Stage → Result Decision NotASystem
decided_at a (Seeking sought) = Err (record {})
decided_at a (Refused errno) = Ok (refuses errno)
decided_at a Full = if a.nowait then Ok (refuses EAGAIN) else Ok PutOff
decided_at a (AtType e) = Err (record {})
decided_at a (AtNeighbour w) = Err (record {})
decided_at a (Done e place) =
    if takes_more (length a.body) e then Ok (Answers (verdicts.Sent e.next_serial)) else Err (record {})
