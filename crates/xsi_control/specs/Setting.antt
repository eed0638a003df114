-- What a Set asks for, decides and writes.
-- docs/QUEUES.md, "Calls"; docs/STEPS.md, "What a call reads".
use Rattle.std.specs.Prelude.{ℕ, ◌==◌, nat_lt, Bool, not, ◌&&◌, [], ◌∷◌, Option, Some, None, Result, Ok, Err, if◌then◌else◌}
use Rattle.queue_model.specs.declared.permissions.Permissions.{Permissions}
use Rattle.queue_model.specs.Access.{changed, is_owner}
use Rattle.queue_records.specs.declared.record.Record.TheVariants as records
use Rattle.xsi_inquiry.specs.type_chains.Reading.{permissions_in}
use Rattle.xsi_inquiry.specs.declared.decision.Decision.{Decision}
use Rattle.xsi_inquiry.specs.declared.decision.Decision.TheVariants.{Answers}
use Rattle.xsi_inquiry.specs.declared.inquiry.NotASystem.{NotASystem}
use Rattle.xsi_inquiry.specs.declared.sought.Sought.{Sought}
use Rattle.xsi_inquiry.specs.declared.sought.Sought.TheVariants.{Unread, Absent, Found, Refused}
use Rattle.xsi_inquiry.specs.declared.verdict.Verdict.TheVariants as verdicts
use Rattle.xsi_inquiry.specs.declared.wanted.Wanted.{Wanted}
use Rattle.xsi_inquiry.specs.declared.write.Write.TheVariants.{Replace}
use Rattle.xsi_control.specs.Words.{SetArguments, Caller, Errno, EINVAL, EPERM, MAX_QBYTES, SUPERUSER, QueueEntry, refuses, sought_next, Plan, nothing}

-- nothing is read for a limit that no queue may have
abbrev pub set_wanted : SetArguments → Sought → Option Wanted
set_wanted a sought = if nat_lt MAX_QBYTES a.qbytes then None else sought_next a.id sought

-- the Queue with these permissions
abbrev pub with_permissions : Permissions → QueueEntry → QueueEntry
with_permissions p e = record e { uid = p.uid; gid = p.gid; cuid = p.cuid; cgid = p.cgid; mode = p.mode }

-- the Queue with these settings
abbrev pub entry_with_settings : SetArguments → QueueEntry → QueueEntry
entry_with_settings a e =
    with_permissions (changed a (permissions_in e)) (record e { qbytes = a.qbytes; ctime = a.moment })

-- only user 0 may raise qbytes
abbrev pub raises_in : Caller → ℕ → QueueEntry → Bool
raises_in c qbytes e = nat_lt e.qbytes qbytes && not (c.uid == SUPERUSER)

-- the Queue with these settings, or how the call is refused on it
abbrev pub set_entry : Caller → SetArguments → QueueEntry → Result QueueEntry Errno
set_entry c a e =
    if not (is_owner c (permissions_in e)) then Err EPERM
    else if raises_in c a.qbytes e then Err EPERM
    else Ok (entry_with_settings a e)

-- ---- what it decides

abbrev pub decided_by : Result QueueEntry Errno → Decision
decided_by (Ok e) = Answers verdicts.Done
decided_by (Err errno) = refuses errno

abbrev pub decided_on : Caller → SetArguments → Sought → Result Decision NotASystem
decided_on c a (Found e) = Ok (decided_by (set_entry c a e))
decided_on c a (Refused errno) = Ok (refuses errno)
decided_on c a Unread = Err (record {})
decided_on c a Absent = Err (record {})

abbrev pub set_decided : Caller → SetArguments → Sought → Result Decision NotASystem
set_decided c a sought = if nat_lt MAX_QBYTES a.qbytes then Ok (refuses EINVAL) else decided_on c a sought

-- ---- what it writes

abbrev pub plan_by : Result QueueEntry Errno → Plan
plan_by (Ok e) = record { trials = []; slots = Some (Replace (records.Queue e)) ∷ [] }
plan_by (Err errno) = nothing

abbrev pub plan_on : Caller → SetArguments → Sought → Plan
plan_on c a (Found e) = plan_by (set_entry c a e)
plan_on c a (Refused errno) = nothing
plan_on c a Unread = nothing
plan_on c a Absent = nothing

abbrev pub set_plan : Caller → SetArguments → Sought → Plan
set_plan c a sought = if nat_lt MAX_QBYTES a.qbytes then nothing else plan_on c a sought
