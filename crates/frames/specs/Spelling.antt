-- The record of a call that a client asks for, part by part (docs/PROTOCOL.md, "Requests").
use Rattle.std.specs.Prelude.{ℕ, ◌+◌, Bool, true, nat_le, List, [], ◌∷◌, length}
use Rattle.numbers.specs.declared.limits.TheConstants.{MAX_BODY}
use Rattle.queue_model.specs.declared.caller.Caller.{Caller}
use Rattle.queue_model.specs.declared.call.Call.{Call}
use Rattle.queue_model.specs.declared.call.Call.TheVariants.{Get, Send, Receive, Stat, Set, Remove}
use Rattle.frames.specs.declared.frame.Frame.{Frame}
use Rattle.frames.specs.declared.incoming.Incoming.{Incoming}
use Rattle.frames.specs.declared.incoming.Kind.TheVariants.{Request}
use Rattle.frames.specs.declared.incoming.Operation.TheVariants as operations
use Rattle.frames.specs.declared.spelling.Asker.{Asker}
use Rattle.frames.specs.Little.{two, four, eight}
use Rattle.frames.specs.Records.{spelled}
use Rattle.frames.specs.Requests.{call_frame, or_zero, type_number}

-- what the relay tells where this caller asks for a call
abbrev pub asked_by : Asker → Caller → Call → Incoming
asked_by asker caller call = record {
  connection = asker.connection;
  caller = caller;
  kind = Request (record { number = asker.number; operation = operations.Call call });
}

-- the record of a call
abbrev pub call_record : Asker → Caller → Call → List ℕ
call_record asker caller call = spelled (asked_by asker caller call)

-- its body is no longer than one may be
abbrev pub has_short_body : Call → Bool
has_short_body (Get a) = true
has_short_body (Send a) = nat_le (length a.body) MAX_BODY
has_short_body (Receive a) = true
has_short_body (Stat id) = true
has_short_body (Set a) = true
has_short_body (Remove id) = true

-- ---- its parts

-- its frame without its fields
abbrev pub row_of : ℕ → Call → Frame
row_of number call = record (call_frame number call) { fields = [] }

abbrev pub head_parts : (connection : ℕ) → Caller → (behind : ℕ) → List (List ℕ)
head_parts connection c behind =
    four (20 + behind) ∷ four connection ∷ four 0 ∷ four c.pid ∷ four c.uid ∷ four c.gid ∷ []

abbrev pub row_parts : Frame → List (List ℕ)
row_parts f = four f.number ∷ (f.code ∷ f.flags ∷ []) ∷ two f.mode ∷ four f.id ∷ []

abbrev pub field_parts : Call → List (List ℕ)
field_parts (Get a) = four (or_zero a.key) ∷ []
field_parts (Send a) = eight (type_number a.mtype) ∷ a.body ∷ []
field_parts (Receive a) = eight (type_number a.mtype) ∷ four a.size ∷ []
field_parts (Stat id) = []
field_parts (Set a) = four a.qbytes ∷ four (or_zero a.uid) ∷ four (or_zero a.gid) ∷ []
field_parts (Remove id) = []

-- how many bytes its fields have
abbrev pub fields_len : Call → ℕ
fields_len (Get a) = 4
fields_len (Send a) = 8 + length a.body
fields_len (Receive a) = 12
fields_len (Stat id) = 0
fields_len (Set a) = 12
fields_len (Remove id) = 0
