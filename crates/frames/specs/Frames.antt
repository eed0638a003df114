-- The bytes of a frame and of a record, part by part, and the numbers that fit them.
use Rattle.std.specs.Prelude.{ℕ, ◌+◌, ◌<◌, ◌^◌, List, [], ◌∷◌, ◌++◌, length}
use Rattle.queue_model.specs.declared.caller.Caller.{Caller}
use Rattle.frames.specs.declared.frame.Frame.{Frame}
use Rattle.frames.specs.declared.head.Head.{Head}
use Rattle.frames.specs.Little.{two, four}

-- numbers that fit four bytes, as each `u32` does
abbrev pub FitsFour : ℕ → Type 0
FitsFour n = n < 2 ^ 32

-- the parts of a record, one after the other
abbrev pub joined : List (List ℕ) → List ℕ
joined [] = []
joined (part ∷ parts) = part ++ joined parts

-- bytes behind their length
abbrev pub counted : List ℕ → List ℕ
counted bytes = four (length bytes) ++ bytes

-- a frame from its number on (docs/PROTOCOL.md, "Requests")
abbrev pub frame_bytes : Frame → List ℕ
frame_bytes f =
    joined (four f.number ∷ (f.code ∷ f.flags ∷ []) ∷ two f.mode ∷ four f.id ∷ f.fields ∷ [])

pub record FitsFrame (f : Frame) : Type 0 where
  pub number : FitsFour f.number
  pub mode : f.mode < 2 ^ 16
  pub id : FitsFour f.id

pub record FitsCaller (c : Caller) : Type 0 where
  pub pid : FitsFour c.pid
  pub uid : FitsFour c.uid
  pub gid : FitsFour c.gid

-- a record (docs/PROTOCOL.md, "Between the relay and the core")
abbrev pub head_bytes : Head → List ℕ
head_bytes h =
    counted (joined (
    four h.connection ∷ four h.kind ∷
    four h.caller.pid ∷ four h.caller.uid ∷ four h.caller.gid ∷ h.rest ∷ []))

pub record FitsHead (h : Head) : Type 0 where
  pub connection : FitsFour h.connection
  pub kind : FitsFour h.kind
  pub caller : FitsCaller h.caller
  -- a length tells how long it is
  pub rest : 20 + length h.rest < 2 ^ 32
