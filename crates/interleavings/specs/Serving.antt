-- To which system a call has come, and whether it lacks room. docs/STEPS.md, "Calls"; docs/QUEUES.md, "Calls".
use Rattle.std.specs.Prelude.{ℕ, ◌≡◌, Bool, true, false, List, Option, Some, None}
use Rattle.xsi_calls.specs.declared.conclusion.Conclusion.TheVariants as conclusions
use Rattle.interleavings.specs.LoneCallWords.{Call, CallView, Caller, Conclusion, State, answer_of, conclusion_of, has_no_room, outcome}

-- the system to which a call has come that was made over s, with these bytes for its answer: the one that the rules
-- give with it; until it decides, and where it waits or a record has no room, still s
abbrev pub ComesBy : Option Conclusion → Caller → Call → (bytes : List ℕ) → (s now : State) → Type 0
ComesBy None c call bytes s now = now ≡ s
ComesBy (Some (conclusions.Answers verdict)) c call bytes s now =
    outcome c call s ≡ Some (answer_of verdict bytes, now)
ComesBy (Some conclusions.Waits) c call bytes s now = (outcome c call s ≡ None) × (now ≡ s)
ComesBy (Some conclusions.HasNoRoom) c call bytes s now = now ≡ s

-- a trial has no room, or that is what the call has come to
abbrev pub lacks_by : Option Conclusion → (full : Bool) → Bool
lacks_by None full = full
lacks_by (Some (conclusions.Answers verdict)) full = false
lacks_by (Some conclusions.Waits) full = false
lacks_by (Some conclusions.HasNoRoom) full = true

abbrev pub lacks_room : CallView → Bool
lacks_room m = lacks_by (conclusion_of m) (has_no_room m.undecided)
