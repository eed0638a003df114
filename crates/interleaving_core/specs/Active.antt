-- A call under way at a seat, and what is kept for its entry in the journal. docs/QUEUES.md, "Journals".
use Rattle.std.specs.Prelude.{ℕ, ◌≡◌, Bool, true, false, IsSome, List, [], ◌∷◌, Option, Some, None}
use Rattle.queue_model.specs.declared.entry.Entry.TheVariants.{Decided}
use Rattle.xsi_calls.specs.Machine.{Begins, IsNew}
use Rattle.xsi_calls.specs.declared.conclusion.Conclusion.{Conclusion}
use Rattle.xsi_calls.specs.declared.conclusion.Conclusion.TheVariants as conclusions
use Rattle.interleaving_core.specs.Words.{Answer, Call, CallView, Caller, Entry, Roomful, answer_of_call, conclusion_of}
use Rattle.interleaving_core.specs.declared.active.Draft.{Draft}
use Rattle.interleaving_core.specs.declared.fault.StepFault.TheVariants as faults
use Rattle.interleaving_core.specs.declared.step.Step.{Step}
use Rattle.interleaving_core.specs.declared.step.Step.TheVariants as steps

pub record ActiveView : Type 0 where
  pub machine : CallView
  -- what is kept until it is answered
  pub draft : Option Draft
  -- how long the journal was when it began
  pub begun : ℕ
  -- how long the journal was at its Decide; before that, how long it was at its last step
  pub decided : ℕ
  -- once its seat was told that it waits: how much of the journal has not woken it
  pub wait : Option ℕ

-- room for as many bytes as its answer has room for
abbrev pub HasRoomAs : Roomful → CallView → Type 0
HasRoomAs room m = room.most ≡ m.undecided.questions.room.most

-- what is kept for the entry of a call that is not answered
pub record IsDraftOf (m : CallView) (d : Draft) : Type 0 where
  pub unanswered : answer_of_call m ≡ None
  pub call : d.call ≡ m.call
  pub room : HasRoomAs d.room m

-- something is kept exactly for a call that is not answered yet
abbrev pub IsDrafted : CallView → Option Draft → Type 0
IsDrafted m None = IsSome (answer_of_call m)
IsDrafted m (Some d) = IsDraftOf m d

-- what is always so of a call under way
pub record IsKept (m : CallView) (draft : Option Draft) (wait : Option ℕ) : Type 0 where
  pub drafted : IsDrafted m draft
  -- once its seat was told that it waits, it has begun anew
  pub waits : IsSome wait → IsNew m

-- ---- its beginning

-- while the journal has so many entries
pub record HasBegun (caller : Caller) (call : Call) (many : ℕ) (a : ActiveView) : Type 0 where
  pub begins : Begins caller call a.machine
  pub draft : IsSome a.draft
  pub begun : a.begun ≡ many
  pub decided : a.decided ≡ many
  pub awake : a.wait ≡ None

-- a seat at which it has begun
abbrev pub HasBegunAt : Caller → Call → ℕ → Option ActiveView → Type 0
HasBegunAt caller call many None = ⊥
HasBegunAt caller call many (Some a) = HasBegun caller call many a

-- the same call begins anew, once something wakes it that joined the journal after its Decide
pub record BeginsAgain (old new : ActiveView) : Type 0 where
  pub begins : Begins old.machine.caller old.machine.call new.machine
  pub draft : new.draft ≡ old.draft
  pub begun : new.begun ≡ old.begun
  pub decided : new.decided ≡ old.decided
  pub wait : new.wait ≡ Some old.decided

-- ---- its Decide

-- the entries that join the journal where a call has come to this answer, and this was kept for its entry
abbrev pub entries_by : ℕ → Option Answer → Option Draft → List Entry
entries_by seat None draft = []
entries_by seat (Some answer) None = []
entries_by seat (Some answer) (Some d) = Decided seat d.call answer ∷ []

-- how long the journal was then, where it has so many entries before a step of a call that has come so far
abbrev pub decided_by : Option Conclusion → ℕ → ℕ → ℕ
decided_by None many decided = many
decided_by (Some conclusion) many decided = decided

-- a step that its machine makes; it waits no more
pub record IsMarked (many : ℕ) (old new : ActiveView) : Type 0 where
  pub begun : new.begun ≡ old.begun
  pub decided : new.decided ≡ decided_by (conclusion_of old.machine) many old.decided
  pub awake : new.wait ≡ None

-- what is kept behind it
abbrev pub draft_by : Option Answer → Option Draft → Option Draft
draft_by None draft = draft
draft_by (Some answer) draft = None

-- the entries that are due for what is kept
abbrev pub drafted : Option Draft → ℕ
drafted None = 0
drafted (Some d) = 1

-- ---- its end

abbrev pub is_waiting : Option Conclusion → Bool
is_waiting None = false
is_waiting (Some (conclusions.Answers verdict)) = false
is_waiting (Some conclusions.Waits) = true
is_waiting (Some conclusions.HasNoRoom) = false

-- what a seat is told of a call that is over, and does not wait
abbrev pub told_at_end : Option Answer → Step
told_at_end (Some answer) = steps.Answered answer
told_at_end None = steps.Fault faults.NoRoom
