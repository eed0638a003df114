-- What another call decides, and what a call that has not decided knows still.
-- docs/STEPS.md, "What a call reads", "Locks".
use Rattle.std.specs.Prelude.{ℕ}
use Rattle.std.specs.List.{Contains}
use Rattle.page_locks.specs.declared.lock.LockName.TheVariants as names
use Rattle.xsi_inquiry.specs.Agreeing.{AgreeOnId}
use Rattle.interleavings.specs.SeatWords.{AreAlike, Call, IsFiled, KnowsApart, KnowsNear, QuestionsView, State, names_in, record_of}

-- why others don't change what a call knows
abbrev pub IsKeptApart : Call → QuestionsView → Type 0
IsKeptApart call q = KnowsApart call q.inquiry q.room q.names

-- a call can't tell these two systems apart by what it holds and knows
pub record IsAsGood (call : Call) (q : QuestionsView) (s after : State) : Type 0 where
  pub filed : IsFiled after
  -- the records under its names are the same
  pub records : AreAlike (names_in q.names) (record_of after) (record_of s)
  -- and so are the queues whose names it holds
  pub ids : (id : ℕ) → Contains (names_in q.names) (names.Queue id) → AgreeOnId id s after
  -- what it knew of the one it knows of the other
  pub knows : KnowsNear call q s → KnowsNear call q after
