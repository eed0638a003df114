-- The answers of a replay are those of plain lists, and its file is left as that of their system.
-- docs/SCRIPTS.md, "Schedules"; docs/QUEUES.md, "Journals".
use Rattle.std.specs.Prelude.{ℕ, ◌≡◌, IsTrue, List, length}
use Rattle.bucket_page.specs.Pseudokeys.{sha_key}
use Rattle.interleavings.specs.interleaving_core.Kernel.{KernelState}
use Rattle.interleavings.specs.interleaving_core.Words.{spared}
use Rattle.interleavings.specs.Headline.{IsAsPlainLists}
use Rattle.interleavings.specs.Refining.{Refines}
use Rattle.interleavings.specs.Words.{IsFileOf, IsLawful, State, after, part_of, restarted}
use Rattle.replays.specs.Events.{ReplayState}
use Rattle.replays.specs.Journal.{IsToldItsPart, entries_at}

-- the same callers, over a device as honest; where there is a frame for each page it has what it had
pub record KeepsCallers {K : Type 0} (old new : KernelState K) : Type 0 where
  pub callers : new.callers ≡ old.callers
  pub honest : new.pool.honest ≡ old.pool.honest
  pub stored : spared new.pool ≡ spared old.pool
  -- of as many pages
  pub pages : length new.pool.images ≡ length old.pool.images

-- what is so where the kernel was closed with no fault
pub record IsLeftWell (first last : ReplayState) (left : List (List ℕ)) : Type 0 where
  -- seat by seat its lines' answers are all that the journal has of it
  pub told : (seat : ℕ) → part_of seat last.kernel.journal ≡
      part_of seat (entries_at last.script.lines last.script.replies)
  -- an honest device has the file of the system after the journal
  pub file : (base : State) → Refines sha_key base first.kernel → IsTrue first.kernel.pool.honest →
      IsFileOf sha_key left (restarted (after last.kernel.callers last.kernel.journal base))
  -- with as many pages as before
  pub pages : IsTrue first.kernel.pool.honest → length left ≡ length first.kernel.pool.images

-- whatever the schedule: the answers are those of plain lists asked one call at a time
pub record AnswersAsPlainLists (first last : ReplayState) : Type 0 where
  pub keeps : KeepsCallers first.kernel last.kernel
  -- from a lawful system the journal is legal, and first in first out
  pub plain : (base : State) → IsLawful base → Refines sha_key base first.kernel →
      IsAsPlainLists sha_key base last.kernel
  -- and of it each seat's lines were told its part
  pub told : (seat : ℕ) → IsToldItsPart seat last
