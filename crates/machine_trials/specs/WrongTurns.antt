-- Turns that are not allowed, each at a world of the worked schedule or one beside it.
use Rattle.std.specs.Prelude.{ℕ, ◌≡◌, List, [], ◌++◌, Option, Some, None}
use Rattle.page_locks.specs.declared.lock.LockKind.TheVariants.{Read, Selective, Exclusive}
use Rattle.page_locks.specs.declared.lock.LockName.TheVariants.{Directory, Page}
use Rattle.hash_file.specs.Store.{Store}
use Rattle.hash_file.specs.Change.{Change, Quiet, Taken, Linked}
use Rattle.hash_file.specs.Changes.{RecordWrite, Put, Replace, Remove, write_record}
use Rattle.hash_file.specs.Examples.{number_of, key}
use Rattle.directory.specs.Ranges.{whole_range}
use Rattle.step_rules.specs.declared.kind.Kind.TheVariants as steps
use Rattle.step_rules.specs.declared.progress.Progress.{Progress}
use Rattle.step_rules.specs.declared.progress.Progress.TheVariants.{Moved, Blocked}
use Rattle.step_rules.specs.World.{World}
use Rattle.step_rules.specs.PageSteps.{CopiesDirectory, Retargets}
use Rattle.step_rules.specs.Answering.{IsAnswerOf, TakesAnswer}
use Rattle.step_rules.specs.Turns.{ForLock, HopFrom, ToExclusive, Turn, no_ask, asks, TurnsAt}
use Rattle.machine_trials.specs.Schedule.{record_of, first, raised, linked, split, with_third, merged, world, beside_queue, in_directory, on_page, insert, delete}

abbrev pub Refused : Turn → Progress ℕ → ℕ → World → World → Type 0
Refused turn did seat old new = TurnsAt number_of turn did seat old new → ⊥

-- a turn of an operation that is to write this
abbrev pub writing : RecordWrite → Turn
writing write = record { ask = None; write = Some write }

-- seat 1 holds the queue, the directory and these; seat 2 nothing
abbrev pub alone : Store → Change → World
alone s change = world s (beside_queue (in_directory Selective ++ on_page 257 Selective)) [] change

abbrev pub both : Store → World
both s = world s (beside_queue (in_directory Selective ++ (on_page 257 Selective ++ on_page 258 Selective))) [] Quiet

-- seat 2 stands on a page, beside a split
abbrev pub standing : ℕ → World
standing page = world linked [] (on_page page Read) (Linked 257 258 whole_range)

pub record WrongTurns : Type 0 where
  -- a seat is blocked by one that holds another name, or at a turn that asks for nothing
  pub blocked_by_another_name : Refused (asks (ForLock Directory Selective)) (Blocked 2) 1
      (world first [] (on_page 257 Exclusive) Quiet) (world first [] (on_page 257 Exclusive) Quiet)
  pub blocked_at_a_look : Refused no_ask (Blocked 2) 1 (standing 257) (standing 257)
  -- a hop goes past the bucket of its pseudokey, or stays on a page that does not cover it
  pub hops_past_its_bucket : Refused (asks (HopFrom 257 2)) (Moved steps.Hop) 2 (standing 257) (standing 258)
  pub stays_where_it_is_not : Refused (asks (HopFrom 257 1)) (Moved steps.Hop) 2 (standing 257) (standing 257)
  -- a page is granted to a seat that does not hold the directory
  pub page_without_directory : Refused (asks (ForLock (Page 258) Read)) (Moved steps.Grant) 2
      (standing 257) (world linked [] (on_page 257 Read ++ on_page 258 Read) (Linked 257 258 whole_range))
  -- the directory is given back deeper than any bucket, granted exclusively, or converted beside no merge
  pub given_back_too_deep : Refused no_ask (Moved steps.Release) 1
      (world merged (beside_queue (in_directory Exclusive)) [] Quiet) (world merged (beside_queue []) [] Quiet)
  pub granted_exclusively : (new : World) →
      Refused (asks (ForLock Directory Exclusive)) (Moved steps.Grant) 1 (world first [] [] Quiet) new
  pub converted_while_quiet : (new : World) → Refused (asks ToExclusive) (Moved steps.Convert) 1 (alone first Quiet) new
  -- an answer is taken at an entry, of a page that is not held, or of one that does not cover the key
  pub answered_at_an_entry : (page : ℕ) (value : Option (Option (List ℕ))) →
      TakesAnswer {F = ℕ} number_of (Moved steps.ReadEntry) 2 page (key 1) (λ v. v) None value (standing 257) → ⊥
  pub answered_without_a_lock : (value : Option (List ℕ)) → IsAnswerOf number_of 2 258 (key 1) value (standing 257) → ⊥
  pub answered_elsewhere : (value : Option (List ℕ)) → IsAnswerOf number_of 2 257 (key 1) value (standing 257) → ⊥
  -- an absent record is removed, one is replaced by another length, or put where there is no room
  pub removes_nothing : (new : World) → Refused (writing (Remove (key 5))) (Moved steps.WriteRecord) 1
      (alone first Quiet) new
  pub replaced_by_another_length : (new : World) →
      Refused (writing (Replace (record_of 0 10))) (Moved steps.WriteRecord) 1 (alone first Quiet) new
  pub put_without_room : (new : World) → Refused insert (Moved steps.WriteRecord) 1 (alone first Quiet) new
  -- another record is written than that of the turn
  pub writes_another_record : Refused insert (Moved steps.WriteRecord) 1 (both split)
      (both (write_record 258 (Put (record_of 5 200)) split))
  -- two buckets with too many bytes are merged
  pub merges_large_buckets : (new : World) → Refused delete (Moved steps.WriteLeft) 1 (both with_third) new
  -- a bucket is split that has room, and the directory doubles though it tells the halves apart
  pub splits_with_room : (new : World) → Refused (writing (Put (record_of 3 1))) (Moved steps.TakePage) 1
      (alone first Quiet) new
  pub doubles_again : (new : World) → Refused insert (Moved steps.RaiseDepth) 1 (alone raised (Taken 258)) new
  -- a page is copied or retargeted that has no entries
  pub copies_the_header : (seat : ℕ) (old new : World) (does : CopiesDirectory seat old new) → does.page ≡ 0 → ⊥
  pub retargets_the_header : (seat : ℕ) (old new : World) (does : Retargets seat old new) → does.page ≡ 0 → ⊥
