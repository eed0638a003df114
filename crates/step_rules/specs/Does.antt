-- What a step of each kind does, whatever turn it is made at.
-- docs/STEPS.md, "The kinds of step".
use Rattle.std.specs.Prelude.{ℕ, ◌≡◌}
use Rattle.bucket_page.specs.declared.record_key.RecordKey.{RecordKey}
use Rattle.page_locks.specs.declared.lock.LockName.TheVariants.{Directory}
use Rattle.step_rules.specs.declared.kind.Kind.{Kind}
use Rattle.step_rules.specs.declared.kind.Kind.TheVariants.{Grant, Release, ReadDepth, ReadEntry, Look, Hop, WriteRecord, Decide, TakePage, CopyDirectory, RaiseDepth, WriteNew, WriteOld, Retarget, SetCounts, WriteLeft, Tombstone, Convert, WriteFree, LinkFree, LowerDepth}
use Rattle.step_rules.specs.World.{World}
use Rattle.step_rules.specs.Sound.{IsSoundWorld}
use Rattle.step_rules.specs.Leaves.{Leaves}
use Rattle.step_rules.specs.LockSteps.{Grants, Releases, Reads, LooksAt, Hops, Converts}
use Rattle.step_rules.specs.PageSteps.{WritesRecord, TakesPage, CopiesDirectory, RaisesDepth, WritesNew, WritesOld, Retargets, SetsCounts, WritesLeft, WritesTombstone, WritesFree, LinksFree, LowersDepth}

abbrev pub Does : (RecordKey → ℕ) → Kind → ℕ → World → World → Type 0
Does hash Grant seat old new = Grants seat old new
Does hash Release seat old new = Releases seat old new
Does hash ReadDepth seat old new = Reads Directory seat old new
Does hash ReadEntry seat old new = Reads Directory seat old new
Does hash Look seat old new = LooksAt seat old new
Does hash Hop seat old new = Hops seat old new
Does hash WriteRecord seat old new = WritesRecord hash seat old new
Does hash Decide seat old new = new ≡ old
Does hash TakePage seat old new = TakesPage seat old new
Does hash CopyDirectory seat old new = CopiesDirectory seat old new
Does hash RaiseDepth seat old new = RaisesDepth seat old new
Does hash WriteNew seat old new = WritesNew hash seat old new
Does hash WriteOld seat old new = WritesOld hash seat old new
Does hash Retarget seat old new = Retargets seat old new
Does hash SetCounts seat old new = SetsCounts seat old new
Does hash WriteLeft seat old new = WritesLeft seat old new
Does hash Tombstone seat old new = WritesTombstone seat old new
Does hash Convert seat old new = Converts seat old new
Does hash WriteFree seat old new = WritesFree seat old new
Does hash LinkFree seat old new = LinksFree seat old new
Does hash LowerDepth seat old new = LowersDepth seat old new

-- a step keeps the world sound, and leaves the others what they know
pub record KeepsOthers (hash : RecordKey → ℕ) (seat : ℕ) (old new : World) : Type 0 where
  pub sound : IsSoundWorld hash new
  pub leaves : Leaves seat old new
