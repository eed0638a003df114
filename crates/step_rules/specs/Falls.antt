-- What each own step of a search, a split or a merge brings nearer to its end, if no other seat steps.
-- docs/STEPS.md, "Search", "Split" and "Merge".
use Rattle.std.specs.Prelude.{ℕ, suc, ◌≡◌, ◌<◌, ◌+◌, ◌-◌, ◌*◌, ◌%◌, ◌^◌}
use Rattle.directory.specs.Ranges.{upper_half_of}
use Rattle.bucket_page.specs.declared.record_key.RecordKey.{RecordKey}
use Rattle.hash_file.specs.Store.{Store, bucket_at, entry_at, next_at}
use Rattle.hash_file.specs.Change.{Change, Quiet, Taken, Filled, Linked, Absorbed, Buried, Drained, Freed}
use Rattle.hash_file.specs.Search.{PageLeads, distance}
use Rattle.hash_file.specs.Looks.{Answers}
use Rattle.step_rules.specs.declared.kind.Kind.{Kind}
use Rattle.step_rules.specs.declared.kind.Kind.TheVariants.{RaiseDepth, WriteNew, WriteOld, SetCounts, Tombstone, WriteFree, LinkFree, LowerDepth}
use Rattle.step_rules.specs.World.{World}
use Rattle.step_rules.specs.Sound.{IsSoundWorld}
use Rattle.step_rules.specs.Structure.{IsCopiedBefore, IsRetargetedBefore, target_of}
use Rattle.step_rules.specs.Known.{Deep, IsKnown}
use Rattle.step_rules.specs.PageSteps.{CopiesDirectory, Retargets, WritesOld}
use Rattle.step_rules.specs.Does.{Does}
use Rattle.step_rules.specs.Ways.{hops_between}

-- ---- a search

-- what a search does next
pub data SearchTask : Type 0 where
  ToReadDepth : SearchTask
  ToReadEntry : (depth : ℕ) → SearchTask
  ToGrantPage : (page : ℕ) → SearchTask
  ToRelease : (page : ℕ) → SearchTask
  ToLook : (page : ℕ) → SearchTask
  ToHop : (page : ℕ) → SearchTask

-- the most steps that it has left before its answer: two for each hop to come, and those up to the first look
abbrev pub search_left : Store → ℕ → SearchTask → ℕ
search_left s k ToReadDepth = 7
search_left s k (ToReadEntry depth) = 2 * hops_between s depth k + 6
search_left s k (ToGrantPage page) = 2 * distance s page k + 3
search_left s k (ToRelease page) = 2 * distance s page k + 2
search_left s k (ToLook page) = 2 * distance s page k + 1
search_left s k (ToHop page) = 2 * distance s page k

pub record SearchFalls (w : World) (k : ℕ) : Type 0 where
  pub depth : search_left w.store k (ToReadEntry w.store.header.depth) < search_left w.store k ToReadDepth
  pub entry : (seat depth : ℕ) → IsKnown seat w (Deep depth) →
      search_left w.store k (ToGrantPage (entry_at w.store (k % 2 ^ depth))) < search_left w.store k (ToReadEntry depth)
  pub granted : (page : ℕ) → search_left w.store k (ToRelease page) < search_left w.store k (ToGrantPage page)
  pub released : (page : ℕ) → search_left w.store k (ToLook page) < search_left w.store k (ToRelease page)
  pub looked : (page : ℕ) → search_left w.store k (ToHop page) < search_left w.store k (ToLook page)
  pub hopped : (page : ℕ) → PageLeads w.store w.change page k → (Answers w.store page k → ⊥) →
      search_left w.store k (ToLook (next_at w.store page)) < search_left w.store k (ToHop page)

abbrev pub SearchesFall : Type 0
SearchesFall = (hash : RecordKey → ℕ) (w : World) (k : ℕ) → IsSoundWorld hash w → SearchFalls w k

-- ---- a split or a merge

-- the phases that a change has still to go through
abbrev pub phases_left : Change → ℕ
phases_left Quiet = 0
phases_left (Taken new) = 3
phases_left (Filled old new) = 2
phases_left (Linked old new whole) = 1
phases_left (Absorbed left right whole) = 4
phases_left (Buried left right whole) = 3
phases_left (Drained left right) = 2
phases_left (Freed right) = 1

-- a change begins at TakePage or WriteLeft; each kind that goes on with it comes to a later phase, and those
-- that double and halve the directory bring its depth nearer to its end
abbrev pub Falls : Kind → World → World → Type 0
Falls WriteNew old new = phases_left new.change < phases_left old.change
Falls WriteOld old new = phases_left new.change < phases_left old.change
Falls SetCounts old new = phases_left new.change < phases_left old.change
Falls Tombstone old new = phases_left new.change < phases_left old.change
Falls WriteFree old new = phases_left new.change < phases_left old.change
Falls LinkFree old new = phases_left new.change < phases_left old.change
Falls RaiseDepth old new =
    new.store.layout.greatest - new.store.header.depth < old.store.layout.greatest - old.store.header.depth
Falls LowerDepth old new = new.store.header.depth < old.store.header.depth
Falls kind old new = Unit {0}

abbrev pub StepFalls : Kind → Type 0
StepFalls kind = (hash : RecordKey → ℕ) (seat : ℕ) (old new : World) → Does hash kind seat old new → Falls kind old new

-- a page of the directory that was copied or retargeted is behind the seat
abbrev pub CopiesOn : Type 0
CopiesOn = (hash : RecordKey → ℕ) (seat : ℕ) (old new : World) (does : CopiesDirectory seat old new) →
    IsSoundWorld hash old → old.store.header.depth < old.store.layout.greatest →
    IsCopiedBefore new.store (suc does.page)

abbrev pub RetargetsOn : Type 0
RetargetsOn = (hash : RecordKey → ℕ) (seat : ℕ) (old new : World) (does : Retargets seat old new) →
    IsSoundWorld hash old →
    IsRetargetedBefore new.store (upper_half_of does.whole) (target_of new.change) (suc does.page)

-- and each split makes its bucket deeper by a bit, so one bucket is split no more often than there are bits
abbrev pub SplitDeepens : Type 0
SplitDeepens = (hash : RecordKey → ℕ) (seat : ℕ) (old new : World) (does : WritesOld hash seat old new) →
    IsSoundWorld hash old → (bucket_at new.store does.split).depth ≡ suc (bucket_at old.store does.split).depth
