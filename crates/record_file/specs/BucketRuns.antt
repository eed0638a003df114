-- A find within one bucket that is made in one go, and the way of any access to its page: their states.
-- docs/STEPS.md, "Search".
use Rattle.std.specs.Prelude.{ℕ, false, List, [], ◌∷◌, ◌++◌, Option}
use Rattle.split_merge.specs.file_pages.declared.fault.FileFault.{FileFault}
use Rattle.split_merge.specs.stale_search.SearchRuns.{At, HasAt, at, standing, search_at, way_to}
use Rattle.split_merge.specs.stale_search.declared.place.SearchPlace.{SearchPlace}
use Rattle.split_merge.specs.stale_search.declared.place.SearchPlace.TheVariants.{Found}
use Rattle.step_rules.specs.Runs.{MovesAlong, Stop, stop, stops_in}
use Rattle.record_file.specs.Words.{PoolState, Progress, Release, Table, store_of}
use Rattle.record_file.specs.BucketAccesses.{BucketView, SuitsKind, bucket_locks}
use Rattle.record_file.specs.BucketSteps.{MakesBucket}
use Rattle.record_file.specs.declared.bucket_access.BucketStage.TheVariants.{Written, Ended as HasEnded}
use Rattle.record_file.specs.declared.bucket_access.Deed.{Deed}
use Rattle.record_file.specs.declared.bucket_access.Deed.TheVariants as deeds

-- a step of a deed, whatever bytes are lent to it
abbrev pub BucketStep : Deed → ℕ → Progress FileFault → (old new : At BucketView) → Type 0
BucketStep deed seat did old new = (bytes : List ℕ) →
    MakesBucket deed seat bytes did old.machine new.machine old.pool new.pool old.locks new.locks

abbrev pub bucket_at : SearchPlace → BucketView → BucketView
bucket_at place b = record b { search = search_at place b.search }

-- it has found, and given the page back
abbrev pub bucket_found : ℕ → Option ℕ → BucketView → BucketView
bucket_found page found b = record { search = search_at (Found page found) b.search; stage = HasEnded false }

-- it has written the page that answered, and nothing more is due behind it
abbrev pub bucket_written : ℕ → (found : Option ℕ) → BucketView → BucketView
bucket_written page found b = record { search = search_at (Found page found) b.search; stage = Written page false }

-- its states from where it has not begun, up to where its page answers
abbrev pub bucket_way : ℕ → (page : ℕ) → Option ℕ → At BucketView → List (Stop (At BucketView))
bucket_way seat page found old =
    stops_in (λ (place : SearchPlace). standing bucket_locks seat old.pool old.locks (bucket_at place old.machine))
    (way_to (store_of old.pool.images).header.depth page found)

-- and of a find, up to where it has given that page back
abbrev pub bucket_stops : ℕ → (page : ℕ) → Option ℕ → At BucketView → List (Stop (At BucketView))
bucket_stops seat page found old = bucket_way seat page found old
    ++ stop Release (at (bucket_found page found old.machine) old.pool old.locks) ∷ []

-- whatever its deed, it moves to where the page answers what it has
abbrev pub BucketHeads : ℕ → (page : ℕ) → BucketView → PoolState → Table → Type 0
BucketHeads seat page b pool locks = (deed : Deed) (found : Option ℕ) → SuitsKind deed b.search.kind →
    HasAt page found b.search pool →
    MovesAlong (BucketStep deed seat) (at b pool locks) (bucket_way seat page found (at b pool locks))

-- a find moves to where the page answers what it has, and gives it back
abbrev pub FindsStraight : ℕ → (page : ℕ) → BucketView → PoolState → Table → Type 0
FindsStraight seat page b pool locks = (found : Option ℕ) → HasAt page found b.search pool →
    MovesAlong (BucketStep deeds.Find seat) (at b pool locks) (bucket_stops seat page found (at b pool locks))
