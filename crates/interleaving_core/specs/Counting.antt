-- What is counted of a seat's last search, and of what was done meanwhile. docs/STEPS.md, "Search".
use Rattle.std.specs.Prelude.{ℕ, zero, suc, ◌≡◌, ◌≢◌, ◌≤◌, ◌<◌, ◌+◌, min, Bool, true, false, ◌&&◌, ◌||◌, if◌then◌else◌, List, length, replicate, slice_index_or}
use Rattle.std.specs.List.{All}
use Rattle.step_rules.specs.Kinds.{may_lengthen}
use Rattle.step_rules.specs.Ways.{hops_added}
use Rattle.step_rules.specs.declared.kind.Kind.{Kind}
use Rattle.step_rules.specs.declared.kind.Kind.TheVariants as kinds
use Rattle.xsi_calls.specs.declared.call_machine.one_go.TheConstants.{QUESTION_STEPS}
use Rattle.interleaving_core.specs.declared.count.SearchCount.{SearchCount}
use Rattle.interleaving_core.specs.declared.under_way.UnderWay.{UnderWay}
use Rattle.interleaving_core.specs.declared.under_way.UnderWay.TheVariants.{Nothing, Split, Merge}

-- ---- the structure change under way

-- the buckets are counted anew: a split is over, and a merge has still to free its page
abbrev pub change_counted : UnderWay → UnderWay
change_counted Nothing = Nothing
change_counted Split = Nothing
change_counted Merge = Merge

abbrev pub change_after : Kind → UnderWay → UnderWay
change_after kinds.TakePage u = Split
change_after kinds.WriteLeft u = Merge
change_after kinds.SetCounts u = change_counted u
change_after kinds.LinkFree u = Nothing
change_after kind u = u

abbrev pub is_nothing : UnderWay → Bool
is_nothing Nothing = true
is_nothing Split = false
is_nothing Merge = false

-- ---- one seat

-- the greatest number that is counted
abbrev pub MOST_COUNTED : ℕ
MOST_COUNTED = 18446744073709551615

-- before the first search of a seat
abbrev pub unbegun_count : SearchCount
unbegun_count = record { hops = 0; changes = 0; calm = true; over = true }

-- a search that begins while this is under way
abbrev pub begun_count : UnderWay → SearchCount
begun_count u = record { hops = 0; changes = 0; calm = is_nothing u; over = false }

-- that of a search which was answered at once, while this is under way
abbrev pub answered_count : UnderWay → SearchCount
answered_count u = record { hops = 0; changes = 0; calm = is_nothing u; over = true }

-- after a step of any seat; that of a search which is over stays
abbrev pub count_behind : Kind → UnderWay → SearchCount → SearchCount
count_behind kind u c = record c {
  changes = if c.over then c.changes else min (c.changes + hops_added kind) MOST_COUNTED;
  calm = if c.over then c.calm else c.calm && is_nothing u;
}

-- a search that is under way has gone on to another page, or a page has answered it
abbrev pub gone_count : (goes_on ends : Bool) → SearchCount → SearchCount
gone_count true ends c = record c { hops = min (c.hops + 1) MOST_COUNTED; over = ends }
gone_count false ends c = record c { over = ends }

-- after a step of the seat itself, by which a search begins, or the one under way goes on, or ends
abbrev pub own_count : (begins goes_on ends : Bool) → UnderWay → SearchCount → SearchCount
own_count true goes_on ends u c = begun_count u
own_count false goes_on ends u c = if c.over then c else gone_count goes_on ends c

-- the kinds with which a split and a merge begin
abbrev pub begins_change : Kind → Bool
begins_change kinds.TakePage = true
begins_change kinds.WriteLeft = true
begins_change kind = false

-- the kinds by which the counts of all seats may come to differ
abbrev pub touches_all : Kind → Bool
touches_all kind = may_lengthen kind || begins_change kind

-- the kinds with which a split or a merge ends
abbrev pub ends_change : Kind → Bool
ends_change kinds.SetCounts = true
ends_change kinds.LinkFree = true
ends_change kind = false

-- the kinds that are counted for more than the searches of their own seat
abbrev pub counts_for_all : Kind → Bool
counts_for_all kind = touches_all kind || ends_change kind

-- whether any count may come to differ
abbrev pub changes_counts : Kind → (begins goes_on ends : Bool) → Bool
changes_counts kind begins goes_on ends = begins || (goes_on || (ends || counts_for_all kind))

-- ---- all seats

pub record CountsState : Type 0 where
  pub counts : List SearchCount
  pub under_way : UnderWay

-- what stands for a number that is no seat's: a count that no step changes
abbrev pub no_count : SearchCount
no_count = record { hops = MOST_COUNTED; changes = MOST_COUNTED; calm = false; over = true }

-- the count of a seat; seats count from 1
abbrev pub count_at : List SearchCount → ℕ → SearchCount
count_at counts zero = no_count
count_at counts (suc place) = slice_index_or counts place no_count

abbrev pub IsCountedSeat : List SearchCount → ℕ → Type 0
IsCountedSeat counts seat = (1 ≤ seat) × (seat ≤ length counts)

-- so many seats that have not searched
abbrev pub opened_counts : ℕ → CountsState
opened_counts n = record { counts = replicate n unbegun_count; under_way = Nothing }

-- what is true of all counts
pub record AreSoundCounts (s : CountsState) : Type 0 where
  pub few : All (λ (c : SearchCount). c.changes ≤ MOST_COUNTED) s.counts
  -- while something is under way that of no search under way is calm
  pub stirred : is_nothing s.under_way ≡ false → All (λ (c : SearchCount). c.over ≡ false → c.calm ≡ false) s.counts

-- a step of a seat is counted, by which its search begins, or goes on to another page, or is answered by one, or none
-- of these
pub record Notes (seat : ℕ) (kind : Kind) (begins goes_on ends : Bool) (old new : CountsState) : Type 0 where
  pub under_way : new.under_way ≡ change_after kind old.under_way
  pub as_many : length new.counts ≡ length old.counts
  pub own : count_at new.counts seat ≡
      own_count begins goes_on ends new.under_way (count_behind kind new.under_way (count_at old.counts seat))
  pub others : (other : ℕ) → other ≢ seat →
      count_at new.counts other ≡ count_behind kind new.under_way (count_at old.counts other)

-- a search of the seat begins by a Grant, and a page answers it by a Look; between them nothing is counted
pub record NotesSearch (seat : ℕ) (old new : CountsState) : Type 0 where
  pub begun : CountsState
  pub sound : AreSoundCounts begun
  pub begins : Notes seat kinds.Grant true false false old begun
  pub ends : Notes seat kinds.Look false false true begun new

-- so many moves are made of a seat in one go. Where they are fewer than those of a question no search is among them
pub record NotesGo (seat moves : ℕ) (old new : CountsState) : Type 0 where
  pub searched : QUESTION_STEPS ≤ moves → NotesSearch seat old new
  pub none : moves < QUESTION_STEPS → new ≡ old
