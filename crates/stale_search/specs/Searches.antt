-- What a search holds, knows and asks for at each place.
use Rattle.std.specs.Prelude.{ℕ, ◌≡◌, ◌↔◌, ◌≤◌, ◌+◌, ◌-◌, ◌%◌, ◌^◌, ◌==◌, ◌&&◌, ◌⊎◌, Bool, false, min, if◌then◌else◌}
use Rattle.std.specs.Prelude.{List, [], ◌∷◌, length, Option, Some, None, IsSome, IsTrue, ⊤}
use Rattle.std.specs.Option.{option_map}
use Rattle.step_rules.specs.Words.{Lock, LockKind, Read, Exclusive, Directory, Store, Change, Answers, entry_at, next_at, range_at}
use Rattle.stale_search.specs.Words.{RecordKey, PoolState, Table, store_of, Progress, Moved, Ended, World, Known, Deep, LeadsTo, Ask, ForLock, ForEntry, ForPage, ForAnswer, HopFrom, Turn, SearchPlace, GrantDirectory, ReadDepth, ReadEntry, GrantPage, ReleaseDirectory, Look, Hop, Found}
use Rattle.file_pages.specs.directory.declared.layout.TheConstants.{GREATEST_DEPTH}
use Rattle.file_pages.specs.hash_file.Store.{has_bucket}
use Rattle.file_pages.specs.hash_file.Changes.{RecordWrite}
use Rattle.step_rules.specs.declared.kind.Kind.{Kind}
use Rattle.step_rules.specs.declared.kind.Kind.TheVariants as kinds
use Rattle.step_rules.specs.Answering.{TakesAnswer}
use Rattle.step_rules.specs.Falls.{search_left, ToReadDepth, ToReadEntry, ToGrantPage, ToRelease, ToLook, ToHop}
use Rattle.step_rules.specs.Turns.{is_fault}
pub use Rattle.stale_search.specs.Rows.{HasNoFileLock}
use Rattle.stale_search.specs.Rows.{EndsRow, in_directory, on_page}
use Rattle.stale_search.specs.Steps.{Sees, Stays, world}

pub record SearchView : Type 0 where
  pub key : RecordKey
  pub pseudokey : ℕ
  -- in which it locks pages
  pub kind : LockKind
  pub place : SearchPlace
  -- those that it made, from page to page
  pub hops : ℕ

abbrev pub HasDepthInRange : SearchPlace → Type 0
HasDepthInRange (ReadEntry depth) = depth ≤ GREATEST_DEPTH
HasDepthInRange place = ⊤

-- a page is locked exclusively by no search
abbrev pub IsShared : LockKind → Type 0
IsShared kind = kind ≡ Exclusive → ⊥

abbrev pub HasNotHopped : SearchPlace → ℕ → Type 0
HasNotHopped GrantDirectory hops = hops ≡ 0
HasNotHopped place hops = ⊤

-- what is always so of a search
pub record IsSearch (kind : LockKind) (place : SearchPlace) (hops : ℕ) : Type 0 where
  pub shared : IsShared kind
  -- an entry is read by a depth that a directory can have
  pub in_range : HasDepthInRange place
  pub begun : HasNotHopped place hops

-- ---- locks

-- its locks, behind those that the seat had before
abbrev pub locks_at : SearchPlace → LockKind → List Lock → List Lock
locks_at GrantDirectory kind before = before
locks_at ReadDepth kind before = in_directory Read before
locks_at (ReadEntry depth) kind before = in_directory Read before
locks_at (GrantPage n) kind before = in_directory Read before
locks_at (ReleaseDirectory n) kind before = on_page n kind (in_directory Read before)
locks_at (Look n) kind before = on_page n kind before
locks_at (Hop n) kind before = on_page n kind before
locks_at (Found n found) kind before = on_page n kind before

abbrev pub search_locks : SearchView → List Lock → List Lock
search_locks s before = locks_at s.place s.kind before

-- the row of its seat ends with its locks, two at most
abbrev pub HasRow : SearchView → List Lock → Type 0
HasRow s row = EndsRow (search_locks s) 2 row

-- ---- facts

abbrev pub facts_at : SearchPlace → ℕ → List Known
facts_at GrantDirectory k = []
facts_at ReadDepth k = []
facts_at (ReadEntry depth) k = Deep depth ∷ []
facts_at (GrantPage n) k = LeadsTo n k ∷ []
facts_at (ReleaseDirectory n) k = LeadsTo n k ∷ []
facts_at (Look n) k = LeadsTo n k ∷ []
facts_at (Hop n) k = LeadsTo n k ∷ []
facts_at (Found n found) k = LeadsTo n k ∷ []

abbrev pub search_facts : SearchView → List Known
search_facts s = facts_at s.place s.pseudokey

-- ---- turns

abbrev pub ask_at : SearchPlace → LockKind → ℕ → Option Ask
ask_at GrantDirectory kind k = Some (ForLock Directory Read)
ask_at (ReadEntry depth) kind k = Some (ForEntry depth k)
ask_at (GrantPage n) kind k = Some (ForPage n k kind)
ask_at (ReleaseDirectory n) kind k = Some (ForAnswer n k)
ask_at (Look n) kind k = Some (ForAnswer n k)
ask_at (Hop n) kind k = Some (HopFrom n k)
ask_at (Found n found) kind k = Some (ForAnswer n k)
ask_at place kind k = None

-- in an operation that is to write this record, or none
abbrev pub search_turn : SearchView → Option RecordWrite → Turn
search_turn s write = record { ask = ask_at s.place s.kind s.pseudokey; write = write }

-- ---- the answer

abbrev pub found_at : SearchPlace → Option (ℕ × Option ℕ)
found_at (Found n found) = Some (n, found)
found_at place = None

-- a page that was looked at is to be left, or has been found
abbrev pub LooksFrom : ℕ → SearchPlace → Type 0
LooksFrom n new = (new ≡ Hop n) ⊎ ((found : Option ℕ) × (new ≡ Found n found))

-- a page that answers by now is looked at again, and another one left for the page that it names
abbrev pub HopsFrom : Store → ℕ → ℕ → SearchPlace → Type 0
HopsFrom s n k new = (Answers s n k × (new ≡ Look n)) ⊎ ((Answers s n k → ⊥) × (new ≡ Look (next_at s n)))

-- where a step of a kind leads from a place, by what the file says
abbrev pub LeadsFrom : Kind → ℕ → Store → (old new : SearchPlace) → Type 0
LeadsFrom kind k s GrantDirectory new = (kind ≡ kinds.Grant) × (new ≡ ReadDepth)
LeadsFrom kind k s ReadDepth new = (kind ≡ kinds.ReadDepth) × (new ≡ ReadEntry s.header.depth)
LeadsFrom kind k s (ReadEntry depth) new = (kind ≡ kinds.ReadEntry) × (new ≡ GrantPage (entry_at s (k % 2 ^ depth)))
LeadsFrom kind k s (GrantPage n) new = (kind ≡ kinds.Grant) × (new ≡ ReleaseDirectory n)
LeadsFrom kind k s (ReleaseDirectory n) new = (kind ≡ kinds.Release) × (new ≡ Look n)
LeadsFrom kind k s (Look n) new = (kind ≡ kinds.Look) × LooksFrom n new
LeadsFrom kind k s (Hop n) new = (kind ≡ kinds.Hop) × HopsFrom s n k new
LeadsFrom kind k s (Found n found) new = ⊥

-- and where the step did not move, it stays
abbrev pub IsLed : {F : Type 0} → Progress F → ℕ → Store → (old new : SearchPlace) → Type 0
IsLed (Moved kind) k s old new = LeadsFrom kind k s old new
IsLed did k s old new = new ≡ old

-- a count of hops, which ends at what its number holds
abbrev pub hops_after : ℕ → (old new : SearchPlace) → ℕ
hops_after hops (Hop n) (Look m) = if n == m then hops else min (hops + 1) (2 ^ 64 - 1)
hops_after hops old new = hops

-- what it looks for stays, it has ended where it has found, its hops are counted, and where it comes to is what it read
pub record KeepsAim {F : Type 0} (did : Progress F) (pool : PoolState) (old new : SearchView) : Type 0 where
  pub key : new.key ≡ old.key
  pub pseudokey : new.pseudokey ≡ old.pseudokey
  pub kind : new.kind ≡ old.kind
  pub ended : (did ≡ Ended) ↔ IsSome (found_at old.place)
  pub stays : Stays did old new
  pub hops : new.hops ≡ hops_after old.hops old.place new.place
  pub begun : HasNotHopped old.place old.hops
  -- on an honest device
  pub led : IsTrue pool.honest → IsLed did old.pseudokey (store_of pool.images) old.place new.place

-- an answer is taken at a Look of the page of the place, where that page answers, and nowhere else; of a value it is
-- the length
abbrev pub AnswersFor : {F : Type 0} → (RecordKey → ℕ) → ℕ → Progress F → RecordKey → SearchPlace → SearchPlace →
    World → Type 0
AnswersFor hash seat did key (Look n) (Found m found) w =
    (m ≡ n) × TakesAnswer hash did seat n key (option_map length) None (Some found) w
AnswersFor hash seat did key (Look n) place w = ⊤
AnswersFor hash seat did key old new w = found_at new ≡ found_at old

-- where the pseudokey is that of the key
abbrev pub GivesAnswer : {F : Type 0} → ℕ → Progress F → (old new : SearchView) → PoolState → Table → Type 0
GivesAnswer seat did old new pool locks = (hash : RecordKey → ℕ) (change : Change) → hash old.key ≡ old.pseudokey →
    Sees hash seat (search_facts old) pool locks change → is_fault did ≡ false →
    AnswersFor hash seat did old.key old.place new.place (world pool.images locks change)

-- ---- the steps that are left, if no other seat steps

-- whether the page answers
abbrev pub answers_at : Store → ℕ → ℕ → Bool
answers_at s n k = has_bucket s n && k % 2 ^ (range_at s n).depth == (range_at s n).pattern

-- those of its task; one more before the directory is locked, and before a page that answers by now is looked at again
abbrev pub left_at : SearchPlace → ℕ → Store → ℕ
left_at GrantDirectory k s = search_left s k ToReadDepth + 1
left_at ReadDepth k s = search_left s k ToReadDepth
left_at (ReadEntry depth) k s = search_left s k (ToReadEntry depth)
left_at (GrantPage n) k s = search_left s k (ToGrantPage n)
left_at (ReleaseDirectory n) k s = search_left s k (ToRelease n)
left_at (Look n) k s = search_left s k (ToLook n)
left_at (Hop n) k s = if answers_at s n k then search_left s k (ToLook n) + 1 else search_left s k (ToHop n)
left_at (Found n found) k s = 0

abbrev pub steps_left : SearchView → Store → ℕ
steps_left v s = left_at v.place v.pseudokey s

-- those before and after a step
abbrev pub left_in : SearchView → PoolState → ℕ
left_in v pool = steps_left v (store_of pool.images)
