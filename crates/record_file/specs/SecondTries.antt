-- What the second try of an Insert holds, knows and asks for at each place. docs/STEPS.md, "Insert, Replace, Delete".
use Rattle.std.specs.Prelude.{ℕ, suc, ◌≡◌, ◌≤◌, ◌+◌, ◌-◌, ◌*◌, false, List, [], ◌∷◌, Option, Some, None, if◌then◌else◌, ⊤}
use Rattle.record_file.specs.InsertWords.{RECORD_HEAD_BYTES, ROOM_BYTES, GREATEST_DEPTH, RecordKey, pair, Put, Lock, Selective, Store, range_at, next_at, answers_at, Quiet, Known, LeadsTo, OnPage, Live, Built, Covering, Lacking, Using, InPhase, HasDepth, Near, Ask, HopFrom, Turn, EndsRow, in_directory, on_page, ApproachView, approach_locks, approach_facts, approach_ask_at, approach_left, reached_at, SplitView, split_locks, split_facts, split_left, has_ended, Wanted, Tried, SecondPlace, Approaching, Look, Hop, Write, Splitting, GiveBackPage, GiveBackDirectory, HasEnded}

pub record SecondTryView : Type 0 where
  pub key : RecordKey
  pub pseudokey : ℕ
  -- of the value that is to be put
  pub bytes : ℕ
  pub place : SecondPlace

-- ---- what is always so of a place

-- on the way to the bucket of a pseudokey
pub record IsOnWayTo (k : ℕ) (a : ApproachView) : Type 0 where
  pub pseudokey : a.pseudokey ≡ k
  pub going : reached_at a.place ≡ None

-- a split of the bucket on a page, for a record that is wanted
pub record IsSplitFor (wanted : Wanted) (page : ℕ) (v : SplitView) : Type 0 where
  pub wanted_is : v.wanted ≡ wanted
  pub page_is : v.page ≡ page
  pub going : has_ended v.place ≡ false

abbrev pub IsSecondPlace : Wanted → SecondPlace → Type 0
IsSecondPlace wanted (Approaching a) = IsOnWayTo wanted.pseudokey a
IsSecondPlace wanted (Write n used) = used + (RECORD_HEAD_BYTES + wanted.bytes) ≤ ROOM_BYTES
IsSecondPlace wanted (Splitting n v) = IsSplitFor wanted n v
IsSecondPlace wanted place = ⊤

-- ---- locks

abbrev pub on_one : ℕ → List Lock → List Lock
on_one n before = on_page n Selective (in_directory Selective before)

abbrev pub locks_at : SecondPlace → List Lock → List Lock
locks_at (Approaching a) before = approach_locks a before
locks_at (Look depth n) before = on_one n before
locks_at (Hop depth n) before = on_one n before
locks_at (Write n used) before = on_one n before
locks_at (Splitting n v) before = split_locks v before
locks_at (GiveBackPage n tried) before = on_one n before
locks_at (GiveBackDirectory tried) before = in_directory Selective before
locks_at (HasEnded tried) before = before

-- its locks, behind those that the seat had before
abbrev pub second_locks : SecondTryView → List Lock → List Lock
second_locks t before = locks_at t.place before

-- a hop has three locks for a moment
abbrev pub HasSecondRow : SecondTryView → List Lock → Type 0
HasSecondRow t row = EndsRow (second_locks t) 3 row

-- ---- facts

-- no change is under way, the directory is so deep, and the page is live and one hop at most from the bucket
abbrev pub near_facts : (depth n k : ℕ) → List Known
near_facts depth n k = Built (InPhase Quiet) ∷ Built (HasDepth depth) ∷ Built (Near n k) ∷ Live n ∷ []

-- and it is the bucket, lacks the key, and has so many bytes
abbrev pub write_facts : (n used : ℕ) → RecordKey → ℕ → List Known
write_facts n used key k =
    Built (InPhase Quiet) ∷ LeadsTo n k ∷ OnPage n (Covering k) ∷ OnPage n (Lacking key) ∷ OnPage n (Using used) ∷ []

abbrev pub facts_at : SecondPlace → RecordKey → ℕ → List Known
facts_at (Approaching a) key k = approach_facts a
facts_at (Look depth n) key k = near_facts depth n k
facts_at (Hop depth n) key k = near_facts depth n k
facts_at (Write n used) key k = write_facts n used key k
facts_at (Splitting n v) key k = split_facts v
facts_at (GiveBackPage n tried) key k = Built (InPhase Quiet) ∷ []
facts_at (GiveBackDirectory tried) key k = Built (InPhase Quiet) ∷ []
facts_at (HasEnded tried) key k = []

abbrev pub second_facts : SecondTryView → List Known
second_facts t = facts_at t.place t.key t.pseudokey

-- ---- turns

abbrev pub ask_at : SecondPlace → ℕ → Option Ask
ask_at (Approaching a) k = approach_ask_at a.place
ask_at (Hop depth n) k = Some (HopFrom n k)
ask_at place k = None

-- this value is to be put
abbrev pub second_turn : SecondTryView → List ℕ → Turn
second_turn t value = record {
  ask = ask_at t.place t.pseudokey;
  write = Some (Put (pair t.key value));
}

-- ---- its end

abbrev pub tried_at : SecondPlace → Option Tried
tried_at (HasEnded tried) = Some tried
tried_at place = None

-- what it has come to, from the step on by which it did
abbrev pub said_at : SecondPlace → Option Tried
said_at (GiveBackPage n tried) = Some tried
said_at (GiveBackDirectory tried) = Some tried
said_at (HasEnded tried) = Some tried
said_at place = None

-- ---- the steps that are left, if no other seat steps

-- those of a split and of the looks behind it are fewer
abbrev pub SPLIT_STEPS : ℕ
SPLIT_STEPS = 530

-- those of the splits that there may be yet of a bucket of this depth
abbrev pub splits_left : ℕ → ℕ
splits_left depth = (GREATEST_DEPTH - depth) * SPLIT_STEPS

-- where the bucket of the pseudokey is the page, or the next one
abbrev pub home_at : Store → (n k : ℕ) → ℕ
home_at s n k = if answers_at s n k then n else next_at s n

abbrev pub look_left : Store → (n k : ℕ) → ℕ
look_left s n k = splits_left (range_at s (home_at s n k)).depth + (if answers_at s n k then 4 else 6)

abbrev pub left_at : SecondPlace → ℕ → Store → ℕ
left_at (Approaching a) k s = approach_left a + (splits_left 0 + 7)
left_at (Look depth n) k s = look_left s n k
left_at (Hop depth n) k s = splits_left (range_at s (home_at s n k)).depth + 5
left_at (Write n used) k s = 3
left_at (Splitting n v) k s = splits_left (suc v.whole.depth) + (split_left v + 8)
left_at (GiveBackPage n tried) k s = 2
left_at (GiveBackDirectory tried) k s = 1
left_at (HasEnded tried) k s = 0

abbrev pub second_left : SecondTryView → Store → ℕ
second_left t s = left_at t.place t.pseudokey s
