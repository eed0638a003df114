-- What an insert holds, knows and asks for: its first try, and then the second one. docs/STEPS.md, "Insert, Replace,
-- Delete".
use Rattle.std.specs.Prelude.{ℕ, ◌≡◌, ◌+◌, Bool, true, false, List, Option, Some, None, IsSome, ⊤}
use Rattle.record_file.specs.BucketAccesses.{BucketView, SuitsKind, bucket_facts, bucket_left, bucket_locks, found_of, has_ended, is_on_way}
use Rattle.record_file.specs.BucketAccesses.{ask_in as bucket_ask}
use Rattle.record_file.specs.declared.bucket_access.Deed.TheVariants as deeds
use Rattle.record_file.specs.InsertWords.{RecordKey, pair, Put, Lock, Store, Known, Ask, Turn, Tried}
use Rattle.record_file.specs.SecondTries.{SecondTryView, second_facts, second_left, second_locks, said_at, splits_left, tried_at}
use Rattle.record_file.specs.SecondTries.{ask_at as second_ask_at}
use Rattle.record_file.specs.declared.insert.InsertStage.{InsertStage}
use Rattle.record_file.specs.declared.insert.InsertStage.TheVariants.{First, Second}

pub record InsertView : Type 0 where
  pub key : RecordKey
  pub pseudokey : ℕ
  pub stage : InsertStage

-- a page answered that has the key
abbrev pub is_there : Option (ℕ × Option ℕ) → Bool
is_there (Some (page, Some bytes)) = true
is_there (Some (page, None)) = false
is_there None = false

-- a first try at this key. As long as it came to nothing it has not ended, nor seen the key
pub record IsFirstAt (key : RecordKey) (k : ℕ) (t : BucketView) (said : Option Tried) : Type 0 where
  pub key_is : t.search.key ≡ key
  pub pseudokey_is : t.search.pseudokey ≡ k
  -- its search locks pages to write them
  pub kind_is : SuitsKind deeds.Put t.search.kind
  pub unseen : said ≡ None → is_there (found_of t) ≡ false
  pub going : said ≡ None → has_ended t.stage ≡ false

pub record IsSecondAt (key : RecordKey) (k : ℕ) (t : SecondTryView) : Type 0 where
  pub key_is : t.key ≡ key
  pub pseudokey_is : t.pseudokey ≡ k

abbrev pub IsInsert : RecordKey → ℕ → InsertStage → Type 0
IsInsert key k (First t said) = IsFirstAt key k t said
IsInsert key k (Second t) = IsSecondAt key k t

-- its first try, which has come to nothing yet
pub record IsTry (b : BucketView) (i : InsertView) : Type 0 where
  pub stage : i.stage ≡ First b None
  pub first : IsFirstAt i.key i.pseudokey b None

-- a value of so many bytes may be lent
abbrev pub IsLent : ℕ → InsertStage → Type 0
IsLent bytes (First t said) = ⊤
IsLent bytes (Second t) = bytes ≡ t.bytes

-- its search is under way: a second try makes none
abbrev pub searches_in : InsertStage → Bool
searches_in (First t said) = is_on_way t.search.place
searches_in (Second t) = false

-- its locks, behind those that the seat had before
abbrev pub locks_in : InsertStage → List Lock → List Lock
locks_in (First t said) before = bucket_locks t before
locks_in (Second t) before = second_locks t before

abbrev pub insert_locks : InsertView → List Lock → List Lock
insert_locks i before = locks_in i.stage before

abbrev pub facts_in : InsertStage → List Known
facts_in (First t said) = bucket_facts deeds.Put t
facts_in (Second t) = second_facts t

abbrev pub insert_facts : InsertView → List Known
insert_facts i = facts_in i.stage

abbrev pub ask_in : InsertStage → Option Ask
ask_in (First t said) = bucket_ask t.stage t.search
ask_in (Second t) = second_ask_at t.place t.pseudokey

-- this value is to be put, at the key and no other
abbrev pub insert_turn : InsertView → List ℕ → Turn
insert_turn i value = record { ask = ask_in i.stage; write = Some (Put (pair i.key value)) }

-- what it has come to
abbrev pub said_of : InsertStage → Option Tried
said_of (First t said) = said
said_of (Second t) = said_at t.place

-- it gave all locks back
abbrev pub IsOver : InsertStage → Type 0
IsOver (First t said) = has_ended t.stage ≡ true
IsOver (Second t) = IsSome (tried_at t.place)

-- the steps that are left, if no other seat steps; those of the second try before it begins
abbrev pub SECOND_STEPS : ℕ
SECOND_STEPS = 4 + (splits_left 0 + 7)

abbrev pub left_in : InsertStage → Store → ℕ
left_in (First t said) s = bucket_left deeds.Put t s + SECOND_STEPS
left_in (Second t) s = second_left t s

abbrev pub insert_left : InsertView → Store → ℕ
insert_left i s = left_in i.stage s
