-- Where names stand in a table of slots, which is a circle: each from its home on, in the first slot
-- that had place (linear probing; Knuth, The Art of Computer Programming, volume 3, section 6.4).
use Rattle.std.specs.Prelude.{◌≡◌, ◌≢◌, ◌⊎◌, ℕ, ◌+◌, ◌-◌, ◌%◌, ◌<◌, Bool, true, false, not, ◌&&◌, ◌||◌, List, length, Option, Some, None, slice_index_or}
use Rattle.std.specs.List.{find, list_any}
use Rattle.page_locks.specs.declared.holders.Holders.{Holders}
use Rattle.page_locks.specs.declared.lock.LockName.{LockName}
use Rattle.page_locks.specs.declared.lock.LockName.TheVariants.{Key, Counter, Queue, Directory, Page}
use Rattle.page_locks.specs.declared.slot.Slot.{Slot}
use Rattle.page_locks.specs.declared.slot.TheConstants.{SLOTS}
use Rattle.page_locks.specs.Holding.{nobody, is_nobody}
use Rattle.page_locks.specs.Locks.{is_same}

-- the slot where the search for a name begins
abbrev pub home : LockName → ℕ
home (Key n) = n % SLOTS
home Counter = 0
home (Queue n) = n % SLOTS
home Directory = 0
home (Page n) = n % SLOTS

-- the slot that comes so many steps after another
abbrev pub after : ℕ → ℕ → ℕ
after from steps = (from + steps) % SLOTS

-- how many steps lead from a slot to another
abbrev pub gap : ℕ → ℕ → ℕ
gap from to = (to + (SLOTS - from)) % SLOTS

-- a slot in which no name stands
abbrev pub free_slot : Slot
free_slot = record { name = Counter; holders = nobody }

abbrev pub slot_at : List Slot → ℕ → Slot
slot_at slots place = slice_index_or slots place free_slot

-- whether a name stands in the slot
abbrev pub is_taken : List Slot → ℕ → Bool
is_taken slots place = not (is_nobody (slot_at slots place).holders)

abbrev pub name_at : List Slot → ℕ → LockName
name_at slots place = (slot_at slots place).name

-- how far a name stands from its home
abbrev pub way : List Slot → ℕ → ℕ
way slots place = gap (home (name_at slots place)) place

-- what is true of every table of slots
pub record IsProbed (slots : List Slot) : Type 0 where
  -- the circle has its size
  pub as_many : length slots ≡ SLOTS
  -- no name stands twice
  pub once : (i j : ℕ) → is_taken slots i ≡ true → is_taken slots j ≡ true →
      name_at slots i ≡ name_at slots j → i ≡ j
  -- no empty slot stands between a name's home and its slot
  pub reached : (place steps : ℕ) → place < SLOTS → is_taken slots place ≡ true →
      steps < way slots place →
      is_taken slots (after (home (name_at slots place)) steps) ≡ true

-- a table in order, but that a slot has become empty over which later names had passed
pub record IsOpened (slots : List Slot) (hole : ℕ) : Type 0 where
  -- the circle has its size
  pub as_many : length slots ≡ SLOTS
  -- the hole is one of its slots
  pub inside : hole < SLOTS
  -- and no name stands there
  pub free : is_taken slots hole ≡ false
  -- no name stands twice
  pub once : (i j : ℕ) → is_taken slots i ≡ true → is_taken slots j ≡ true →
      name_at slots i ≡ name_at slots j → i ≡ j
  -- between a name's home and its slot the hole alone is empty
  pub reached : (place steps : ℕ) → place < SLOTS → is_taken slots place ≡ true →
      steps < way slots place →
      (after (home (name_at slots place)) steps ≡ hole) ⊎
      (is_taken slots (after (home (name_at slots place)) steps) ≡ true)

-- some slot is free
abbrev pub HasFree : List Slot → Type 0
HasFree slots = (free : ℕ) × (free < SLOTS) × (is_taken slots free ≡ false)

-- some slot but this one is free
abbrev pub HasFreeBut : ℕ → List Slot → Type 0
HasFreeBut place slots =
    (free : ℕ) × (free < SLOTS) × (is_taken slots free ≡ false) × (free ≢ place)

-- whether this name stands in the slot
abbrev pub has_name : LockName → Slot → Bool
has_name name slot = not (is_nobody slot.holders) && is_same slot.name name

-- whether it does, or may
abbrev pub is_open : LockName → Slot → Bool
is_open name slot = is_nobody slot.holders || is_same slot.name name

abbrev pub holders_found : Option Slot → Holders
holders_found None = nobody
holders_found (Some slot) = slot.holders

-- who holds a name: the plain map that the slots are
abbrev pub holders_of : List Slot → LockName → Holders
holders_of slots name = holders_found (find (has_name name) slots)

-- fewer names stand in the slots than there are slots
pub record HasFewNames (slots : List Slot) : Type 0 where
  pub names : List LockName
  -- the list is short
  pub few : length names < SLOTS
  -- and has each name that is held
  pub all : (name : LockName) → is_nobody (holders_of slots name) ≡ false →
      list_any (is_same name) names ≡ true

-- the slot where a name stands, else the first from its home on that has place
pub record IsSpot (slots : List Slot) (name : LockName) (place : ℕ) : Type 0 where
  -- it is one of the slots
  pub within : place < SLOTS
  -- no other name stands there
  pub its : is_taken slots place ≡ true → name_at slots place ≡ name
  -- names stand in all slots from the home on to it
  pub taken : (steps : ℕ) → steps < gap (home name) place →
      is_taken slots (after (home name) steps) ≡ true
  -- and this name in none of them
  pub others : (steps : ℕ) → steps < gap (home name) place →
      name_at slots (after (home name) steps) ≢ name

-- a name is now held by these, and every other as it was
pub record ChangesName (name : LockName) (holders : Holders) (old new : List Slot)
    : Type 0 where
  pub own : holders_of new name ≡ holders
  pub others : (other : LockName) → other ≢ name → holders_of new other ≡ holders_of old other

-- a name that stands in a slot, or is asked for
abbrev pub IsWanted : List Slot → LockName → LockName → Type 0
IsWanted slots asked name = (name ≡ asked) ⊎ (is_nobody (holders_of slots name) ≡ false)

-- no two of these names have one home
abbrev pub HasHomesApart : List Slot → LockName → Type 0
HasHomesApart slots asked =
    (a b : LockName) → IsWanted slots asked a → IsWanted slots asked b → home a ≡ home b → a ≡ b
