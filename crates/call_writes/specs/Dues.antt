-- What of a plan is due: the deed that comes next, and what is owed. docs/STEPS.md, "What a call writes".
use Rattle.std.specs.Prelude.{ℕ, zero, suc, ◌≡◌, ◌≤◌, ◌+◌, ◌-◌, nat_lt, List, length, take, drop, slice_get, Option, Some, None, option_map, if◌then◌else◌, ⊤}
use Rattle.std.specs.List.{All}
use Rattle.call_writes.specs.declared.deed.Deed.TheVariants as deeds
use Rattle.xsi_inquiry.specs.declared.write.TheConstants.{MAX_TRIALS}
use Rattle.call_writes.specs.WriteWords.{RecordKey, Record, IsInRange, key_of, Write, Delete, writes_left, AreAbsent, CanAllBe, HasRange, Plan, Records, with_at, written_by, Owes, Writes, undoing, Purpose, ToInsert, ToWrite, aimed_at, Deed, Due, Trying, Full, Undoing, Writing}

-- ---- deeds

-- what its access is for
abbrev pub purpose_of : Deed → Purpose
purpose_of (deeds.Trial r) = ToInsert r
purpose_of (deeds.Write w) = ToWrite w

-- the key that it is about
abbrev pub deed_key : Deed → RecordKey
deed_key d = aimed_at (purpose_of d)

-- what it writes keeps the limits of one record
abbrev pub IsDeedInRange : Deed → Type 0
IsDeedInRange (deeds.Trial r) = IsInRange r
IsDeedInRange (deeds.Write w) = HasRange w

-- the records behind it
abbrev pub after_deed : Deed → Records → Records
after_deed (deeds.Trial r) records = with_at (key_of r) (Some r) records
after_deed (deeds.Write w) records = written_by w records

-- ---- which comes next

-- the record of a trial goes again
abbrev pub undone : Record → Deed
undone r = deeds.Write (Delete (key_of r))

abbrev pub next_deed : Plan → Due → Option Deed
next_deed p (Trying place) = option_map deeds.Trial (slice_get p.trials place)
next_deed p (Full standing) = None
next_deed p (Undoing zero) = None
next_deed p (Undoing (suc place)) = option_map undone (slice_get p.trials place)
next_deed p (Writing from) = option_map deeds.Write (slice_get (writes_left p from) zero)

-- what is due once it has written
abbrev pub IsBehind : Plan → (due due' : Due) → Type 0
IsBehind p (Trying place) due' = due' ≡ (if nat_lt place MAX_TRIALS then Trying (place + 1) else Trying place)
IsBehind p (Full standing) due' = due' ≡ Full standing
IsBehind p (Undoing standing) due' = due' ≡ Undoing (standing - 1)
IsBehind p (Writing from) due' =
    (slot : ℕ) × (due' ≡ Writing slot) × (writes_left p slot ≡ drop 1 (writes_left p from))

-- it comes next, and this is due once it has written
pub record IsNext (p : Plan) (due : Due) (d : Deed) (due' : Due) : Type 0 where
  pub deed : next_deed p due ≡ Some d
  pub behind : IsBehind p due due'

-- so many deeds are left
abbrev pub deeds_left : Plan → Due → ℕ
deeds_left p (Trying place) = length (drop place p.trials)
deeds_left p (Full standing) = 0
deeds_left p (Undoing standing) = standing
deeds_left p (Writing from) = length (writes_left p from)

-- ---- what is owed

-- the writes that the call would make if it did not go on inserting
abbrev pub due_writes : Plan → Due → List Write
due_writes p (Trying place) = undoing (take place p.trials)
due_writes p (Full standing) = undoing (take standing p.trials)
due_writes p (Undoing standing) = undoing (take standing p.trials)
due_writes p (Writing from) = writes_left p from

abbrev pub owes : Plan → Due → Owes
owes p due = Writes (due_writes p due)

-- ---- it can be carried out

-- nothing stands at the keys of the trials that are left, and they keep the limits of a record
pub record CanTry (trials : List Record) (records : Records) : Type 0 where
  pub absent : AreAbsent trials records
  pub in_range : All IsInRange trials

abbrev pub MayGoOn : Plan → Due → Records → Type 0
MayGoOn p (Trying place) records = CanTry (drop place p.trials) records
MayGoOn p (Full standing) records = standing ≤ length p.trials
MayGoOn p (Undoing standing) records = standing ≤ length p.trials
MayGoOn p (Writing from) records = ⊤

-- what is due can be carried out over these records
pub record CanGoOn (p : Plan) (due : Due) (records : Records) : Type 0 where
  -- each write that is owed can be made behind those before it
  pub owed : CanAllBe (due_writes p due) records
  pub in_range : All HasRange (due_writes p due)
  pub may : MayGoOn p due records
