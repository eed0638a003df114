-- Laws of the names of calls. Each is the contract of a function of name_laws.rt.
-- docs/STEPS.md, "Locks", "What a call reads".
use Rattle.std.specs.Prelude.{◌≡◌, ◌≢◌, ◌⊎◌, ◌<◌, ◌≤◌, List, [], ◌∷◌, length, map, take, Some, None, ⊤}
use Rattle.std.specs.List.{AllByRecursion, Contains}
use Rattle.bucket_page.specs.declared.record_key.RecordKey.{RecordKey}
use Rattle.page_locks.specs.declared.lock.Lock.{Lock}
use Rattle.page_locks.specs.declared.lock.LockKind.TheVariants.{Exclusive}
use Rattle.page_locks.specs.declared.lock.LockName.{LockName}
use Rattle.page_locks.specs.Locks.{kind_of}
use Rattle.queue_model.specs.declared.call.Call.{Call}
use Rattle.queue_model.specs.declared.call.Call.TheVariants.{Remove}
use Rattle.queue_records.specs.Keys.{guard_of}
use Rattle.stale_search.specs.Rows.{HasNoFileLock}
use Rattle.stale_search.specs.step_rules.Turns.{rank_of}
use Rattle.xsi_inquiry.specs.declared.wanted.Wanted.TheVariants.{At}
use Rattle.call_decisions.specs.declared.any_inquiry.AnyInquiry.{AnyInquiry}
use Rattle.call_decisions.specs.Anything.{asked_of, left_of, locked_of, plan_of}
use Rattle.call_decisions.specs.declared.held.TheConstants.{MAX_NAMES}
use Rattle.call_decisions.specs.Names.{names_for}

-- the names of locks
abbrev pub names_in : List Lock → List LockName
names_in locks = map (λ (l : Lock). l.name) locks

-- each comes behind those that stand before it in the order of names, so none twice
abbrev pub IsInOrder : List Lock → Type 0
IsInOrder [] = ⊤
IsInOrder (l ∷ ls) = AllByRecursion (λ (x : Lock). rank_of l.name < rank_of x.name) ls × IsInOrder ls

pub record AreNames (locks : List Lock) : Type 0 where
  pub ordered : IsInOrder locks
  pub few : length locks ≤ MAX_NAMES
  pub no_file : HasNoFileLock locks

abbrev pub TakeInOrder : Type 0
TakeInOrder = (call : Call) (i : AnyInquiry) → AreNames (names_for call i)

abbrev pub AskUnderNames : Type 0
AskUnderNames = (call : Call) (i : AnyInquiry) (key : RecordKey) → asked_of call i ≡ Some (At key) →
    Contains (names_in (names_for call i)) (guard_of key)

abbrev pub WriteUnderNames : Type 0
WriteUnderNames = (call : Call) (i : AnyInquiry) (name : LockName) → Contains (locked_of call i) name →
    kind_of (names_for call i) name ≡ Some Exclusive

-- ---- it goes on

-- it asks for something, or inserts on trial
abbrev pub GoesOn : Call → AnyInquiry → Type 0
GoesOn call i = (asked_of call i ≢ None) ⊎ ((plan_of call i).trials ≢ [])

-- a Remove gives the name of its first phase back
abbrev pub KeepsNames : Call → Type 0
KeepsNames (Remove id) = ⊥
KeepsNames call = ⊤

-- where it goes on after fewer questions are left, its names begin with those that it had
abbrev pub NamesGrow : Type 0
NamesGrow = (call : Call) (i j : AnyInquiry) → KeepsNames call → GoesOn call i → GoesOn call j →
    left_of call j < left_of call i →
    take (length (names_for call i)) (names_for call j) ≡ names_for call i
