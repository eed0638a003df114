-- What is done with a durable desk, one after another, and what a crash leaves of it. docs/QUEUES.md, "Journals".
use Rattle.std.specs.Prelude.{ℕ, ◌≡◌, Bool, true, false, List, [], ◌∷◌, ◌++◌, Result, Ok, Err, IsTrue, ⊤}
use Rattle.safe_device.specs.Device.{DeviceState, held}
use Rattle.safe_device.specs.Left.{Left, Saved as Found, recovered}
use Rattle.interleavings.specs.LoneKernelWords.{State, restarted}
use Rattle.call_entries.specs.Log.{Notes, empty}
use Rattle.desk.specs.Desk.{Serves}
use Rattle.desk.specs.History.{Entry, IsServed, LeadsAlong, Saved, fails, noted_by}
use Rattle.desk.specs.History as desks
use Rattle.durable_desk.specs.Durable.{Commits, DurableState, IsCommitted, IsCutShort, KeepsFile}
use Rattle.durable_desk.specs.Opening.{OpensFile}
use Rattle.durable_desk.specs.Saved.{ComesTo}
use Rattle.durable_desk.specs.declared.commit.Uncommitted.{Uncommitted}
use Rattle.durable_desk.specs.declared.commit.Uncommitted.TheVariants.{Device, Desk, Earlier}

-- something is done with the desk, or a commit is made, and comes to this
pub data Event : Type 0 where
  Does : (e : desks.Event) → Event
  Commit : (told : Result Unit Uncommitted) → Event

-- what is done with the desk then: at a commit its pages are read, and it is noted that they are saved
abbrev pub deed_of : Event → desks.Event
deed_of (Does e) = e
deed_of (Commit told) = Saved

abbrev pub at_desk : List Event → List desks.Event
at_desk [] = []
at_desk (e ∷ es) = deed_of e ∷ at_desk es

-- the desk has failed
abbrev pub is_failure : Event → Bool
is_failure (Does e) = fails e
is_failure (Commit (Ok done)) = false
is_failure (Commit (Err Device)) = false
is_failure (Commit (Err Desk)) = true
is_failure (Commit (Err Earlier)) = false

abbrev pub NoneFails : List Event → Type 0
NoneFails [] = ⊤
NoneFails (e ∷ es) = (is_failure e ≡ false) × NoneFails es

module _ {P : Type 0} (honest : Bool) (moment : P → ℕ) (left_since : P → ℕ → Left → Type 0)
    (may_leave : P → Left → Type 0) where
  -- as the desk's functions promise, and the file is as it was; what is written down of it stands in the log
  pub record IsDone (e : desks.Event) (old new : DurableState P) : Type 0 where
    pub happens : desks.Happens e old.desk new.desk
    pub file : KeepsFile (fails e) old new
    pub notes : Notes (noted_by e) old.log new.log

  pub record IsTried (told : Result Unit Uncommitted) (old new : DurableState P) : Type 0 where
    pub commits : Commits honest may_leave told old new
    pub any_moment : IsCutShort honest moment left_since old new

  -- each as its function promises
  abbrev pub Happens : Event → (old new : DurableState P) → Type 0
  Happens (Does e) old new = IsDone e old new
  Happens (Commit told) old new = IsTried told old new

  abbrev pub HappenAlong : List Event → (old new : DurableState P) → Type 0
  HappenAlong [] old new = new ≡ old
  HappenAlong (e ∷ es) old new = (then : DurableState P) × Happens e old then × HappenAlong es then new

-- ---- what a crash leaves

-- it comes to the system after the first of these entries, and none of the others
pub record IsFoundAfterSome (s : State) (entries : List Entry) (found : Found) : Type 0 where
  pub kept : List Entry
  pub lost : List Entry
  pub all : entries ≡ kept ++ lost
  pub system : State
  pub by_rules : LeadsAlong kept s system
  pub comes : ComesTo found (restarted system)

-- what is done since some moment is decided by one list of entries; and whatever a crash leaves at any moment since is
-- recovered to what comes to the system after the first of them
pub record OutlastsACrash {P : Type 0} (honest : Bool) (moment : P → ℕ) (left_since : P → ℕ → Left → Type 0)
    (es : List Event) (s : State) (old new : DurableState P) : Type 0 where
  pub served : IsServed (at_desk es) s old.desk new.desk
  pub found : IsTrue honest → (c : Left) → left_since new.device.pair (moment old.device.pair) c →
      IsFoundAfterSome s served.entries (recovered c)

-- behind a commit, all that was decided before it is found, and then the first of what was decided since
pub record IsNeverLost {P : Type 0} (honest : Bool) (moment : P → ℕ) (left_since : P → ℕ → Left → Type 0)
    (before since : List Event) (s : State) (old last committed new : DurableState P) : Type 0 where
  pub decided : IsServed (at_desk before) s old.desk last.desk
  pub outlasts : OutlastsACrash honest moment left_since since decided.after committed new

-- ---- the laws

-- what the device holds comes to the system that the desk serves: so it is once it is opened, and behind each commit
pub record IsUpToDate {P : Type 0} (honest : Bool) (may_leave : P → Left → Type 0) (s : State) (d : DurableState P)
    : Type 0 where
  pub serves : Serves s d.desk
  pub sound : d.has_failed ≡ false
  pub committed : IsCommitted honest may_leave d.desk d.device
  pub none : d.log ≡ empty
  pub comes : IsTrue honest → ComesTo (held d.device) (restarted s)

abbrev pub OpensUpToDate : (P : Type 0) → Bool → (P → Left → Type 0) → Type 0
OpensUpToDate P honest may_leave = (given : DeviceState P) (most : ℕ) (d : DurableState P) →
    OpensFile honest may_leave given most d → (s : State) × IsUpToDate honest may_leave s d

abbrev pub AllOutlastACrash : (P : Type 0) → Bool → (P → ℕ) → (P → ℕ → Left → Type 0) → (P → Left → Type 0) → Type 0
AllOutlastACrash P honest moment left_since may_leave = (es : List Event) (s : State) (old new : DurableState P) →
    IsUpToDate honest may_leave s old → HappenAlong honest moment left_since may_leave es old new → NoneFails es →
    OutlastsACrash honest moment left_since es s old new

abbrev pub NoneIsLost : (P : Type 0) → Bool → (P → ℕ) → (P → ℕ → Left → Type 0) → (P → Left → Type 0) → Type 0
NoneIsLost P honest moment left_since may_leave =
    (before since : List Event) (s : State) (old last committed new : DurableState P) →
    IsUpToDate honest may_leave s old →
    HappenAlong honest moment left_since may_leave before old last → NoneFails before →
    IsTried honest moment left_since may_leave (Ok tt) last committed →
    HappenAlong honest moment left_since may_leave since committed new → NoneFails since →
    IsNeverLost honest moment left_since before since s old last committed new
