-- What is due and owed where a plan is begun, decided and over.
use Rattle.std.specs.Prelude.{ℕ, ◌≡◌, ◌+◌, take, Some, None}
use Rattle.xsi_inquiry.specs.Writing.{Leads, inserted}
use Rattle.call_writes.specs.WriteWords.{RecordKey, Plan, Records, overlaid, Deed, Due, Trying, Full, writes_of, Writes, Writing, undoing}
use Rattle.call_writes.specs.Dues.{CanGoOn, after_deed, owes, next_deed}
use Rattle.call_writes.specs.Views.{decided_at}

-- once nothing is left to do after the decision, nothing is owed
abbrev pub OwesNothingAtEnd : Type 0
OwesNothingAtEnd = (p : Plan) (due : Due) (records : Records) (key : RecordKey) →
    next_deed p (decided_at due) ≡ None → CanGoOn p (decided_at due) records →
    overlaid (owes p (decided_at due)) records key ≡ records key

-- a call that has inserted nothing owes nothing, and after its decision it owes its writes
abbrev pub OwesItsWrites : Type 0
OwesItsWrites = (p : Plan) (records : Records) (key : RecordKey) →
    (overlaid (owes p (Trying 0)) records key ≡ records key)
    × (owes p (Writing 0) ≡ Writes (writes_of p))

-- ---- the decision

-- what a plan leads to can be carried out, from its first trial on
abbrev pub CanBegin : Type 0
CanBegin = (p : Plan) (old new : Records) → Leads p old new → CanGoOn p (Trying 0) old

-- where its trials stand, and after the decision, over the records with them inserted; then it owes what leads to the
-- records that it is to lead to
abbrev pub CanGoOnDecided : Type 0
CanGoOnDecided = (p : Plan) (place : ℕ) (old new : Records) → Leads p old new →
    CanGoOn p (decided_at (Trying place)) (inserted p.trials old)
    × ((key : RecordKey) → overlaid (owes p (decided_at (Trying place))) (inserted p.trials old) key ≡ new key)

-- where a trial has no room the decision changes nothing: those that stand go again, the last first
abbrev pub GoesBack : Type 0
GoesBack = (p : Plan) (standing : ℕ) (records : Records) → CanGoOn p (Full standing) records →
    CanGoOn p (decided_at (Full standing)) records
    × (owes p (decided_at (Full standing)) ≡ Writes (undoing (take standing p.trials)))

-- the trials come to stand one after the other
abbrev pub OneMoreStands : Type 0
OneMoreStands = (p : Plan) (place : ℕ) (d : Deed) (old : Records) → next_deed p (Trying place) ≡ Some d →
    after_deed d (inserted (take place p.trials) old) ≡ inserted (take (place + 1) p.trials) old

-- and where none is left all of them do
abbrev pub AllStand : Type 0
AllStand = (p : Plan) (place : ℕ) → next_deed p (Trying place) ≡ None → take place p.trials ≡ p.trials
