-- The calls of a command, one after the other, in a session on a file in memory. docs/SHELL.md, "What a command asks".
use Rattle.std.specs.Prelude.{ℕ, zero, suc, ◌≡◌, List, Some, Ok, length, ⊤}
use Rattle.interleavings.specs.LoneKernelWords.{Answer, Call, Caller, State}
use Rattle.session.specs.Session.{Calls, Holds, Opens, SessionState, caller_of, pages_of, saved_of}
use Rattle.session.specs.Session as sessions
use Rattle.session.specs.declared.unanswered.Unanswered.{Unanswered}
use Rattle.session.specs.declared.unanswered.Unanswered.TheVariants.{Waits, NoRoom, NoMemory, Failed}
use Rattle.command_runs.specs.declared.asker.Asker.{Asker}

-- the pages of a device
abbrev pub Pages : Type 0
Pages = List (List ℕ)

-- ---- what a session has done

-- a call was answered, in a session of which this is so
pub record HasAnsweredFrom (Stood : SessionState → Type 0) (k : SessionState) : Type 0 where
  pub old : SessionState
  pub stood : Stood old
  pub call : Call
  pub answer : Answer
  pub calls : Calls call (Ok answer) old k

-- it was opened on these pages, and has answered so many calls
abbrev pub HasAnswered : Caller → Pages → ℕ → SessionState → Type 0
HasAnswered c content zero k = Opens c content k
HasAnswered c content (suc n) k = HasAnsweredFrom (HasAnswered c content n) k

-- the session on a file holds a system, and its calls are those of the caller
pub record Stands (content : Pages) (c : Caller) (s : State) (x : Asker) : Type 0 where
  pub holds : Holds s x.session
  pub sits : caller_of x.session ≡ Some c
  pub answered : ℕ
  pub has : HasAnswered c content answered x.session
  -- it has as many pages as the file, and counts those of the file as saved
  pub pages : pages_of x.session ≡ length content
  pub saved : saved_of x.session ≡ content

-- ---- why a call is not answered

-- in the session on the file it was made in this system, and at one of its steps the record that it was to insert next
-- had no room in the session's pages
pub record LacksRoom (content : Pages) (c : Caller) (call : Call) (s : State) : Type 0 where
  pub answered : ℕ
  pub old : SessionState
  pub has : HasAnswered c content answered old
  pub holds : Holds s old
  pub new : SessionState
  pub lacks : sessions.LacksRoom (Some c) call s old new

-- why a call in a system is not answered where no transfer fails: for want of room or memory alone
abbrev pub MayLack : Pages → Caller → Unanswered → Call → State → Type 0
MayLack content c Waits call s = ⊥
MayLack content c NoRoom call s = LacksRoom content c call s
MayLack content c NoMemory call s = ⊤
MayLack content c Failed call s = ⊥

-- why it was not answered
pub record Lacks (content : Pages) (c : Caller) (call : Call) (s : State) (x : Asker) : Type 0 where
  pub fault : Unanswered
  pub is : x.fault ≡ Some fault
  pub cause : x.session.pool.faults ≡ 0 → MayLack content c fault call s
