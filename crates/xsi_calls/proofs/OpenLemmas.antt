-- A step of the question that is under way, as one of the call.
use Rattle.std.proofs.Common.{ℕ, ◌≡◌, Bool, true, false, List, Option, Some, None, IfSome, IsSome, if◌then◌else◌, Result, Ok, refl, sym, subst}
use Rattle.file_pages.specs.declared.fault.FileFault.{FileFault}
use Rattle.file_pages.specs.declared.fault.FileFault.TheVariants.{Failed}
use Rattle.call_writes.specs.record_file.AccessSteps.{MakesAccess}
use Rattle.xsi_calls.specs.declared.question.Question.{Question}
use Rattle.page_locks.proofs.ChangeLemmas.{IsSeat-with_row}
use Rattle.xsi_calls.specs.Counting.{finds_behind}
use Rattle.xsi_calls.specs.QuestionWords.{RecordKey, PoolState, Table, Lock, row_of, IsSeat, Progress, Fault, AccessView, access_locks, AnyInquiry, AreNames, Call, NotASystem, Roomful}
use Rattle.xsi_calls.specs.Questions.{IsUnderWay, locks_behind}
use Rattle.xsi_calls.specs.QuestionSteps.{Closes, Listens, MakesQuestions}
use Rattle.xsi_calls.proofs.ListenLemmas.{failed, under_on, went_on}

-- the one under way, where one is
abbrev asked_if : Bool → Question → Option Question
asked_if asks q = if asks then Some q else None

module _ (hash : RecordKey → ℕ) (seat : ℕ) (call : Call) (i : AnyInquiry) (room : Roomful) (held : List Lock)
    (searches : ℕ) (names : AreNames held) (did : Progress FileFault) (pool pool' : PoolState) (locks locks' : Table)
    (j : AnyInquiry) (r : Roomful) (result : Result Unit NotASystem) (q : Question)
    (a : AccessView) (q' : Question) (after : Bool)
    (reads : MakesAccess hash seat did q.access a pool pool' locks locks')
    (hears : Listens call did result (record { access = a; told = q.told }) q'
    (record { inquiry = i; room = room }) (record { inquiry = j; room = r }))
    (closes : Closes q' (asked_if after q')) where
  abbrev MakesBy : Progress FileFault → ℕ → (old new : Option Question) → Type 0
  MakesBy d more old new =
      MakesQuestions hash seat call d
      (record { inquiry = i; room = room; names = held; question = old; finds = searches })
      (record { inquiry = j; room = r; names = held; question = new; finds = more }) pool pool' locks locks'

  pub went_in : (seated : IsSeat locks seat) (more : ℕ) →
      more ≡ finds_behind did (row_of locks' seat) searches → (asks : Bool) → IsSome (asked_if asks q) →
      (asks ≡ true → IsUnderWay q.access) → row_of locks seat ≡ locks_behind (asked_if asks q) held →
      MakesBy did more (asked_if asks q) (asked_if after q')
  went_in seated more counts false some under row = absurd cc
  went_in seated more counts true some under row =
      went_on hash seat call i room held searches names q (under refl) did a pool pool' locks
      locks' row reads j r q' result hears (asked_if after q') closes seated more counts

  -- its seat is one still
  pub seated_in : (asks : Bool) → IsSome (asked_if asks q) → row_of locks seat ≡ locks_behind (asked_if asks q) held →
      IsSeat locks seat → IsSeat locks' seat
  seated_in false some row seated = absurd cc
  seated_in true some row seated =
      subst (λ (t : Table). IsSeat t seat) (sym (reads.row held names.no_file row))
      (IsSeat-with_row locks seat seat (access_locks a held) seated)

  pub failed_in : (asks : Bool) → IsSome (asked_if asks q) → (asks ≡ true → IsUnderWay q.access) →
      row_of locks seat ≡ locks_behind (asked_if asks q) held → ((x : Unit) → result ≡ Ok x → ⊥) →
      MakesBy (Fault Failed) searches (asked_if asks q) (asked_if after q')
  failed_in false some under row not = absurd cc
  failed_in true some under row not =
      failed hash seat call i room held searches names q (under refl) did a pool pool' locks
      locks' row reads j r q' result hears (asked_if after q') closes not

  pub under_in : (asks : Bool) → IsSome (asked_if asks q) → (asks ≡ true → IsUnderWay q.access) →
      row_of locks seat ≡ locks_behind (asked_if asks q) held → after ≡ true → IsUnderWay q'.access
  under_in false some under row on = absurd cc
  under_in true some under row on =
      subst (λ (b : Bool). IfSome (asked_if b q') (λ (u : Question). IsUnderWay u.access)) on
      (under_on hash seat call i room held searches names q (under refl) did a pool pool' locks
      locks' row reads j r q' result hears (asked_if after q') closes)
