-- What a call knows once it was told, and what answers a question.
use Rattle.std.proofs.Common.{◌≡◌, ◌≢◌, ◌==◌, Bool, true, false, List, [], Option, Some, IsOk, Result, refl, sym, ap, subst, inl, inr, arith}
use Rattle.std.proofs.lemmas.Bool.Decides.{nat_tests}
use Rattle.std.specs.List.{Contains}
use Rattle.std.specs.Option.{is_some}
use Rattle.page_locks.specs.declared.lock.LockName.TheVariants as names
use Rattle.queue_records.specs.declared.layout.TheConstants.{COUNTER}
use Rattle.queue_records.specs.declared.record.Record.TheVariants as records
use Rattle.xsi_calls.specs.QuestionWords.{RecordKey, Store, Lock, Record, StandsAt, AnyInquiry, KnowsOf, asked_of, names_in, LockName, Call, State, guard_of, record_of, Wanted, At, Given, NotASystem, IsCovered, IsSoNear, IsFiled, Roomful}
use Rattle.xsi_calls.specs.Answering.{Answers, IsAskedUnder, MayRead, key_asked}
use Rattle.xsi_calls.specs.Agreeing.{Agrees}
use Rattle.xsi_calls.specs.QuestionLaws.{FilesAnswer}
use Rattle.xsi_calls.specs.Questions.{asks_more, keeping}
use Rattle.xsi_calls.specs.QuestionSteps.{Hears}
use Rattle.xsi_calls.proofs.AskLemmas.{given_absent}
use Rattle.xsi_calls.proofs.QuestionCounterLemmas.{counter_last}

-- ---- what stands answers

pub files_answer : FilesAnswer
files_answer call i room (At key) held store s asked knows under agrees = record {
  found = record_of s key;
  stands = agrees.stands key under;
  answers = refl;
}
files_answer call i room (Given id) held store s asked knows under agrees = record {
  found = Some (records.Counter agrees.counter);
  stands = agrees.counts;
  answers = record {
    counter = agrees.counter;
    is = refl;
    tells = agrees.given id under (given_absent call i room s id asked knows);
  };
}

pub may_read : (held : List LockName) (wanted : Wanted) → IsAskedUnder held wanted → MayRead held (key_asked wanted)
may_read held (At key) under = inl under
may_read held (Given id) under = inr refl

-- something stands at a key that may be read
pub some_stands : (held : List LockName) (store : Store) (s : State) (key : RecordKey) → MayRead held key →
    Agrees held store s → (found : Option Record) × StandsAt store key found
some_stands held store s key (inl under) agrees = (record_of s key, agrees.stands key under)
some_stands held store s key (inr is) agrees = (
  Some (records.Counter agrees.counter),
  subst (λ (k : RecordKey). StandsAt store k
      (Some (records.Counter agrees.counter))) (sym is) agrees.counts,
)

-- ---- what is known

none_in : (name : LockName) → Contains {X = LockName} [] name → ⊥
none_in name within = let few = within.1 in omega (arith, few)

-- what holds whatever the Counter says is so under all names
pub near_all : (call : Call) (held : List LockName) (IsSo : State → Type 0) (s : State) →
    IsSoNear call [] IsSo s → IsSoNear call held IsSo s
near_all call held IsSo s near t filed agrees =
    near t filed (record { asked = agrees.asked; counter = λ within. absurd (none_in names.Counter within) })

-- names that hold the Counter where it was held keep it
pub near_more : (call : Call) (asks : Bool) (held more : List Lock) (IsSo : State → Type 0) (s : State) →
    (asks ≡ false → Contains (names_in held) names.Counter → Contains (names_in more) names.Counter) →
    IsSoNear call (keeping asks held) IsSo s → IsSoNear call (keeping asks more) IsSo s
near_more call true held more IsSo s within near = near
near_more call false held more IsSo s within near = λ t filed agrees.
    near t filed (record { asked = agrees.asked; counter = λ has. agrees.counter (within refl has) })

near_told : (call : Call) (asks : Bool) (held : List Lock) (IsSo : State → Type 0) (s : State) →
    IsSoNear call [] IsSo s → IsSoNear call (keeping asks held) IsSo s
near_told call true held IsSo s near = near
near_told call false held IsSo s near = near_all call (names_in held) IsSo s near

counter_guard : (key : RecordKey) → key.kind ≡ COUNTER → guard_of key ≡ names.Counter
counter_guard key is = rw is refl

module _ (call : Call) (i j : AnyInquiry) (room room' : Roomful) (held : List Lock) (s : State)
    (filed : IsFiled s) (found : Option Record) (result : Result Unit NotASystem)
    (hears : Hears call found result (record { inquiry = i; room = room }) (record { inquiry = j; room = room' }))
    (near : IsSoNear call [] (KnowsOf call i room) s) where
  heard_at : (key : RecordKey) → asked_of call i ≡ Some (At key) → Contains (names_in held) (guard_of key) →
      found ≡ record_of s key → (b : Bool) → (key.kind == COUNTER) ≡ b →
      IsOk result × IsSoNear call (keeping (asks_more call j) held) (KnowsOf call j room') s
  heard_at key asked under answers true counter =
      let is : key.kind ≡ COUNTER = grind (arith, nat_tests, counter) in
      let covered : IsCovered (names_in held) (Some (At key)) =
      λ same. subst (Contains (names_in held)) (counter_guard key same) under in
      let told = hears.hears (At key) asked (names_in held) s filed covered
      (near_all call (names_in held) (KnowsOf call i room) s near) answers in
      let none : asks_more call j ≡ false = ap is_some (counter_last call i j key asked is (hears.fewer told.0)) in (
        told.0,
        subst (λ (b : Bool). IsSoNear call (keeping b held) (KnowsOf call j room') s) (sym none) told.1,
      )
  heard_at key asked under answers false other =
      let not : key.kind ≢ COUNTER = grind (arith, nat_tests, other) in
      let told = hears.hears (At key) asked [] s filed (λ is. absurd (not is)) near answers in
      (told.0, near_told call (asks_more call j) held (KnowsOf call j room') s told.1)

  pub heard : (wanted : Wanted) → asked_of call i ≡ Some wanted → IsAskedUnder (names_in held) wanted →
      Answers wanted found s →
      IsOk result × IsSoNear call (keeping (asks_more call j) held) (KnowsOf call j room') s
  heard (At key) asked under answers = heard_at key asked under answers (key.kind == COUNTER) refl
  heard (Given id) asked under answers =
      let told = hears.hears (Given id) asked [] s filed tt near answers in
      (told.0, near_told call (asks_more call j) held (KnowsOf call j room') s told.1)
