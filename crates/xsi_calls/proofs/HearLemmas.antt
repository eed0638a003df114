-- An inquiry is told what answers its question.
use Rattle.std.proofs.Common.{ℕ, ◌≡◌, ◌<◌, Bool, List, Option, Some, IsOk, Result, Ok, Err, OnOk, refl, sym, ap, ◌∙◌, subst}
use Rattle.std.specs.Prelude.{nat_lt}
use Rattle.queue_records.specs.declared.record.Record.TheVariants as records
use Rattle.xsi_inquiry.specs.Telling.{AsksGiven, Gives, IsTold, IsToldGiven}
use Rattle.xsi_calls.specs.QuestionWords.{RecordKey, Record, Counter, AnyInquiry, FollowsOf, KnowsOf, asked_of, caller_of, left_of, LockName, Call, State, record_of, Wanted, At, Given, NotASystem, IsCovered, IsSoNear, IsFiled, Roomful}
use Rattle.xsi_calls.specs.Answering.{Answers}
use Rattle.xsi_calls.specs.QuestionSteps.{Hears}

on_ok : {T : Type 0} {P : Type 0} (r : Result T NotASystem) → OnOk r P → IsOk r → P
on_ok (Ok x) on ok = on
on_ok (Err e) on ok = absurd cc

gives_ok : {T : Type 0} {P : Type 0} (r : Result T NotASystem) → Gives r (λ x. P) → IsOk r × P
gives_ok (Ok x) gives = (refl, gives)
gives_ok (Err e) gives = absurd gives

same_wanted : (a b : Wanted) → Some a ≡ Some b → a ≡ b
same_wanted a b is = cc

same_key : (a b : RecordKey) → At a ≡ At b → a ≡ b
same_key a b is = cc

same_id : (a b : ℕ) → Given a ≡ Given b → a ≡ b
same_id a b is = cc

same_given : (a b : Bool) → ◌≡◌ {A = Result Bool NotASystem} (Ok a) (Ok b) → a ≡ b
same_given a b is = cc

module _ (call : Call) (i j : AnyInquiry) (room room' : Roomful) (found : Option Record)
    (result : Result Unit NotASystem) (caller : caller_of j ≡ caller_of i)
    (fewer : OnOk result (left_of call j < left_of call i)) (follows : OnOk result (FollowsOf call i j))
    (most : room'.most ≡ room.most) where
  pub hears_record : (key : RecordKey) → asked_of call i ≡ Some (At key) →
      ((held : List LockName) (s : State) → IsFiled s → IsCovered held (asked_of call i) →
      IsSoNear call held (KnowsOf call i room) s → IsTold s (asked_of call i) found →
      Gives result (λ x. IsSoNear call held (KnowsOf call j room') s)) →
      Hears call found result (record { inquiry = i; room = room }) (record { inquiry = j; room = room' })
  hears_record key at told = record {
    caller = caller;
    fewer = on_ok result fewer;
    follows = on_ok result follows;
    most = most;
    hears = λ wanted asked held s filed covered near answers.
        let same : wanted ≡ At key = same_wanted wanted (At key) (sym asked ∙ at) in
        let found_is : found ≡ record_of s key = subst (λ (w : Wanted). Answers w found s) same answers in
        gives_ok result (told held s filed (subst (IsCovered held) (sym asked) covered) near
        (λ k is. found_is ∙ ap (record_of s) (same_key key k (same_wanted (At key) (At k) (sym at ∙ is)))));
  }

  pub hears_given : (id : ℕ) (given : Bool) → asked_of call i ≡ Some (Given id) → room' ≡ room →
      ((counter : Counter) → found ≡ Some (records.Counter counter) →
      ◌≡◌ {A = Result Bool NotASystem} (Ok given) (Ok (nat_lt id counter.next_id))) →
      ((held : List LockName) (r : Roomful) (s : State) → IsFiled s → IsSoNear call held (KnowsOf call i r) s →
      AsksGiven (asked_of call i) → IsToldGiven s (asked_of call i) given →
      Gives result (λ x. IsSoNear call held (KnowsOf call j r) s)) →
      Hears call found result (record { inquiry = i; room = room }) (record { inquiry = j; room = room' })
  hears_given id given at kept counts told = record {
    caller = caller;
    fewer = on_ok result fewer;
    follows = on_ok result follows;
    most = most;
    hears = λ wanted asked held s filed covered near answers.
        let same : wanted ≡ Given id = same_wanted wanted (Given id) (sym asked ∙ at) in
        let counted = subst (λ (w : Wanted). Answers w found s) same answers in
        let is : given ≡ nat_lt id s.next_id =
        same_given given _ (counts counted.counter counted.is) ∙ counted.tells in
        gives_ok result (subst (λ (r : Roomful). Gives result (λ x. IsSoNear call held (KnowsOf call j r) s)) (sym kept)
        (told held room s filed near (subst AsksGiven (sym at) tt)
        (λ g asks. is ∙ ap (λ n. nat_lt n s.next_id) (same_id id g (same_wanted (Given id) (Given g)
        (sym at ∙ asks))))));
  }
