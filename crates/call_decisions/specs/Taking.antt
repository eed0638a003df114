-- What an inquiry comes to that is told what stands at the key that it asked for.
-- docs/STEPS.md, "What a call reads".
use Rattle.std.specs.Prelude.{◌≡◌, ◌<◌, Option, Result, OnErr, OnOk}
use Rattle.call_decisions.specs.Anything.{FollowsOf, KnowsOf, asked_of, caller_of, left_of}
use Rattle.call_decisions.specs.InquiryWords.{Call, IsTold, NotASystem, Record, Roomful, State}
use Rattle.call_decisions.specs.declared.any_inquiry.AnyInquiry.{AnyInquiry}
use Rattle.xsi_inquiry.specs.Telling.{Gives, IsFiled}

-- told that this stands there, an inquiry with its room comes to another one by this answer
pub record Takes (call : Call) (found : Option Record) (result : Result (Unit {0}) NotASystem)
    (old new : AnyInquiry) (room filled : Roomful) : Type 0 where
  -- what it knew of each system that has this there, it knows afterwards too
  pub told : (s : State) → IsFiled s → KnowsOf call old room s → IsTold s (asked_of call old) found →
      Gives result (λ _. KnowsOf call new filled s)
  pub fewer : OnOk result (left_of call new < left_of call old)
  pub follows : OnOk result (FollowsOf call old new)
  -- after an error it stands where it stood
  pub err : OnErr result ((new ≡ old) × (filled ≡ room))
  pub caller : caller_of new ≡ caller_of old
  pub most : filled.most ≡ room.most
