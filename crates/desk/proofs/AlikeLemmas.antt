-- Of two calls that are alike one has to wait wherever the other does.
use Rattle.std.proofs.Common.{arith, ◌≡◌, true, false, length}
use Rattle.std.specs.Prelude.{◌==◌, ◌&&◌, not}
use Rattle.std.specs.Ordering.{int_eq}
use Rattle.std.proofs.lemmas.Bool.Decides.{nat_tests}
use Rattle.std.proofs.lemmas.Int.{ints}
use Rattle.queue_model.specs.declared.call.Call.{Call}
use Rattle.queue_model.specs.declared.call.Call.TheVariants as calls
use Rattle.queue_model.specs.declared.caller.Caller.{Caller}
use Rattle.queue_model.specs.Rules.{outcome}
use Rattle.queue_model.specs.State.{State}
use Rattle.queue_model.specs.declared.call.ReceiveArguments.{ReceiveArguments}
use Rattle.queue_model.specs.declared.call.SendArguments.{SendArguments}
use Rattle.std.proofs.Common.{None}
use Rattle.desk.specs.Desk.{HasToWait, are_alike, are_calls_alike}
use Rattle.desk.specs.declared.asking.Asking.{Asking}
use Rattle.desk.proofs.PutOffLemmas.{receives_alike, sends_alike}

module _ (b c : Caller) (uid : b.uid ≡ c.uid) (gid : b.gid ≡ c.gid) (s : State) where
  receives : (x y : ReceiveArguments) → (x.id == y.id && int_eq x.mtype y.mtype && not x.nowait) ≡ true →
      outcome c (calls.Receive y) s ≡ None → outcome b (calls.Receive x) s ≡ None
  receives x y same none =
      let id : x.id ≡ y.id = grind (arith, nat_tests, ints, same) in
      let mtype : x.mtype ≡ y.mtype = grind (arith, nat_tests, ints, same) in
      let waits : x.nowait ≡ false = grind (arith, nat_tests, ints, same) in
      receives_alike b c x y uid gid id mtype waits s none

  sends : (x y : SendArguments) →
      (x.id == y.id && int_eq x.mtype y.mtype && length x.body == length y.body && not x.nowait) ≡ true →
      outcome c (calls.Send y) s ≡ None → outcome b (calls.Send x) s ≡ None
  sends x y same none =
      let id : x.id ≡ y.id = grind (arith, nat_tests, ints, same) in
      let mtype : x.mtype ≡ y.mtype = grind (arith, nat_tests, ints, same) in
      let long : length x.body ≡ length y.body = grind (arith, nat_tests, ints, same) in
      let waits : x.nowait ≡ false = grind (arith, nat_tests, ints, same) in
      sends_alike b c x y uid gid id mtype long waits s none

  by_calls : (x y : Call) → are_calls_alike x y ≡ true → outcome c y s ≡ None → outcome b x s ≡ None
  by_calls (calls.Receive x) (calls.Receive y) same none = receives x y same none
  by_calls (calls.Send x) (calls.Send y) same none = sends x y same none
  by_calls _ _ same none = absurd cc

pub alike_waits : (a other : Asking) → are_alike a other ≡ true → (s : State) → HasToWait s other → HasToWait s a
alike_waits a other alike s none =
    let uid : a.caller.uid ≡ other.caller.uid = grind (arith, nat_tests, alike) in
    let gid : a.caller.gid ≡ other.caller.gid = grind (arith, nat_tests, alike) in
    let same : are_calls_alike a.call other.call ≡ true = grind (arith, nat_tests, alike) in
    by_calls a.caller other.caller uid gid s a.call other.call same none
