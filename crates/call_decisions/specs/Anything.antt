-- What the inquiry of any call asks for, knows, decides and writes: as the inquiry of the call's kind.
-- docs/STEPS.md, "Calls".
use Rattle.std.specs.Prelude.{ℕ, List, [], ◌∷◌, Option, Some, None, Result, Err, ⊤}
use Rattle.call_decisions.specs.InquiryWords.{LockName, Call, Caller, State, GetInquiry, SetInquiry, StatInquiry, KnowsOfGet, get_decided, get_left, get_locked, get_plan, get_wanted, set_decided, set_plan, set_wanted, stat_decided, Decision, NotASystem, Wanted, Roomful, Tells, reads_left, sought_next, Plan, nothing, ReceiveInquiry, SendInquiry, RemoveInquiry}
use Rattle.page_locks.specs.declared.lock.LockName.TheVariants as names
use Rattle.queue_model.specs.declared.call.Call.TheVariants as calls
use Rattle.call_decisions.specs.declared.any_inquiry.AnyInquiry.{AnyInquiry}
use Rattle.call_decisions.specs.declared.any_inquiry.AnyInquiry.TheVariants.{Get, Send, Receive, Stat, Set, Remove}
use Rattle.xsi_receive.specs.Asking as receives
use Rattle.xsi_receive.specs.Knowing as receive_knowing
use Rattle.xsi_send.specs.Knowing as send_knowing
use Rattle.xsi_send.specs.Planning as sends
use Rattle.xsi_control.specs.Asking as removes
use Rattle.xsi_control.specs.Knowing as remove_knowing

-- ---- the inquiry of a kind, where it is of that kind

abbrev pub of_get : AnyInquiry → Option GetInquiry
of_get (Get i) = Some i
of_get _ = None

abbrev pub of_send : AnyInquiry → Option SendInquiry
of_send (Send i) = Some i
of_send _ = None

abbrev pub of_receive : AnyInquiry → Option ReceiveInquiry
of_receive (Receive i) = Some i
of_receive _ = None

abbrev pub of_stat : AnyInquiry → Option StatInquiry
of_stat (Stat i) = Some i
of_stat _ = None

abbrev pub of_set : AnyInquiry → Option SetInquiry
of_set (Set i) = Some i
of_set _ = None

abbrev pub of_remove : AnyInquiry → Option RemoveInquiry
of_remove (Remove i) = Some i
of_remove _ = None

-- what is said of it then, and else
abbrev pub if_of : {I T : Type 0} → (I → T) → T → Option I → T
if_of said other None = other
if_of said other (Some i) = said i

-- it is of the kind, and this is so of it
abbrev pub IsOfKind : {I : Type 0} → (I → Type 0) → Option I → Type 0
IsOfKind IsSo None = ⊥
IsOfKind IsSo (Some i) = IsSo i

-- ---- by the kind of the call

abbrev pub caller_of : AnyInquiry → Caller
caller_of (Get i) = i.caller
caller_of (Send i) = i.caller
caller_of (Receive i) = i.caller
caller_of (Stat i) = i.caller
caller_of (Set i) = i.caller
caller_of (Remove i) = i.caller

-- what it asks for next
abbrev pub asked_of : Call → AnyInquiry → Option Wanted
asked_of (calls.Get a) any = if_of (λ (i : GetInquiry). get_wanted a i.getting) None (of_get any)
asked_of (calls.Send a) any = if_of (λ (i : SendInquiry). send_knowing.asked a i.stage) None (of_send any)
asked_of (calls.Receive a) any =
    if_of (λ (i : ReceiveInquiry). receives.asked a.id i.stage) None (of_receive any)
asked_of (calls.Stat id) any = if_of (λ (i : StatInquiry). sought_next id i.sought) None (of_stat any)
asked_of (calls.Set a) any = if_of (λ (i : SetInquiry). set_wanted a i.sought) None (of_set any)
asked_of (calls.Remove id) any = if_of (λ (i : RemoveInquiry). removes.asked id i.stage) None (of_remove any)

-- the names that it holds Exclusive where it decides
abbrev pub locked_of : Call → AnyInquiry → List LockName
locked_of (calls.Get a) any = if_of (λ (i : GetInquiry). get_locked a i.getting) [] (of_get any)
locked_of (calls.Send a) any = if_of (λ (i : SendInquiry). names.Queue a.id ∷ []) [] (of_send any)
locked_of (calls.Receive a) any = if_of (λ (i : ReceiveInquiry). names.Queue a.id ∷ []) [] (of_receive any)
locked_of (calls.Stat id) any = if_of (λ (i : StatInquiry). []) [] (of_stat any)
locked_of (calls.Set a) any = if_of (λ (i : SetInquiry). names.Queue a.id ∷ []) [] (of_set any)
locked_of (calls.Remove id) any =
    if_of (λ (i : RemoveInquiry). removes.locked_at id i.stage) [] (of_remove any)

-- what it was told, and holds in its room, is so in s
abbrev pub KnowsOf : Call → AnyInquiry → Roomful → State → Type 0
KnowsOf (calls.Get a) any room s =
    IsOfKind (λ (i : GetInquiry). KnowsOfGet i.caller a i.getting s) (of_get any)
KnowsOf (calls.Send a) any room s =
    IsOfKind (λ (i : SendInquiry). send_knowing.KnowsAt i.caller a i.stage s) (of_send any)
KnowsOf (calls.Receive a) any room s =
    IsOfKind (λ (i : ReceiveInquiry). receive_knowing.KnowsAt i.caller a i.stage room s) (of_receive any)
KnowsOf (calls.Stat id) any room s =
    IsOfKind (λ (i : StatInquiry). Tells id i.sought s) (of_stat any)
KnowsOf (calls.Set a) any room s =
    IsOfKind (λ (i : SetInquiry). Tells a.id i.sought s) (of_set any)
KnowsOf (calls.Remove id) any room s =
    IsOfKind (λ (i : RemoveInquiry). remove_knowing.KnowsAt i.caller id i.stage s) (of_remove any)

-- where it may come to, from where it is, once it was told an answer
abbrev pub FollowsOf : Call → AnyInquiry → AnyInquiry → Type 0
FollowsOf (calls.Get a) any then = ⊤
FollowsOf (calls.Send a) any then = ⊤
FollowsOf (calls.Receive a) any then = ⊤
FollowsOf (calls.Stat id) any then = ⊤
FollowsOf (calls.Set a) any then = ⊤
FollowsOf (calls.Remove id) any then =
    IsOfKind (λ (i : RemoveInquiry). IsOfKind (λ (j : RemoveInquiry). removes.FollowsAt i.stage j.stage)
    (of_remove then)) (of_remove any)

-- at most as many questions are still asked
abbrev pub left_of : Call → AnyInquiry → ℕ
left_of (calls.Get a) any = if_of (λ (i : GetInquiry). get_left i.getting) 0 (of_get any)
left_of (calls.Send a) any = if_of (λ (i : SendInquiry). send_knowing.asks_left i.stage) 0 (of_send any)
left_of (calls.Receive a) any = if_of (λ (i : ReceiveInquiry). receives.asks_left i.stage) 0 (of_receive any)
left_of (calls.Stat id) any = if_of (λ (i : StatInquiry). reads_left i.sought) 0 (of_stat any)
left_of (calls.Set a) any = if_of (λ (i : SetInquiry). reads_left i.sought) 0 (of_set any)
left_of (calls.Remove id) any = if_of (λ (i : RemoveInquiry). removes.asks_left i.stage) 0 (of_remove any)

-- what it decides
abbrev pub decided_of : Call → AnyInquiry → Result Decision NotASystem
decided_of (calls.Get a) any =
    if_of (λ (i : GetInquiry). get_decided a i.getting) (Err (record {})) (of_get any)
decided_of (calls.Send a) any =
    if_of (λ (i : SendInquiry). sends.decided_at a i.stage) (Err (record {})) (of_send any)
decided_of (calls.Receive a) any =
    if_of (λ (i : ReceiveInquiry). receives.decided_at i.stage) (Err (record {})) (of_receive any)
decided_of (calls.Stat id) any =
    if_of (λ (i : StatInquiry). stat_decided i.caller i.sought) (Err (record {})) (of_stat any)
decided_of (calls.Set a) any =
    if_of (λ (i : SetInquiry). set_decided i.caller a i.sought) (Err (record {})) (of_set any)
decided_of (calls.Remove id) any =
    if_of (λ (i : RemoveInquiry). removes.decided_at id i.stage) (Err (record {})) (of_remove any)

-- what it writes then
abbrev pub plan_of : Call → AnyInquiry → Plan
plan_of (calls.Get a) any = if_of (λ (i : GetInquiry). get_plan i.caller a i.getting) nothing (of_get any)
plan_of (calls.Send a) any =
    if_of (λ (i : SendInquiry). sends.plan_at i.caller.pid a i.stage) nothing (of_send any)
plan_of (calls.Receive a) any =
    if_of (λ (i : ReceiveInquiry). receives.plan_at a.id i.stage) nothing (of_receive any)
plan_of (calls.Stat id) any = if_of (λ (i : StatInquiry). nothing) nothing (of_stat any)
plan_of (calls.Set a) any = if_of (λ (i : SetInquiry). set_plan i.caller a i.sought) nothing (of_set any)
plan_of (calls.Remove id) any =
    if_of (λ (i : RemoveInquiry). removes.plan_at id i.stage) nothing (of_remove any)
