-- The laws of the inquiry of any call: they are those of the inquiry of its kind.
use Rattle.std.proofs.Common.{inl, refl, Bool, List, Option, Some, None, Result, Err}
use Rattle.call_decisions.specs.InquiryWords.{LockName, Call, State, Record, few_of_get, get_asks, get_asks_given, get_inserts, few_of_set, set_asks, set_asks_given, set_inserts, Decision, NotASystem, Wanted, AgreesFor, IsCovered, InsertsOnlyFor, sought_next, IsTold, IsToldGiven, IsSmall, Plan, nothing, get_decided, get_plan, get_wanted, set_decided, set_plan, set_wanted, stat_decided, GetInquiry, SetInquiry, StatInquiry, ReceiveInquiry, SendInquiry, RemoveInquiry}
use Rattle.xsi_inquiry.proofs.AskLemmas.{at_none, given_asks, given_none, sought_asks, sought_given}
use Rattle.xsi_inquiry.proofs.DecisionLemmas.{small_none}
use Rattle.queue_model.specs.declared.call.Call.TheVariants as calls
use Rattle.call_decisions.specs.declared.any_inquiry.AnyInquiry.{AnyInquiry}
use Rattle.call_decisions.specs.Anything.{asked_of, decided_of, if_of, of_get, of_receive, of_remove, of_send, of_set, of_stat, plan_of}
use Rattle.xsi_receive.specs.Asked as receive_asked
use Rattle.xsi_receive.specs.Asking as receives
use Rattle.xsi_send.specs.Asked as send_asked
use Rattle.xsi_send.specs.Knowing as send_knowing
use Rattle.xsi_send.specs.Planning as sends
use Rattle.xsi_control.specs.Asked as remove_asked
use Rattle.xsi_control.specs.Asking as removes

-- ---- an inquiry of the kind, or none

told_of : {I : Type 0} (wanted : I → Option Wanted) (names : List LockName) (s t : State) (found : Option Record) →
    ((i : I) → IsCovered names (wanted i) → IsTold s (wanted i) found → IsTold t (wanted i) found) → (o : Option I) →
    IsCovered names (if_of wanted None o) → IsTold s (if_of wanted None o) found → IsTold t (if_of wanted None o) found
told_of wanted names s t found law None covered told = at_none t found
told_of wanted names s t found law (Some i) covered told = law i covered told

given_of : {I : Type 0} (wanted : I → Option Wanted) (s t : State) (given : Bool) →
    ((i : I) → IsToldGiven s (wanted i) given → IsToldGiven t (wanted i) given) → (o : Option I) →
    IsToldGiven s (if_of wanted None o) given → IsToldGiven t (if_of wanted None o) given
given_of wanted s t given law None told = given_none t given
given_of wanted s t given law (Some i) told = law i told

small_of : {I : Type 0} (plan : I → Plan) → ((i : I) → IsSmall (plan i)) → (o : Option I) →
    IsSmall (if_of plan nothing o)
small_of plan law None = small_none
small_of plan law (Some i) = law i

inserts_of : {I : Type 0} (decided : I → Result Decision NotASystem) (plan : I → Plan) →
    ((i : I) → InsertsOnlyFor (decided i) (plan i)) → (o : Option I) →
    InsertsOnlyFor (if_of decided (Err (record {})) o) (if_of plan nothing o)
inserts_of decided plan law None = inl refl
inserts_of decided plan law (Some i) = law i

-- ---- by the kind of the call

pub any_asks : (call : Call) (any : AnyInquiry) (names : List LockName) (s t : State) (found : Option Record) →
    IsCovered names (asked_of call any) → AgreesFor call names s t →
    IsTold s (asked_of call any) found → IsTold t (asked_of call any) found
any_asks (calls.Get a) any names s t found covered agrees told =
    told_of (λ (i : GetInquiry). get_wanted a i.getting) names s t found
    (λ i covered told. get_asks a i.getting names s t found covered agrees told)
    (of_get any) covered told
any_asks (calls.Send a) any names s t found covered agrees told =
    told_of (λ (i : SendInquiry). send_knowing.asked a i.stage) names s t found
    (λ i covered told. send_asked.stage_asks a i.stage s t found agrees.asked told)
    (of_send any) covered told
any_asks (calls.Receive a) any names s t found covered agrees told =
    told_of (λ (i : ReceiveInquiry). receives.asked a.id i.stage) names s t found
    (λ i covered told. receive_asked.stage_asks a.id i.stage s t found agrees.asked told)
    (of_receive any) covered told
any_asks (calls.Stat id) any names s t found covered agrees told =
    told_of (λ (i : StatInquiry). sought_next id i.sought) names s t found
    (λ i covered told. sought_asks id i.sought s t found agrees.asked told)
    (of_stat any) covered told
any_asks (calls.Set a) any names s t found covered agrees told =
    told_of (λ (i : SetInquiry). set_wanted a i.sought) names s t found
    (λ i covered told. set_asks a i.sought s t found agrees.asked told)
    (of_set any) covered told
any_asks (calls.Remove id) any names s t found covered agrees told =
    told_of (λ (i : RemoveInquiry). removes.asked id i.stage) names s t found
    (λ i covered told. remove_asked.stage_asks id i.stage names s t found covered agrees told)
    (of_remove any) covered told

pub any_asks_given : (call : Call) (any : AnyInquiry) (names : List LockName) (s t : State) (given : Bool) →
    AgreesFor call names s t → IsToldGiven s (asked_of call any) given → IsToldGiven t (asked_of call any) given
any_asks_given (calls.Get a) any names s t given agrees told =
    given_of (λ (i : GetInquiry). get_wanted a i.getting) s t given
    (λ i told. get_asks_given a i.getting s t given told)
    (of_get any) told
any_asks_given (calls.Send a) any names s t given agrees told =
    given_of (λ (i : SendInquiry). send_knowing.asked a i.stage) s t given
    (λ i told. send_asked.given_at a i.stage s t given agrees.asked told)
    (of_send any) told
any_asks_given (calls.Receive a) any names s t given agrees told =
    given_of (λ (i : ReceiveInquiry). receives.asked a.id i.stage) s t given
    (λ i told. receive_asked.given_at a.id i.stage s t given agrees.asked told)
    (of_receive any) told
any_asks_given (calls.Stat id) any names s t given agrees told =
    given_of (λ (i : StatInquiry). sought_next id i.sought) s t given
    (λ i told. given_asks (sought_next id i.sought) id s t given agrees.asked (sought_given id i.sought) told)
    (of_stat any) told
any_asks_given (calls.Set a) any names s t given agrees told =
    given_of (λ (i : SetInquiry). set_wanted a i.sought) s t given
    (λ i told. set_asks_given a i.sought s t given agrees.asked told)
    (of_set any) told
any_asks_given (calls.Remove id) any names s t given agrees told =
    given_of (λ (i : RemoveInquiry). removes.asked id i.stage) s t given
    (λ i told. remove_asked.given_at id i.stage names s t given agrees told)
    (of_remove any) told

pub few_of : (call : Call) (any : AnyInquiry) → IsSmall (plan_of call any)
few_of (calls.Get a) any =
    small_of (λ (i : GetInquiry). get_plan i.caller a i.getting) (λ i. few_of_get i.caller a i.getting) (of_get any)
few_of (calls.Send a) any =
    small_of (λ (i : SendInquiry). sends.plan_at i.caller.pid a i.stage)
    (λ i. send_asked.few_at i.caller.pid a i.stage) (of_send any)
few_of (calls.Receive a) any =
    small_of (λ (i : ReceiveInquiry). receives.plan_at a.id i.stage)
    (λ i. receive_asked.few_at a.id i.stage) (of_receive any)
few_of (calls.Stat id) any =
    small_of (λ (i : StatInquiry). nothing) (λ i. small_none) (of_stat any)
few_of (calls.Set a) any =
    small_of (λ (i : SetInquiry). set_plan i.caller a i.sought) (λ i. few_of_set i.caller a i.sought) (of_set any)
few_of (calls.Remove id) any =
    small_of (λ (i : RemoveInquiry). removes.plan_at id i.stage) (λ i. remove_asked.few_at id i.stage) (of_remove any)

pub any_inserts : (call : Call) (any : AnyInquiry) → InsertsOnlyFor (decided_of call any) (plan_of call any)
any_inserts (calls.Get a) any =
    inserts_of (λ (i : GetInquiry). get_decided a i.getting) (λ (i : GetInquiry). get_plan i.caller a i.getting)
    (λ i. get_inserts i.caller a i.getting) (of_get any)
any_inserts (calls.Send a) any =
    inserts_of (λ (i : SendInquiry). sends.decided_at a i.stage)
    (λ (i : SendInquiry). sends.plan_at i.caller.pid a i.stage)
    (λ i. send_asked.inserts_at i.caller.pid a i.stage) (of_send any)
any_inserts (calls.Receive a) any =
    inserts_of (λ (i : ReceiveInquiry). receives.decided_at i.stage)
    (λ (i : ReceiveInquiry). receives.plan_at a.id i.stage)
    (λ i. receive_asked.inserts_at a.id i.stage) (of_receive any)
any_inserts (calls.Stat id) any =
    inserts_of (λ (i : StatInquiry). stat_decided i.caller i.sought) (λ (i : StatInquiry). nothing)
    (λ i. inl refl) (of_stat any)
any_inserts (calls.Set a) any =
    inserts_of (λ (i : SetInquiry). set_decided i.caller a i.sought) (λ (i : SetInquiry). set_plan i.caller a i.sought)
    (λ i. set_inserts i.caller a i.sought) (of_set any)
any_inserts (calls.Remove id) any =
    inserts_of (λ (i : RemoveInquiry). removes.decided_at id i.stage)
    (λ (i : RemoveInquiry). removes.plan_at id i.stage)
    (λ i. remove_asked.inserts_at id i.stage) (of_remove any)
