-- While a call asks a question is left, so it begins few searches.
use Rattle.std.proofs.Common.{ℕ, zero, suc, ◌≡◌, ◌<◌, ◌≤◌, ◌+◌, Bool, true, false, not, ◌&&◌, cond, Option, Some, None, IfSome, if◌then◌else◌, refl, arith}
use Rattle.std.specs.Prelude.{nat_lt}
use Rattle.xsi_inquiry.specs.Telling.{most_asked}
use Rattle.xsi_send.proofs.Walked.{walk_has_left}
use Rattle.xsi_calls.proofs.QuestionNames.{GetArguments, GetInquiry, Getting, IsOfKind, MAX_QBYTES, ReceiveInquiry, RemoveInquiry, SendArguments, SendInquiry, SetArguments, SetInquiry, Sought, StatInquiry, Tells, asks_of_sought, get_left, get_wanted, if_of, of_get, of_receive, of_remove, of_send, of_set, of_stat, reads_left, set_wanted, sought_next}
use Rattle.queue_model.specs.declared.call.Call.TheVariants as calls
use Rattle.xsi_control.specs.Getting.{KnowsOfGet}
use Rattle.xsi_control.specs.declared.get_inquiry.Getting.TheVariants as gets
use Rattle.xsi_inquiry.specs.declared.sought.Sought.TheVariants as soughts
use Rattle.xsi_receive.specs.Asking as receives
use Rattle.xsi_receive.specs.Knowing as receive_knowing
use Rattle.xsi_receive.specs.declared.stage.Stage as receive_stages
use Rattle.xsi_receive.specs.declared.stage.Stage.TheVariants as receive
use Rattle.xsi_send.specs.Knowing as sends
use Rattle.xsi_send.specs.declared.stage.Stage as send_stages
use Rattle.xsi_send.specs.declared.stage.Stage.TheVariants as send
use Rattle.xsi_control.specs.Asking as removes
use Rattle.xsi_control.specs.Knowing as remove_knowing
use Rattle.xsi_control.specs.declared.stage.Stage as remove_stages
use Rattle.xsi_control.specs.declared.stage.Stage.TheVariants as remove
use Rattle.xsi_calls.specs.declared.question.Question.{Question}
use Rattle.xsi_calls.specs.QuestionWords.{AnyInquiry, Call, Caller, IsFiled, KnowsOf, RecordKey, Roomful, State, Wanted, asked_of, has_set_out, left_of}
use Rattle.xsi_calls.specs.Questions.{IsRight, IsRightQuestion, QuestionsView, untold}

-- ---- by the kind of the call

positive : (n : ℕ) → (n ≡ 0 → ⊥) → 0 < n
positive zero not = absurd (not refl)
positive (suc n) not = omega arith

sought_leaves : (id : ℕ) (sought : Sought) (wanted : Wanted) → sought_next id sought ≡ Some wanted →
    0 < reads_left sought
sought_leaves id soughts.Unread wanted is = omega arith
sought_leaves id soughts.Absent wanted is = omega arith
sought_leaves id (soughts.Found e) wanted is = absurd cc
sought_leaves id (soughts.Refused errno) wanted is = absurd cc

sought_asks : (id : ℕ) (sought : Sought) (wanted : Wanted) → sought_next id sought ≡ Some wanted →
    0 < asks_of_sought sought
sought_asks id soughts.Unread wanted is = omega arith
sought_asks id soughts.Absent wanted is = omega arith
sought_asks id (soughts.Found e) wanted is = absurd cc
sought_asks id (soughts.Refused errno) wanted is = absurd cc

get_leaves : (a : GetArguments) (g : Getting) (wanted : Wanted) → get_wanted a g ≡ Some wanted → 0 < get_left g
get_leaves a gets.AtKey wanted is = omega arith
get_leaves a (gets.Found id) wanted is = absurd cc
get_leaves a gets.Absent wanted is = absurd cc
get_leaves a gets.AtCounter wanted is = omega arith
get_leaves a (gets.Counted n) wanted is = absurd cc

-- the way up the types has not ended
send_leaves : (c : Caller) (a : SendArguments) (stage : send_stages.Stage) (s : State) → IsFiled s → (wanted : Wanted) →
    sends.asked a stage ≡ Some wanted → sends.KnowsAt c a stage s → 0 < sends.asks_left stage
send_leaves c a (send.Seeking sought) s filed wanted is knows = omega arith
send_leaves c a (send.Refused errno) s filed wanted is knows = absurd cc
send_leaves c a send.Full s filed wanted is knows = absurd cc
send_leaves c a (send.AtType e) s filed wanted is knows = omega arith
send_leaves c a (send.AtNeighbour w) s filed wanted is knows =
    positive w.left (walk_has_left c a w.queue s filed knows.0 w knows.1)
send_leaves c a (send.Done e place) s filed wanted is knows = absurd cc

receive_leaves : (id : ℕ) (stage : receive_stages.Stage) (wanted : Wanted) →
    receives.asked id stage ≡ Some wanted → 0 < receives.asks_left stage
receive_leaves id (receive.Seeking sought) wanted is = sought_asks id sought wanted is
receive_leaves id (receive.Refused errno) wanted is = absurd cc
receive_leaves id receive.PutOff wanted is = absurd cc
receive_leaves id (receive.AtType e mtype) wanted is = omega arith
receive_leaves id (receive.AtMessage e None serial) wanted is = omega arith
receive_leaves id (receive.AtMessage e (Some t) serial) wanted is = omega arith
receive_leaves id (receive.AtTypeOf e m) wanted is = omega arith
receive_leaves id (receive.Taken r) wanted is = absurd cc

set_leaves : (a : SetArguments) (sought : Sought) (wanted : Wanted) → set_wanted a sought ≡ Some wanted →
    0 < reads_left sought
set_leaves a sought wanted is = by (nat_lt MAX_QBYTES a.qbytes) is
  where
    by : (b : Bool) → cond b None (sought_next a.id sought) ≡ Some wanted → 0 < reads_left sought
    by true is = absurd cc
    by false is = sought_leaves a.id sought wanted is

remove_leaves : (id : ℕ) (stage : remove_stages.Stage) (wanted : Wanted) → removes.asked id stage ≡ Some wanted →
    0 < removes.asks_left stage
remove_leaves id (remove.Seeking sought) wanted is = sought_asks id sought wanted is
remove_leaves id (remove.Refused errno) wanted is = absurd cc
remove_leaves id (remove.Keyed key) wanted is = omega arith
remove_leaves id (remove.Counting key queue) wanted is = omega arith
remove_leaves id (remove.Removing r) wanted is = absurd cc

-- inquiries of another kind ask nothing
leaves_by : {I : Type 0} (asks : I → Option Wanted) (left : I → ℕ) (Knows : I → Type 0) (wanted : Wanted) →
    ((x : I) → asks x ≡ Some wanted → Knows x → 0 < left x) → (o : Option I) → if_of asks None o ≡ Some wanted →
    IsOfKind Knows o → 0 < if_of left 0 o
leaves_by asks left Knows wanted law None is knows = absurd knows
leaves_by asks left Knows wanted law (Some x) is knows = law x is knows

pub asks_leave : (call : Call) (i : AnyInquiry) (room : Roomful) (s : State) → IsFiled s → (wanted : Wanted) →
    asked_of call i ≡ Some wanted → KnowsOf call i room s → 0 < left_of call i
asks_leave (calls.Get a) i room s filed wanted is knows =
    leaves_by (λ (x : GetInquiry). get_wanted a x.getting) (λ (x : GetInquiry). get_left x.getting)
    (λ (x : GetInquiry). KnowsOfGet x.caller a x.getting s) wanted
    (λ x asks known. get_leaves a x.getting wanted asks) (of_get i) is knows
asks_leave (calls.Send a) i room s filed wanted is knows =
    leaves_by (λ (x : SendInquiry). sends.asked a x.stage) (λ (x : SendInquiry). sends.asks_left x.stage)
    (λ (x : SendInquiry). sends.KnowsAt x.caller a x.stage s) wanted
    (λ x asks known. send_leaves x.caller a x.stage s filed wanted asks known) (of_send i) is knows
asks_leave (calls.Receive a) i room s filed wanted is knows =
    leaves_by (λ (x : ReceiveInquiry). receives.asked a.id x.stage)
    (λ (x : ReceiveInquiry). receives.asks_left x.stage)
    (λ (x : ReceiveInquiry). receive_knowing.KnowsAt x.caller a x.stage room s) wanted
    (λ x asks known. receive_leaves a.id x.stage wanted asks) (of_receive i) is knows
asks_leave (calls.Stat id) i room s filed wanted is knows =
    leaves_by (λ (x : StatInquiry). sought_next id x.sought) (λ (x : StatInquiry). reads_left x.sought)
    (λ (x : StatInquiry). Tells id x.sought s) wanted
    (λ x asks known. sought_leaves id x.sought wanted asks) (of_stat i) is knows
asks_leave (calls.Set a) i room s filed wanted is knows =
    leaves_by (λ (x : SetInquiry). set_wanted a x.sought) (λ (x : SetInquiry). reads_left x.sought)
    (λ (x : SetInquiry). Tells a.id x.sought s) wanted
    (λ x asks known. set_leaves a x.sought wanted asks) (of_set i) is knows
asks_leave (calls.Remove id) i room s filed wanted is knows =
    leaves_by (λ (x : RemoveInquiry). removes.asked id x.stage) (λ (x : RemoveInquiry). removes.asks_left x.stage)
    (λ (x : RemoveInquiry). remove_knowing.KnowsAt x.caller id x.stage s) wanted
    (λ x asks known. remove_leaves id x.stage wanted asks) (of_remove i) is knows

-- ---- it begins few searches

-- a call that has come so far by its own steps has begun at most as many searches as it asks questions
pub few_searches : (hash : RecordKey → ℕ) (call : Call) (v : QuestionsView) → IsRight hash call v →
    v.finds ≤ most_asked call
few_searches hash call v right = by v.question right.few right.question
  where
    told_or_not : (q : Question) (begun b : Bool) → q.told ≡ b →
        v.finds + left_of call v.inquiry ≤ most_asked call + (if begun && not b then 1 else 0) →
        IsRightQuestion hash call v q → v.finds ≤ most_asked call
    told_or_not q false b told few is = omega (arith, few)
    told_or_not q true true told few is = omega (arith, few)
    told_or_not q true false told few is = let left = (is.asked told).left in omega (arith, few, left)

    by : (o : Option Question) → v.finds + left_of call v.inquiry ≤ most_asked call + untold o →
        IfSome o (IsRightQuestion hash call v) → v.finds ≤ most_asked call
    by None few is = omega (arith, few)
    by (Some q) few is = told_or_not q (has_set_out q.access) q.told refl few is
