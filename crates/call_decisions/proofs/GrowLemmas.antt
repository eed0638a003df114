-- While a call goes on its names grow.
use Rattle.std.proofs.Common.{ℕ, ◌≡◌, ◌≢◌, ◌⊎◌, ◌<◌, List, [], ◌∷◌, ◌++◌, Option, Some, None, map, length, take, refl, inl, inr, arith}
use Rattle.page_locks.specs.declared.lock.LockName.TheVariants as names
use Rattle.queue_model.specs.declared.call.Call.TheVariants as calls
use Rattle.queue_model.specs.declared.call.GetArguments.{GetArguments}
use Rattle.queue_model.specs.declared.caller.Caller.{Caller}
use Rattle.xsi_control.specs.Getting.{get_left, get_plan}
use Rattle.xsi_control.specs.declared.get_inquiry.Getting.TheVariants as gets
use Rattle.call_decisions.specs.Names.{exclusively}
use Rattle.call_decisions.specs.NameLaws.{NamesGrow}
use Rattle.call_decisions.proofs.Words.{GetInquiry, Getting, Lock, LockName, Plan, ReceiveInquiry, SendInquiry, SetInquiry, StatInquiry, Wanted, get_locked, get_wanted, if_of, key_names, made_names, making_names, nothing, of_get, of_receive, of_send, of_set, of_stat, one_more}

-- the first list begins the second
abbrev Begins : List Lock → List Lock → Type 0
Begins some more = take (length some) more ≡ some

key_begins : (k : Option ℕ) (more : List LockName) →
    Begins (map exclusively (key_names k ++ [])) (map exclusively (key_names k ++ more))
key_begins None more = refl
key_begins (Some key) more = refl

counter_begins : (k : Option ℕ) (more : List LockName) →
    Begins (map exclusively (key_names k ++ names.Counter ∷ []))
    (map exclusively (key_names k ++ names.Counter ∷ more))
counter_begins None more = refl
counter_begins (Some key) more = refl

-- a Get asks or inserts where it comes to
abbrev GoesOnAt : Caller → GetArguments → Getting → Type 0
GoesOnAt c a g = (get_wanted a g ≢ None) ⊎ ((get_plan c a g).trials ≢ [])

get_grows : (c : Caller) (a : GetArguments) (g h : Getting) → GoesOnAt c a h → get_left h < get_left g →
    Begins (map exclusively (get_locked a g)) (map exclusively (get_locked a h))
get_grows c a gets.AtKey h goes fewer = key_begins a.key (making_names h)
get_grows c a (gets.Found id) h goes fewer = absurd (omega (arith, fewer))
get_grows c a gets.Absent h goes fewer = absurd (omega (arith, fewer))
get_grows c a gets.AtCounter gets.AtKey goes fewer = absurd (omega (arith, fewer))
get_grows c a gets.AtCounter (gets.Found id) (inl asks) fewer = absurd (asks refl)
get_grows c a gets.AtCounter (gets.Found id) (inr inserts) fewer = absurd (inserts refl)
get_grows c a gets.AtCounter gets.Absent (inl asks) fewer = absurd (asks refl)
get_grows c a gets.AtCounter gets.Absent (inr inserts) fewer = absurd (inserts refl)
get_grows c a gets.AtCounter gets.AtCounter goes fewer = absurd (omega (arith, fewer))
get_grows c a gets.AtCounter (gets.Counted n) goes fewer =
    counter_begins a.key (made_names n.next_id (one_more n))
get_grows c a (gets.Counted n) h goes fewer = absurd (omega (arith, fewer))

-- the inquiries of a kind, or others, which ask and insert nothing
both : {I : Type 0} (wanted : I → Option Wanted) (plan : I → Plan) (left : I → ℕ) (names_at : I → List Lock) →
    ((i j : I) → (wanted j ≢ None) ⊎ ((plan j).trials ≢ []) → left j < left i → Begins (names_at i) (names_at j)) →
    (o p : Option I) → (if_of wanted None p ≢ None) ⊎ ((if_of plan nothing p).trials ≢ []) →
    if_of left 0 p < if_of left 0 o → Begins (if_of names_at [] o) (if_of names_at [] p)
both wanted plan left names_at law None p goes fewer = refl
both wanted plan left names_at law (Some i) None (inl asks) fewer = absurd (asks refl)
both wanted plan left names_at law (Some i) None (inr inserts) fewer = absurd (inserts refl)
both wanted plan left names_at law (Some i) (Some j) goes fewer = law i j goes fewer

pub names_grow : NamesGrow
names_grow (calls.Get a) i j keeps goes goes_on fewer =
    both _ _ _ _ (λ (x y : GetInquiry) on less. get_grows y.caller a x.getting y.getting on less)
    (of_get i) (of_get j) goes_on fewer
names_grow (calls.Send a) i j keeps goes goes_on fewer =
    both _ _ _ _ (λ (x y : SendInquiry) on less. refl) (of_send i) (of_send j) goes_on fewer
names_grow (calls.Receive a) i j keeps goes goes_on fewer =
    both _ _ _ _ (λ (x y : ReceiveInquiry) on less. refl) (of_receive i) (of_receive j) goes_on fewer
names_grow (calls.Stat id) i j keeps goes goes_on fewer =
    both _ _ _ _ (λ (x y : StatInquiry) on less. refl) (of_stat i) (of_stat j) goes_on fewer
names_grow (calls.Set a) i j keeps goes goes_on fewer =
    both _ _ _ _ (λ (x y : SetInquiry) on less. refl) (of_set i) (of_set j) goes_on fewer
names_grow (calls.Remove id) i j keeps goes goes_on fewer = absurd keeps
