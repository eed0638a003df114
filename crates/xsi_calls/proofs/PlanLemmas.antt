-- No plan inserts the Counter on trial, and each writes it once at most.
use Rattle.std.proofs.Common.{ℕ, ◌≡◌, ◌==◌, Bool, true, false, cond, List, [], ◌∷◌, Option, Some, None, option_map, Result, Ok, Err, refl, sym, ◌∙◌}
use Rattle.std.proofs.lemmas.Bool.{true≢false}
use Rattle.std.specs.List.{list_any}
use Rattle.std.specs.Option.{option_eq}
use Rattle.std.specs.Prelude.{ℤ, length, nat_eq, nat_lt, ⊤}
use Rattle.call_writes.specs.call_decisions.Owing.{is_written}
use Rattle.xsi_calls.proofs.QuestionNames.{GetArguments, GetInquiry, Getting, MAX_QBYTES, QueueEntry, ReceiveInquiry, RemoveInquiry, SendArguments, SendInquiry, SetArguments, SetInquiry, Sought, StatInquiry, get_plan, if_of, key_of_message, key_of_type, of_get, of_receive, of_remove, of_send, of_set, of_stat, one_more, plan_by, plan_made, plan_on, set_entry, set_plan}
use Rattle.queue_model.specs.declared.call.Call.TheVariants as calls
use Rattle.xsi_control.specs.Getting.{key_made}
use Rattle.xsi_control.specs.declared.get_inquiry.Getting.TheVariants as gets
use Rattle.xsi_inquiry.specs.Writing.{somes}
use Rattle.xsi_inquiry.specs.declared.sought.Sought.TheVariants as soughts
use Rattle.xsi_inquiry.specs.declared.write.Write.TheVariants.{Relink}
use Rattle.xsi_receive.specs.Asking as receives
use Rattle.xsi_receive.specs.Removing as removals
use Rattle.xsi_receive.specs.declared.removal.TypeLeft.{TypeLeft}
use Rattle.xsi_receive.specs.declared.removal.TypeLeft.TheVariants.{Begins, Goes}
use Rattle.xsi_receive.specs.declared.stage.Stage as receive_stages
use Rattle.xsi_receive.specs.declared.stage.Stage.TheVariants as receive
use Rattle.xsi_send.specs.Planning as sends
use Rattle.xsi_send.specs.declared.stage.Stage as send_stages
use Rattle.xsi_send.specs.declared.stage.Stage.TheVariants as send
use Rattle.xsi_send.specs.declared.type_place.TypePlace.{TypePlace}
use Rattle.xsi_send.specs.declared.type_place.TypePlace.TheVariants as places
use Rattle.xsi_control.specs.Asking as removes
use Rattle.xsi_control.specs.Removing as sweeps
use Rattle.xsi_control.specs.declared.stage.Stage as remove_stages
use Rattle.xsi_control.specs.declared.stage.Stage.TheVariants as remove
use Rattle.xsi_calls.proofs.UndecidedNames.{Write, is_same, key_of, key_written, writes_of}
use Rattle.xsi_calls.specs.UndecidedBelow.{Counter, counter_key}
use Rattle.xsi_calls.specs.UndecidedWords.{AnyInquiry, Call, Caller, Plan, Record, nothing, plan_of}

-- after a write of the Counter there is no other
abbrev pub WritesOnce : List Write → Type 0
WritesOnce [] = ⊤
WritesOnce (w ∷ ws) =
    (is_same counter_key (key_written w) ≡ true → is_written ws counter_key ≡ false) × WritesOnce ws

abbrev pub has_counter : List Record → Bool
has_counter rs = list_any (λ (r : Record). is_same counter_key (key_of r)) rs

-- no trial is the Counter, and it is written once at most
pub record HasOneCounter (p : Plan) : Type 0 where
  pub trials : has_counter p.trials ≡ false
  pub writes : WritesOnce (writes_of p)

-- ---- slots

-- a slot in which another record is written, or none
abbrev IsAside : Option Write → Type 0
IsAside None = ⊤
IsAside (Some w) = is_same counter_key (key_written w) ≡ false

abbrev AreAside : List (Option Write) → Type 0
AreAside [] = ⊤
AreAside (o ∷ os) = IsAside o × AreAside os

also_aside : (o : Option Write) (os : List (Option Write)) → IsAside o → WritesOnce (somes os) →
    WritesOnce (somes (o ∷ os))
also_aside None os other once = once
also_aside (Some w) os other once = (λ is. absurd (true≢false (sym is ∙ other)), once)

all_aside : (os : List (Option Write)) → AreAside os → WritesOnce (somes os)
all_aside [] others = tt
all_aside (o ∷ os) others = also_aside o os others.0 (all_aside os others.1)

mapped_aside : {X : Type 0} (write : X → Write) →
    ((x : X) → is_same counter_key (key_written (write x)) ≡ false) → (o : Option X) → IsAside (option_map write o)
mapped_aside write other None = tt
mapped_aside write other (Some x) = other x

none_or_aside : (b : Bool) (w : Write) → is_same counter_key (key_written w) ≡ false → IsAside (cond b None (Some w))
none_or_aside true w other = tt
none_or_aside false w other = other

aside_or_none : (b : Bool) (w : Write) → is_same counter_key (key_written w) ≡ false → IsAside (cond b (Some w) None)
aside_or_none true w other = other
aside_or_none false w other = tt

-- ---- by the kind of the call

nothing_has : HasOneCounter nothing
nothing_has = record { trials = refl; writes = tt }

has_by : {I : Type 0} (plan : I → Plan) → ((x : I) → HasOneCounter (plan x)) → (o : Option I) →
    HasOneCounter (if_of plan nothing o)
has_by plan law None = nothing_has
has_by plan law (Some x) = law x

get_has : (c : Caller) (a : GetArguments) (g : Getting) → HasOneCounter (get_plan c a g)
get_has c a gets.AtKey = nothing_has
get_has c a (gets.Found id) = nothing_has
get_has c a gets.Absent = nothing_has
get_has c a gets.AtCounter = nothing_has
get_has c a (gets.Counted n) = by (one_more n)
  where
    no_key : (key : Option ℕ) → has_counter (key_made n.next_id key) ≡ false
    no_key None = refl
    no_key (Some key) = refl

    by : (o : Option Counter) → HasOneCounter (plan_made c a n.next_id o)
    by None = nothing_has
    by (Some m) = record { trials = no_key a.key; writes = (λ is. refl, tt) }

send_has : (pid : ℕ) (a : SendArguments) (stage : send_stages.Stage) → HasOneCounter (sends.plan_at pid a stage)
send_has pid a (send.Seeking sought) = nothing_has
send_has pid a (send.Refused errno) = nothing_has
send_has pid a send.Full = nothing_has
send_has pid a (send.AtType e) = nothing_has
send_has pid a (send.AtNeighbour w) = nothing_has
send_has pid a (send.Done e place) = record {
  trials = tried place;
  writes = all_aside (sends.sent_slots pid a e place) (others place);
}
  where
    tried : (at : TypePlace) → has_counter (sends.sent_trials pid a e at) ≡ false
    tried (places.Standing last) = refl
    tried (places.Between lower higher) = refl

    queue : IsAside (sends.queue_write pid a e)
    queue = aside_or_none (sends.takes_more (length a.body) e) _ refl

    end : (typed : ℕ → Bool) → IsAside (sends.end_of_queue e typed)
    end typed = mapped_aside (λ (end : ℕ). sends.behind_end e (typed end) end) (λ end. refl) e.last

    others : (at : TypePlace) → AreAside (sends.sent_slots pid a e at)
    others (places.Standing last) = (
      queue,
      (
        none_or_aside (option_eq nat_eq e.last (Some last)) _ refl,
        (end (λ (end : ℕ). end == last), (refl, tt)),
      ),
    )
    others (places.Between lower higher) = (
      queue,
      (
        end (λ (end : ℕ). false),
        (
          mapped_aside (sends.lower_write a e) (λ mtype. refl) lower,
          (mapped_aside (sends.higher_write a e) (λ mtype. refl) higher, tt),
        ),
      ),
    )

receive_has : (id : ℕ) (stage : receive_stages.Stage) → HasOneCounter (receives.plan_at id stage)
receive_has id (receive.Seeking sought) = nothing_has
receive_has id (receive.Refused errno) = nothing_has
receive_has id receive.PutOff = nothing_has
receive_has id (receive.AtType e mtype) = nothing_has
receive_has id (receive.AtMessage e t serial) = nothing_has
receive_has id (receive.AtTypeOf e m) = nothing_has
receive_has id (receive.Taken r) = record { trials = refl; writes = all_aside (removals.slots_of id r) others }
  where
    own : (mtype : ℤ) (left : TypeLeft) → IsAside (removals.own_by id mtype left)
    own mtype (Begins first) = refl
    own mtype (Goes lower higher) =
        mapped_aside (λ (t : ℤ). Relink (key_of_type id t) (removals.to_higher higher)) (λ t. refl) lower

    above : (left : TypeLeft) → IsAside (removals.higher_by id left)
    above (Begins first) = tt
    above (Goes lower higher) =
        mapped_aside (λ (t : ℤ). Relink (key_of_type id t) (removals.to_lower lower)) (λ t. refl) higher

    gone : (mtype : ℤ) (left : TypeLeft) → IsAside (removals.deletion_by id mtype left)
    gone mtype (Begins first) = tt
    gone mtype (Goes lower higher) = refl

    previous : IsAside (removals.previous_write id r)
    previous = mapped_aside (λ (serial : ℕ). Relink (key_of_message id serial) (removals.to_next r.message.next))
        (λ serial. refl) r.message.previous

    next : IsAside (removals.next_write id r)
    next = mapped_aside (λ (serial : ℕ). Relink (key_of_message id serial) (removals.to_previous r.message.previous))
        (λ serial. refl) r.message.next

    others : AreAside (removals.slots_of id r)
    others = (
      refl,
      (
        previous,
        (
          next,
          (
            own r.message.mtype r.type_left,
            (
              above r.type_left,
              (refl, (gone r.message.mtype r.type_left, tt)),
            ),
          ),
        ),
      ),
    )

set_has : (c : Caller) (a : SetArguments) (sought : Sought) → HasOneCounter (set_plan c a sought)
set_has c a sought = by (nat_lt MAX_QBYTES a.qbytes)
  where
    on_entry : (r : Result QueueEntry _) → HasOneCounter (plan_by r)
    on_entry (Ok e) = record { trials = refl; writes = (λ is. refl, tt) }
    on_entry (Err errno) = nothing_has

    on : (at : Sought) → HasOneCounter (plan_on c a at)
    on (soughts.Found e) = on_entry (set_entry c a e)
    on (soughts.Refused errno) = nothing_has
    on soughts.Unread = nothing_has
    on soughts.Absent = nothing_has

    by : (b : Bool) → HasOneCounter (cond b nothing (plan_on c a sought))
    by true = nothing_has
    by false = on sought

-- there the Counter is written last
remove_has : (id : ℕ) (stage : remove_stages.Stage) → HasOneCounter (removes.plan_at id stage)
remove_has id (remove.Seeking sought) = nothing_has
remove_has id (remove.Refused errno) = nothing_has
remove_has id (remove.Keyed key) = nothing_has
remove_has id (remove.Counting key queue) = nothing_has
remove_has id (remove.Removing r) = record {
  trials = refl;
  writes = also_aside (sweeps.key_deletion r.key) _ (mapped_aside _ (λ (k : ℕ). refl) r.key)
      (λ is. absurd (true≢false (sym is)), (λ is. refl, tt));
}

pub plans_have_one_counter : (call : Call) (i : AnyInquiry) → HasOneCounter (plan_of call i)
plans_have_one_counter (calls.Get a) any = has_by (λ (i : GetInquiry). get_plan i.caller a i.getting)
    (λ i. get_has i.caller a i.getting) (of_get any)
plans_have_one_counter (calls.Send a) any = has_by (λ (i : SendInquiry). sends.plan_at i.caller.pid a i.stage)
    (λ i. send_has i.caller.pid a i.stage) (of_send any)
plans_have_one_counter (calls.Receive a) any = has_by (λ (i : ReceiveInquiry). receives.plan_at a.id i.stage)
    (λ i. receive_has a.id i.stage) (of_receive any)
plans_have_one_counter (calls.Stat id) any = has_by (λ (i : StatInquiry). nothing) (λ i. nothing_has) (of_stat any)
plans_have_one_counter (calls.Set a) any = has_by (λ (i : SetInquiry). set_plan i.caller a i.sought)
    (λ i. set_has i.caller a i.sought) (of_set any)
plans_have_one_counter (calls.Remove id) any = has_by (λ (i : RemoveInquiry). removes.plan_at id i.stage)
    (λ i. remove_has id i.stage) (of_remove any)
