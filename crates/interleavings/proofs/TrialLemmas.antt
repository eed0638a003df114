-- What a call inserts has the same keys and sizes wherever its inquiry has been told the same system.
use Rattle.std.proofs.Common.{ℕ, ◌≡◌, inl, inr, refl, sym, ap, ◌∙◌, subst, List, [], ◌∷◌, Option, Some, None, length-append, arith}
use Rattle.std.proofs.lemmas.List.Elements.{All-contains, Contains-append_cases}
use Rattle.std.proofs.lemmas.Option.{same_Some}
use Rattle.std.proofs.lemmas.Int.{ints}
use Rattle.std.specs.List.{Contains}
use Rattle.std.specs.Prelude.{ℤ, ◌<ℤ◌}
use Rattle.xsi_inquiry.specs.Writing.{nothing}
use Rattle.call_decisions.specs.Anything.{IsOfKind, KnowsOf, if_of, of_get, of_send, of_receive, of_remove, of_set, of_stat, plan_of}
use Rattle.call_decisions.specs.declared.any_inquiry.AnyInquiry.{AnyInquiry}
use Rattle.queue_model.specs.Rules.{new_queue}
use Rattle.queue_model.specs.State.{State}
use Rattle.queue_model.specs.declared.call.Call.{Call}
use Rattle.queue_model.specs.declared.call.Call.TheVariants.{Get, Send, Receive, Stat, Set, Remove}
use Rattle.queue_model.specs.declared.call.GetArguments.{GetArguments}
use Rattle.queue_model.specs.declared.call.SendArguments.{SendArguments}
use Rattle.queue_model.specs.declared.caller.Caller.{Caller}
use Rattle.queue_model.specs.declared.queue.Queue.{Queue}
use Rattle.queue_records.proofs.Lengths.{length-queue}
use Rattle.queue_records.proofs.of_numbers.NumberLaws.{length-eight, length-four}
use Rattle.queue_records.specs.declared.counter.Counter.{Counter}
use Rattle.queue_records.specs.declared.queue_entry.QueueEntry.{QueueEntry}
use Rattle.queue_records.specs.declared.record.Record.{Record}
use Rattle.queue_records.specs.declared.record.Record.TheVariants as records
use Rattle.type_chains.proofs.Members.{contains_head, contains_tail, head_or_tail}
use Rattle.type_chains.specs.Entries.{queue_entry}
use Rattle.type_chains.specs.Lists.{types}
use Rattle.xsi_control.specs.Getting.{KnowsOfGet, get_plan, key_made, made_trials, one_more, plan_made}
use Rattle.xsi_control.specs.declared.get_inquiry.GetInquiry.{GetInquiry}
use Rattle.xsi_control.specs.declared.get_inquiry.Getting.{Getting}
use Rattle.xsi_control.specs.declared.get_inquiry.Getting.TheVariants as gettings
use Rattle.xsi_inquiry.specs.Rooms.{Roomful}
use Rattle.xsi_send.specs.Knowing.{KnowsAt}
use Rattle.xsi_send.specs.Places.{IsBetween, IsPlaceOf}
use Rattle.xsi_send.specs.Planning.{new_type, plan_at, sent_trials}
use Rattle.type_chains.specs.Sending.{last_message}
use Rattle.xsi_send.specs.declared.send_inquiry.SendInquiry.{SendInquiry}
use Rattle.xsi_send.specs.declared.stage.Stage.{Stage}
use Rattle.xsi_send.specs.declared.stage.Stage.TheVariants as stages
use Rattle.xsi_send.specs.declared.type_place.TypePlace.{TypePlace}
use Rattle.xsi_send.specs.declared.type_place.TypePlace.TheVariants.{Between, Standing}
use Rattle.interleavings.specs.Doing.{HasAsLong}
use Rattle.interleavings.proofs.AddsLemmas.{barren_of, receives_none, removes_none, sets_none}

none : {X : Type 0} (x : X) → Contains {X = X} [] x → ⊥
none x (k, within, at) = omega (arith, within)

itself : (rs : List Record) (r : Record) → Contains rs r → HasAsLong rs r
itself rs r has = record { entry = r; its = has; keyed = refl; long = refl }

later : (q : Record) (rs : List Record) (r : Record) → HasAsLong rs r → HasAsLong (q ∷ rs) r
later q rs r has = record {
  entry = has.entry;
  its = contains_tail q has.entry rs has.its;
  keyed = has.keyed;
  long = has.long;
}

-- ---- a Get

module _ (c d : Caller) (a : GetArguments) where
  made_alike : (id : ℕ) (r : Record) → Contains (made_trials c a id) r → HasAsLong (made_trials d a id) r
  made_alike id r has = elim (head_or_tail (records.Queue (queue_entry (new_queue id c a))) r (key_made id a.key) has) [
    | inl same ↦ subst (HasAsLong (made_trials d a id)) same (record {
      entry = records.Queue (queue_entry (new_queue id d a));
      its = contains_head (records.Queue (queue_entry (new_queue id d a))) (key_made id a.key);
      keyed = refl;
      long = length-queue (queue_entry (new_queue id d a)) ∙ sym (length-queue (queue_entry (new_queue id c a)));
    })
    | inr key ↦ later (records.Queue (queue_entry (new_queue id d a))) (key_made id a.key) r
        (itself (key_made id a.key) r key)
  ]

  plans_alike : (id : ℕ) (m n : Option Counter) (r q : Record) → Contains (plan_made c a id m).trials r →
      Contains (plan_made d a id n).trials q → HasAsLong (plan_made d a id n).trials r
  plans_alike id None n r q has other = absurd (none r has)
  plans_alike id (Some m) None r q has other = absurd (none q other)
  plans_alike id (Some m) (Some n) r q has other = made_alike id r has

  gets_alike : (s : State) (g h : Getting) (r q : Record) → KnowsOfGet c a g s → KnowsOfGet d a h s →
      Contains (get_plan c a g).trials r → Contains (get_plan d a h).trials q → HasAsLong (get_plan d a h).trials r
  gets_alike s (gettings.Counted n) (gettings.Counted m) r q knows same has other =
      let next : n.next_id ≡ m.next_id = ap (λ (x : Counter). x.next_id) (knows.1 ∙ sym same.1) in
      subst (λ (id : ℕ). HasAsLong (plan_made d a id (one_more m)).trials r) next
      (plans_alike n.next_id (one_more n) (one_more m) r q has
      (subst (λ (id : ℕ). Contains (plan_made d a id (one_more m)).trials q) (sym next) other))
  gets_alike s (gettings.Counted n) gettings.AtKey r q knows same has other = absurd (none q other)
  gets_alike s (gettings.Counted n) (gettings.Found id) r q knows same has other = absurd (none q other)
  gets_alike s (gettings.Counted n) gettings.Absent r q knows same has other = absurd (none q other)
  gets_alike s (gettings.Counted n) gettings.AtCounter r q knows same has other = absurd (none q other)
  gets_alike s gettings.AtKey h r q knows same has other = absurd (none r has)
  gets_alike s (gettings.Found id) h r q knows same has other = absurd (none r has)
  gets_alike s gettings.Absent h r q knows same has other = absurd (none r has)
  gets_alike s gettings.AtCounter h r q knows same has other = absurd (none r has)

-- ---- a Send

module _ (a : SendArguments) where
  -- a type that stands is not one that is new
  never_both : (q : Queue) (low high : Option ℤ) → Contains (types q.messages) a.mtype →
      IsBetween a.mtype low high q → ⊥
  never_both q low high stands is =
      elim (Contains-append_cases is.below is.above a.mtype (subst (λ ts. Contains ts a.mtype) is.split stands)) [
        | inl under ↦ omega (arith, ints, All-contains (λ (t : ℤ). t <ℤ a.mtype) is.below a.mtype is.less under)
        | inr over ↦ omega (arith, ints, All-contains (λ (t : ℤ). a.mtype <ℤ t) is.above a.mtype is.more over)
      ]

  module _ (p o : ℕ) (e : QueueEntry) where
    message_alike : (rs : List Record) (r : Record) →
        records.Message (last_message p a e) ≡ r →
        HasAsLong (records.Message (last_message o a e) ∷ rs) r
    message_alike rs r same = subst (HasAsLong (records.Message (last_message o a e) ∷ rs)) same (record {
      entry = records.Message (last_message o a e);
      its = contains_head (records.Message (last_message o a e)) rs;
      keyed = refl;
      long = simp (length-append, length-eight, length-four) (omega arith);
    })

    type_alike : (low high left right : Option ℤ) →
        HasAsLong (records.Type (new_type e.id a.mtype e.next_serial left right) ∷ [])
        (records.Type (new_type e.id a.mtype e.next_serial low high))
    type_alike low high left right = record {
      entry = records.Type (new_type e.id a.mtype e.next_serial left right);
      its = contains_head (records.Type (new_type e.id a.mtype e.next_serial left right)) [];
      keyed = refl;
      long = simp (length-append, length-eight) (omega arith);
    }

    at_first : (y : TypePlace) (r : Record) → records.Message (last_message p a e) ≡ r →
        HasAsLong (sent_trials o a e y) r
    at_first (Standing last) r same = message_alike [] r same
    at_first (Between left right) r same =
        message_alike (records.Type (new_type e.id a.mtype e.next_serial left right) ∷ []) r same

    sent_alike : (q : Queue) (x y : TypePlace) (r : Record) → IsPlaceOf a.mtype x q → IsPlaceOf a.mtype y q →
        Contains (sent_trials p a e x) r → HasAsLong (sent_trials o a e y) r
    sent_alike q (Standing last) y r is other has =
        elim (head_or_tail (records.Message (last_message p a e)) r [] has) [
          | inl same ↦ at_first y r same
          | inr past ↦ absurd (none r past)
        ]
    sent_alike q (Between low high) y r is other has = elim (head_or_tail (records.Message (last_message p a e)) r
        (records.Type (new_type e.id a.mtype e.next_serial low high) ∷ []) has) [
          | inl same ↦ at_first y r same
          | inr past ↦
              elim (head_or_tail (records.Type (new_type e.id a.mtype e.next_serial low high)) r [] past) [
                | inl same ↦ subst (HasAsLong (sent_trials o a e y)) same (at_second y is other)
                | inr beyond ↦ absurd (none r beyond)
              ]
        ]
      where
        at_second : (z : TypePlace) → IsBetween a.mtype low high q → IsPlaceOf a.mtype z q →
            HasAsLong (sent_trials o a e z) (records.Type (new_type e.id a.mtype e.next_serial low high))
        at_second (Standing last) between standing = absurd (never_both q low high standing.stands between)
        at_second (Between left right) between also =
            later (records.Message (last_message o a e)) _ _ (type_alike low high left right)

  module _ (c d : Caller) (s : State) where
    dones_alike : (e f : QueueEntry) (x y : TypePlace) (r : Record) → KnowsAt c a (stages.Done e x) s →
        KnowsAt d a (stages.Done f y) s → Contains (sent_trials c.pid a e x) r → HasAsLong (sent_trials d.pid a f y) r
    dones_alike e f x y r knows same has =
        let queues : knows.0.queue ≡ same.0.queue =
        same_Some knows.0.queue same.0.queue (sym knows.0.found ∙ same.0.found) in
        let entries : e ≡ f = knows.0.entry ∙ ap queue_entry queues ∙ sym same.0.entry in
        subst (λ (g : QueueEntry). HasAsLong (sent_trials d.pid a g y) r) entries
        (sent_alike c.pid d.pid e same.0.queue x y r (subst (IsPlaceOf a.mtype x) queues knows.1) same.1 has)

    sends_alike : (g h : Stage) (r q : Record) → KnowsAt c a g s → KnowsAt d a h s →
        Contains (plan_at c.pid a g).trials r → Contains (plan_at d.pid a h).trials q →
        HasAsLong (plan_at d.pid a h).trials r
    sends_alike (stages.Done e x) (stages.Done f y) r q knows same has other = dones_alike e f x y r knows same has
    sends_alike (stages.Done e x) (stages.Seeking sought) r q knows same has other = absurd (none q other)
    sends_alike (stages.Done e x) (stages.Refused errno) r q knows same has other = absurd (none q other)
    sends_alike (stages.Done e x) stages.Full r q knows same has other = absurd (none q other)
    sends_alike (stages.Done e x) (stages.AtType f) r q knows same has other = absurd (none q other)
    sends_alike (stages.Done e x) (stages.AtNeighbour w) r q knows same has other = absurd (none q other)
    sends_alike (stages.Seeking sought) h r q knows same has other = absurd (none r has)
    sends_alike (stages.Refused errno) h r q knows same has other = absurd (none r has)
    sends_alike stages.Full h r q knows same has other = absurd (none r has)
    sends_alike (stages.AtType f) h r q knows same has other = absurd (none r has)
    sends_alike (stages.AtNeighbour w) h r q knows same has other = absurd (none r has)

-- ---- plans that insert nothing

pub gone : {rs : List Record} {r : Record} → rs ≡ [] → Contains rs r → ⊥
gone {rs} {r} is has = none r (subst (λ (xs : List Record). Contains xs r) is has)

-- ---- each call

abbrev gets_in : GetArguments → Option GetInquiry → List Record
gets_in a o = (if_of (λ (x : GetInquiry). get_plan x.caller a x.getting) nothing o).trials

abbrev sends_in : SendArguments → Option SendInquiry → List Record
sends_in a o = (if_of (λ (x : SendInquiry). plan_at x.caller.pid a x.stage) nothing o).trials

module _ (s : State) (room other : Roomful) (r q : Record) where
  pub trials_alike : (call : Call) (i j : AnyInquiry) → KnowsOf call i room s → KnowsOf call j other s →
      Contains (plan_of call i).trials r → Contains (plan_of call j).trials q → HasAsLong (plan_of call j).trials r
  trials_alike (Get a) i j knows same has its = by (of_get i) (of_get j) knows same has its
    where
      by : (x y : Option GetInquiry) → IsOfKind (λ (z : GetInquiry). KnowsOfGet z.caller a z.getting s) x →
          IsOfKind (λ (z : GetInquiry). KnowsOfGet z.caller a z.getting s) y → Contains (gets_in a x) r →
          Contains (gets_in a y) q → HasAsLong (gets_in a y) r
      by (Some x) (Some y) knows same has its =
          gets_alike x.caller y.caller a s x.getting y.getting r q knows same has its
      by (Some x) None knows same has its = absurd same
      by None y knows same has its = absurd knows
  trials_alike (Send a) i j knows same has its = by (of_send i) (of_send j) knows same has its
    where
      by : (x y : Option SendInquiry) → IsOfKind (λ (z : SendInquiry). KnowsAt z.caller a z.stage s) x →
          IsOfKind (λ (z : SendInquiry). KnowsAt z.caller a z.stage s) y → Contains (sends_in a x) r →
          Contains (sends_in a y) q → HasAsLong (sends_in a y) r
      by (Some x) (Some y) knows same has its =
          sends_alike a x.caller y.caller s x.stage y.stage r q knows same has its
      by (Some x) None knows same has its = absurd same
      by None y knows same has its = absurd knows
  trials_alike (Receive a) i j knows same has its =
      absurd (gone (barren_of _ (λ k. receives_none a.id k.stage) (of_receive i)) has)
  trials_alike (Stat id) i j knows same has its =
      absurd (gone (barren_of _ (λ k. refl) (of_stat i)) has)
  trials_alike (Set a) i j knows same has its =
      absurd (gone (barren_of _ (λ k. sets_none k.caller a k.sought) (of_set i)) has)
  trials_alike (Remove id) i j knows same has its =
      absurd (gone (barren_of _ (λ k. removes_none id k.stage) (of_remove i)) has)
