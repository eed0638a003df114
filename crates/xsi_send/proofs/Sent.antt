-- The plan of a Send leads to the records of the system with the message, in order.
use Rattle.xsi_send.proofs.Names.{All-contains, Between, Caller, Decides-int_eq, Done, IsAnswered, IsFiled, IsOpen, IsPlaceOf, List, Message, None, Option, Plan, Queue, QueueEntry, Relink, Send, SendArguments, Sent, Some, Standing, State, TypePlace, Write, [], ap, behind_end, cond, false, filter, filter_passes, higher_write, is_of_type, key_of_message, last_message, last_of, links_behind, lower_write, nat_eq, new_type, option_eq, option_map, plan_at, queue_entry, record_of, refl, serials, subst, sym, true, type_write, with_message, with_queue, ℕ, ℤ, ◌==◌, ◌∙◌, ◌∷◌, ◌≡◌}
use Rattle.page_locks.specs.declared.lock.LockName.TheVariants as names
use Rattle.queue_records.specs.declared.record.Record.TheVariants as records
use Rattle.xsi_inquiry.specs.declared.verdict.Verdict.TheVariants as verdicts
use Rattle.type_chains.proofs.Beside.{in_last, last-map, some_last}
use Rattle.xsi_send.proofs.SentParts.{IsRightPlan, queue_is}
use Rattle.xsi_send.proofs.SentPlans.{right_between, right_standing}
use Rattle.xsi_send.proofs.Told.{last_typed_there, last_with, of_filter}

module _ (c : Caller) (a : SendArguments) (e : QueueEntry) (s : State) (filed : IsFiled s) (known : IsOpen c a e s)
  where
    abbrev q : Queue
    q = known.queue

    abbrev t : State
    t = with_queue a.id (with_message c.pid a known.queue) s

    -- the plan of a type that stands, by what stands first in it, and by the last serials of the queue and of the type
    abbrev standing : Option Write → Option ℕ → ℕ → Plan
    standing first ends serial = record {
      trials = records.Message (last_message c.pid a (queue_entry q)) ∷ [];
      slots = first
          ∷ cond (option_eq nat_eq ends (Some serial)) None
          (Some (Relink (key_of_message q.id serial) (links_behind q.next_serial false true)))
          ∷ option_map (λ (end : ℕ). behind_end (queue_entry q) (end == serial) end) ends
          ∷ Some (type_write a (queue_entry q))
          ∷ [];
    }

    abbrev between : Option Write → Option ℤ → Option ℤ → Plan
    between first low high = record {
      trials = records.Message (last_message c.pid a (queue_entry q))
          ∷ records.Type (new_type q.id a.mtype q.next_serial low high) ∷ [];
      slots = first
          ∷ option_map (λ (end : ℕ). behind_end (queue_entry q) false end) (last_of (serials q.messages))
          ∷ option_map (λ (u : ℤ). lower_write a (queue_entry q) u) low
          ∷ option_map (λ (u : ℤ). higher_write a (queue_entry q) u) high
          ∷ [];
    }

    last_serial : (x : Message) → last_of q.messages ≡ Some x → last_of (serials q.messages) ≡ Some x.serial
    last_serial x last =
        last-map (λ (m : Message). m.serial) q.messages ∙ ap (option_map (λ (m : Message). m.serial)) last

    right_at : (place : TypePlace) → IsPlaceOf a.mtype place q →
        IsRightPlan a.id (plan_at c.pid a (Done (queue_entry q) place)) (record_of s) (record_of t)
    right_at (Standing serial) is =
        let typed = filter (is_of_type a.mtype) q.messages in
        let (y, of_type, has) = last_typed_there c a e s filed known is.stands in
        let kept = in_last typed y of_type in
        let (x, last) = some_last q.messages y (of_filter (is_of_type a.mtype) q.messages y kept) in
        let its_type = (Decides-int_eq y.mtype a.mtype).0 (All-contains (λ (m : Message). is_of_type a.mtype m ≡ true)
        typed y (filter_passes (is_of_type a.mtype) q.messages) kept) in
        let first = queue_is c a e s filed known in
        let end = last_serial x last in
        let serial_is = is.last ∙ sym has in
        subst (λ (p : Plan). IsRightPlan a.id p (record_of s) (record_of t))
        (sym (λ i. standing (first i) (end i) (serial_is i)))
        (right_standing c a e s filed known x y is.stands last of_type its_type (x.serial == y.serial) refl)
    right_at (Between low high) is =
        let first = queue_is c a e s filed known in
        subst (λ (p : Plan). IsRightPlan a.id p (record_of s) (record_of t)) (sym (λ i. between (first i) low high))
        (right_between c a e s filed known low high is (last_of (serials q.messages)) (last_with q.messages)
        last_serial)

    pub right_sent : (place : TypePlace) → IsPlaceOf a.mtype place known.queue →
        IsRightPlan a.id (plan_at c.pid a (Done e place)) (record_of s)
        (record_of (with_queue a.id (with_message c.pid a known.queue) s))
    right_sent place is = subst (λ (x : QueueEntry). IsRightPlan a.id (plan_at c.pid a (Done x place)) (record_of s)
        (record_of t)) (sym known.entry) (right_at place is)

    -- the answer and the plan are those of the call
    pub answered : (bytes : List ℕ) (place : TypePlace) → IsPlaceOf a.mtype place known.queue →
        IsAnswered c (Send a) (names.Queue a.id ∷ []) bytes s (verdicts.Sent e.next_serial)
        (plan_at c.pid a (Done e place))
    answered bytes place is =
        let right = right_sent place is in
        let serial = ap (λ (x : QueueEntry). x.next_serial) known.entry in
        record {
          after = t;
          outcome = known.outcome ∙ ap (λ n. Some (Sent n, t)) (sym serial);
          leads = right.leads;
          own = right.own;
          idle = λ never. absurd never;
          ordered = right.ordered;
        }
