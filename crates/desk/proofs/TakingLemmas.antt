-- Which messages a receive would take, and what is left of a queue once the last that was sent is taken.
use Rattle.std.proofs.Common.{arith, ℕ, zero, suc, ℤ, pos, negsuc, ◌≡◌, ◌<◌, inl, inr, refl, sym, ap, ◌∙◌, subst, Bool, true, false, List, [], ◌∷◌, ◌++◌, Option, Some, None, length, slice_get}
use Rattle.std.specs.Prelude.{int_le, int_lt, nat_lt, ◌||◌, slice_index_or}
use Rattle.std.specs.List.{All, find, position_or_len, remove}
use Rattle.std.proofs.lemmas.Bool.{cases_lt}
use Rattle.std.proofs.lemmas.Bool.Decides.{nat_tests}
use Rattle.std.proofs.lemmas.Int.{ints}
use Rattle.std.proofs.lemmas.List.Folds.{find-set, find_at}
use Rattle.std.proofs.lemmas.List.Elements.{All-push}
use Rattle.std.proofs.lemmas.List.{get_or_append_left, get_or_push, length_push}
use Rattle.std.proofs.lemmas.List.Sums.{sum_by-append}
use Rattle.std.proofs.lemmas.Option.{slice_get-get_or, slice_get_within, get_or_from_slice_get}
use Rattle.queue_model.specs.declared.message.Message.{Message}
use Rattle.queue_model.specs.Selection.{has_type, lowest_type, selected, selects, total_bytes, unselected}
use Rattle.queue_model.proofs.ListLemmas.{All-remove, find-None, find-Some, find-None-All, position_None}
use Rattle.queue_model.proofs.LowestLemmas.{SelectsLowestWithin-selected}
use Rattle.queue_model.specs.declared.answer.Answer.{Answer}
use Rattle.queue_model.specs.declared.answer.Answer.TheVariants.{Done, Id, Info, Received, Refused, Sent}
use Rattle.queue_model.specs.declared.call.Call.TheVariants.{Receive, Send}
use Rattle.queue_model.specs.declared.call.ReceiveArguments.{ReceiveArguments}
use Rattle.queue_model.specs.declared.call.SendArguments.{SendArguments}
use Rattle.queue_model.specs.declared.caller.Caller.{Caller}
use Rattle.queue_model.specs.declared.errno.Errno.TheVariants.{EACCES}
use Rattle.queue_model.specs.declared.permissions.Access.TheVariants.{Write}
use Rattle.queue_model.specs.declared.queue.Queue.{Queue}
use Rattle.numbers.specs.declared.limits.TheConstants.{MAX_BODY}
use Rattle.queue_model.specs.Access.{lacks_access}
use Rattle.queue_model.specs.Rules.{Outcome, has_id, lacks_room, on_queue, outcome, refuse, send_to, with_message, with_queue, without_message}
use Rattle.queue_model.specs.Lawful.{IsLawful, IsLawfulQueue}
use Rattle.queue_model.specs.State.{State}
use Rattle.queue_model.proofs.EffectLemmas.{Accepts, Changes, Effect-outcome, Gives}
use Rattle.desk.proofs.PutOffLemmas.{Became, one_queue, receive_waits_on, send_waits_on}
use Rattle.desk.specs.Due.{takes}

-- ---- none is taken exactly where none could be

none_found : {X : Type 0} (p : X → Bool) (xs : List X) → All (λ x. p x ≡ false) xs → find p xs ≡ None
none_found p xs fails = find-None p xs (position_None p xs fails)

no_lowest : (b : ℤ) (ms : List Message) → All (λ (m : Message). int_le m.mtype b ≡ false) ms →
    lowest_type b ms ≡ None
no_lowest b [] fails = refl
no_lowest b (m ∷ ms) fails =
    let head : int_le m.mtype b ≡ false = fails zero m (omega arith) in
    let rest = no_lowest b ms (λ k d h. fails (suc k) d (omega (arith, h))) in
    rw head rest

pub none_taken : (t : ℤ) (ms : List Message) → selected t ms ≡ None →
    All (λ (m : Message). takes t m.mtype ≡ false) ms
none_taken (pos zero) ms none = find-None-All (selects (pos zero) ms) ms none
none_taken (pos (suc n)) ms none = find-None-All (selects (pos (suc n)) ms) ms none
none_taken (negsuc n) ms none = λ k m within.
    let past = (SelectsLowestWithin-selected n ms).none none k m within in
    grind (arith, ints, past)

pub none_selected : (t : ℤ) (ms : List Message) → All (λ (m : Message). takes t m.mtype ≡ false) ms →
    selected t ms ≡ None
none_selected (pos zero) ms fails = none_found (selects (pos zero) ms) ms fails
none_selected (pos (suc n)) ms fails = none_found (selects (pos (suc n)) ms) ms fails
none_selected (negsuc n) ms fails =
    ap (λ (o : Option ℤ). find (has_type o) ms) (no_lowest (pos (suc n)) ms fails)
    ∙ none_found (has_type None) ms (λ k m within. refl)

-- so none is where one that it would not take is sent
pub none_of_more : (t : ℤ) (ms : List Message) (m : Message) → selected t ms ≡ None → takes t m.mtype ≡ false →
    selected t (ms ++ m ∷ []) ≡ None
none_of_more t ms m none other =
    none_selected t (ms ++ m ∷ [])
    (All-push (λ (n : Message). takes t n.mtype ≡ false) ms m (none_taken t ms none) other)

-- or where one is taken
pub none_of_fewer : (t u : ℤ) (ms : List Message) → selected t ms ≡ None → selected t (unselected u ms) ≡ None
none_of_fewer t u ms none =
    none_selected t (unselected u ms) (All-remove (λ (n : Message). takes t n.mtype ≡ false) ms
    (position_or_len (selects u ms) ms) (none_taken t ms none))

-- ---- the last message is taken

last_removed : (ms : List Message) (m : Message) → remove (ms ++ m ∷ []) (length ms) ≡ ms
last_removed [] m = refl
last_removed (x ∷ ms) m = ap (λ (ns : List Message). x ∷ ns) (last_removed ms m)

-- a message with a serial past those of all before it leaves them, once it is the one that is taken
pub left_before : (t : ℤ) (ms : List Message) (m given : Message) →
    All (λ (n : Message). n.serial < m.serial) ms → selected t (ms ++ m ∷ []) ≡ Some given →
    given.serial ≡ m.serial → unselected t (ms ++ m ∷ []) ≡ ms
left_before t ms m given below is same =
    ap (remove (ms ++ m ∷ [])) at_end ∙ last_removed ms m
  where
    place : ℕ
    place = position_or_len (selects t (ms ++ m ∷ [])) (ms ++ m ∷ [])

    there : slice_get (ms ++ m ∷ []) place ≡ Some given
    there = sym (find_at (selects t (ms ++ m ∷ [])) (ms ++ m ∷ [])) ∙ is

    -- it does not stand before the last
    not_before : place < length ms → ⊥
    not_before early =
        let here : (slice_index_or ms place given).serial ≡ given.serial =
        ap (λ (n : Message). n.serial) (sym (get_or_append_left ms (m ∷ []) given place early)
        ∙ get_or_from_slice_get (ms ++ m ∷ []) place given given there) in
        let less = below place given early in
        omega (arith, here, less, same)

    at_end : place ≡ length ms
    at_end =
        let within = slice_get_within (ms ++ m ∷ []) place given there in
        let long = length_push ms m in
        elim (cases_lt place (length ms)) [
          | inl early ↦ absurd (not_before early)
          | inr late ↦ omega (arith, within, long, late)
        ]

-- ---- what a message that is sent or given makes of its queue

-- a queue of which this one is the new one, at the place of its id
became : (id : ℕ) (s t : State) (place : ℕ) (q new : Queue) → Changes id s place q new t → new.id ≡ q.id →
    new.permissions ≡ q.permissions → Became id s t q new
became id s t place q new did same rights = record {
  was = found;
  is = ap (λ (u : State). find (has_id id) u.queues) did.after
      ∙ find-set (has_id id) s.queues place new (sym did.stands.place_of.first) did.stands.place_of.within its;
  given = ap (λ (u : State). nat_lt id u.next_id) (sym did.after);
  permissions = rights;
  stopped = ap (λ (u : State). u.stopped) did.after;
}
  where
    found : find (has_id id) s.queues ≡ Some q
    found =
        find_at (has_id id) s.queues ∙ ap (slice_get s.queues) did.stands.place_of.first
        ∙ slice_get-get_or s.queues place q did.stands.place_of.within ∙ ap Some (did.stands.is_it q)

    its : has_id id new ≡ true
    its =
        let here = did.stands.place_of.is_its q in
        let is = ap (λ (r : Queue). r.id) (did.stands.is_it q) in
        grind (arith, nat_tests, here, is, same)

abbrev serial_of : Answer → ℕ
serial_of (Id id) = 0
serial_of (Sent serial) = serial
serial_of (Received m) = 0
serial_of (Info i) = 0
serial_of Done = 0
serial_of (Refused e) = 0

abbrev answer_in : Outcome → Answer
answer_in None = Done
answer_in (Some o) = o.0

-- of what is sent the serial is told
module _ (c : Caller) (x : SendArguments) (s t : State) (n : ℕ) (at : outcome c (Send x) s ≡ Some (Sent n, t)) where
  abbrev pub sent : Accepts c x s t
  sent = Effect-outcome c (Send x) (Sent n) s t at

  pub to_queue : Became x.id s t sent.q (with_message c.pid x sent.q)
  to_queue = became x.id s t sent.place sent.q (with_message c.pid x sent.q) sent.changes refl refl

  pub its_serial : sent.q.next_serial ≡ n
  its_serial = by (lacks_access Write c sent.q.permissions) refl
    where
      there : send_to c x s sent.q ≡ Some (Sent n, t)
      there =
          let sound : (int_lt x.mtype (pos 1) || nat_lt MAX_BODY (length x.body)) ≡ false =
          let typed = sent.typed in let short = sent.short in grind (arith, typed, short) in
          let goes : on_queue x.id s (send_to c x s) ≡ Some (Sent n, t) = rw sound at at in
          sym (sent.changes.stands.place_of.goes_on (send_to c x s) sent.q
          ∙ ap (send_to c x s) (sent.changes.stands.is_it sent.q)) ∙ goes

      by : (b : Bool) → lacks_access Write c sent.q.permissions ≡ b → sent.q.next_serial ≡ n
      by true barred =
          let refused : refuse EACCES s ≡ Some (Sent n, t) = rw barred at there in
          let clash : ◌≡◌ {A = Answer} (Refused EACCES) (Sent n) = ap answer_in refused in absurd cc
      by false may =
          let told : ◌≡◌ {A = Outcome}
          (Some (Sent sent.q.next_serial, with_queue x.id (with_message c.pid x sent.q) s)) (Some (Sent n, t)) =
          rw (may, sent.room) at there in
          ap (λ (o : Outcome). serial_of (answer_in o)) told

  -- one that waits for another type waits on
  pub receive_waits_beside : (b : Caller) (y : ReceiveArguments) → y.id ≡ x.id → takes y.mtype x.mtype ≡ false →
      outcome b (Receive y) s ≡ None → outcome b (Receive y) t ≡ None
  receive_waits_beside b y on other =
      receive_waits_on b x.id s t sent.q (with_message c.pid x sent.q) to_queue y on
      (λ none. none_of_more y.mtype sent.q.messages _ none other)

  -- and one that has no room
  lacks_more : (len : ℕ) → lacks_room len sent.q ≡ true → lacks_room len (with_message c.pid x sent.q) ≡ true
  lacks_more len full =
      let room = sent.room in
      let more = sum_by-append (λ (m : Message). length m.bytes) sent.q.messages
      (record { serial = sent.q.next_serial; sender = c.pid; mtype = x.mtype; bytes = x.body } ∷ []) in
      grind (arith, full, room, more)

  pub send_waits_beside : (b : Caller) (y : SendArguments) → y.id ≡ x.id → outcome b (Send y) s ≡ None →
      outcome b (Send y) t ≡ None
  send_waits_beside b y on =
      send_waits_on b x.id s t sent.q (with_message c.pid x sent.q) to_queue y on (lacks_more (length y.body))

  -- all serials before it are less
  below : IsLawful t → All (λ (m : Message). m.serial < sent.q.next_serial) sent.q.messages
  below lawful k d within =
      let stands = find-Some (has_id x.id) t.queues (with_message c.pid x sent.q) to_queue.is in
      let place = stands.1.0 in
      let its : slice_index_or t.queues place (with_message c.pid x sent.q) ≡ with_message c.pid x sent.q =
      stands.1.2 in
      let queue : IsLawfulQueue (with_message c.pid x sent.q) =
      subst IsLawfulQueue its (lawful.queues_lawful place (with_message c.pid x sent.q) stands.1.1) in
      let m : Message =
      record { serial = sent.q.next_serial; sender = c.pid; mtype = x.mtype; bytes = x.body } in
      let long = length_push sent.q.messages m in
      let less = queue.serials_ascend k (length sent.q.messages) d within (omega (arith, long)) in
      let early = ap (λ (n : Message). n.serial) (get_or_append_left sent.q.messages (m ∷ []) d k within) in
      let late = ap (λ (n : Message). n.serial)
      (get_or_push sent.q.messages m d (length sent.q.messages) refl) in
      omega (arith, less, early, late)

  -- once it is given, each that had to wait before it was sent has to wait
  module _ (lawful : IsLawful t) (d : Caller) (r : ReceiveArguments) (on : r.id ≡ x.id) (m : Message) (u : State)
      (taken : outcome d (Receive r) t ≡ Some (Received m, u)) (it : m.serial ≡ n) where
    abbrev gives : Gives d r m t u
    gives = Effect-outcome d (Receive r) (Received m) t u taken

    then_given : Became r.id t u gives.q (without_message d.pid r gives.q)
    then_given = became r.id t u gives.place gives.q (without_message d.pid r gives.q) gives.changes refl refl

    its : gives.q ≡ with_message c.pid x sent.q
    its = one_queue gives.q (with_message c.pid x sent.q)
        (sym then_given.was ∙ ap (λ (i : ℕ). find (has_id i) t.queues) on ∙ to_queue.is)

    same_messages : (without_message d.pid r gives.q).messages ≡ sent.q.messages
    same_messages =
        ap (λ (q : Queue). unselected r.mtype q.messages) its
        ∙ left_before r.mtype sent.q.messages _ gives.m (below lawful)
        (ap (λ (q : Queue). selected r.mtype q.messages) (sym its) ∙ gives.selects)
        (ap (λ (n : Message). n.serial) (sym gives.cut) ∙ it ∙ sym its_serial)

    as_before : Became x.id s u sent.q (without_message d.pid r gives.q)
    as_before = record {
      was = to_queue.was;
      is = ap (λ (i : ℕ). find (has_id i) u.queues) (sym on) ∙ then_given.is;
      given = to_queue.given
          ∙ subst (λ (i : ℕ). nat_lt i t.next_id ≡ nat_lt i u.next_id) on then_given.given;
      permissions = then_given.permissions ∙ ap (λ (q : Queue). q.permissions) its;
      stopped = then_given.stopped ∙ to_queue.stopped;
    }

    pub receive_waits_again : (b : Caller) (y : ReceiveArguments) → y.id ≡ x.id → outcome b (Receive y) s ≡ None →
        outcome b (Receive y) u ≡ None
    receive_waits_again b y its_id =
        receive_waits_on b x.id s u sent.q (without_message d.pid r gives.q) as_before y its_id
        (λ none. ap (selected y.mtype) same_messages ∙ none)

    lacks_again : (len : ℕ) → lacks_room len sent.q ≡ true → lacks_room len (without_message d.pid r gives.q) ≡ true
    lacks_again len full =
        let room = sent.room in
        let bytes : total_bytes (without_message d.pid r gives.q).messages ≡ total_bytes sent.q.messages =
        ap total_bytes same_messages in
        let limit : gives.q.qbytes ≡ sent.q.qbytes = ap (λ (q : Queue). q.qbytes) its in
        grind (arith, full, room, bytes, limit)

    pub send_waits_again : (b : Caller) (y : SendArguments) → y.id ≡ x.id → outcome b (Send y) s ≡ None →
        outcome b (Send y) u ≡ None
    send_waits_again b y its_id =
        send_waits_on b x.id s u sent.q (without_message d.pid r gives.q) as_before y its_id
        (lacks_again (length y.body))

-- a receive that waits waits on where a message is given
module _ (c : Caller) (r : ReceiveArguments) (m : Message) (s t : State)
    (at : outcome c (Receive r) s ≡ Some (Received m, t)) where
  pub receive_waits_behind : (b : Caller) (y : ReceiveArguments) → y.id ≡ r.id → outcome b (Receive y) s ≡ None →
      outcome b (Receive y) t ≡ None
  receive_waits_behind b y on =
      let gave : Gives c r m s t = Effect-outcome c (Receive r) (Received m) s t at in
      receive_waits_on b r.id s t gave.q (without_message c.pid r gave.q)
      (became r.id s t gave.place gave.q (without_message c.pid r gave.q) gave.changes refl refl) y on
      (λ none. none_of_fewer y.mtype r.mtype gave.q.messages none)
