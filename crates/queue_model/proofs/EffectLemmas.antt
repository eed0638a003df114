-- What a call that was answered did to the system.
use Rattle.std.proofs.Common.{◌≡◌, ℕ, ◌+◌, Bool, true, false, [], ◌∷◌, ◌++◌, length, Option, Some, None, pos, ◌⊎◌, inl, inr, arith, refl, sym, ap, ◌∙◌}
use Rattle.std.specs.Prelude.{if◌then◌else◌, nat_lt, nat_le, int_lt, ◌==◌, ◌||◌, ◌&&◌, ◌≢◌, position, slice_set, slice_index_or, not}
use Rattle.std.specs.List.{find, remove}
use Rattle.std.proofs.lemmas.List.{get_or_default}
use Rattle.queue_model.proofs.Words.{Answer, Id, Sent, Received, Info, Done, Refused, Call, Get, Send, Receive, Stat, Set, Remove, GetArguments, ReceiveArguments, SendArguments, SetArguments, Caller, Errno, Message, Queue, State}
use Rattle.queue_model.specs.declared.errno.Errno.TheVariants.{EAGAIN, EEXIST, EIDRM, EINTR, EINVAL, ENOENT, ENOMSG, ENOSPC, EACCES, EPERM, E2BIG}
use Rattle.numbers.specs.declared.limits.TheConstants.{MAX_QUEUES, MAX_BODY, MAX_QBYTES, END_OF_IDS}
use Rattle.queue_model.specs.declared.permissions.Access.TheVariants.{Read, Write}
use Rattle.queue_model.specs.Access.{lacks_access, is_owner}
use Rattle.queue_model.specs.Places.{IsPlaceOf, IsFreshKey}
use Rattle.queue_model.specs.Rules.{Outcome, outcome, refuse, put_off, on_queue, on_found, has_id, has_key, with_queue, without_queue, new_queue, create, get_found, get_by, lacks_room, with_message, send_to, cut_at, without_message, receive_found, receive_from, stat_of, info_of, raises, with_settings, set_to, remove_from}
use Rattle.queue_model.specs.Selection.{selected, is_too_long}
use Rattle.queue_model.proofs.PlaceLemmas.{IsPlaceOf-position, IsNoId-position}

-- a queue of the system, and where it stands
pub record Stands (id : ℕ) (s : State) (place : ℕ) (q : Queue) : Type 0 where
  pub place_of : IsPlaceOf id s place
  pub is_it : (d : Queue) → slice_index_or s.queues place d ≡ q

-- the queue of an id became another
pub record Changes (id : ℕ) (s : State) (place : ℕ) (q new : Queue) (t : State) : Type 0 where
  pub stands : Stands id s place q
  pub after : t ≡ record s { queues = slice_set s.queues place new }

pub record Makes (c : Caller) (a : GetArguments) (s t : State) : Type 0 where
  pub few : length s.queues ≢ MAX_QUEUES
  pub more : s.next_id ≢ END_OF_IDS
  pub fresh : IsFreshKey a.key s
  pub after : t ≡ record s { queues = s.queues ++ new_queue s.next_id c a ∷ []; next_id = s.next_id + 1 }

pub record Accepts (c : Caller) (a : SendArguments) (s t : State) : Type 0 where
  pub place : ℕ
  pub q : Queue
  pub typed : int_lt a.mtype (pos 1) ≡ false
  pub short : nat_lt MAX_BODY (length a.body) ≡ false
  pub room : lacks_room (length a.body) q ≡ false
  pub changes : Changes a.id s place q (with_message c.pid a q) t

pub record Gives (c : Caller) (a : ReceiveArguments) (given : Message) (s t : State) : Type 0 where
  pub place : ℕ
  pub q : Queue
  pub m : Message
  pub selects : selected a.mtype q.messages ≡ Some m
  pub cut : given ≡ cut_at a.size m
  pub changes : Changes a.id s place q (without_message c.pid a q) t

pub record Sets (a : SetArguments) (s t : State) : Type 0 where
  pub place : ℕ
  pub q : Queue
  pub small : nat_lt MAX_QBYTES a.qbytes ≡ false
  pub changes : Changes a.id s place q (with_settings a q) t

pub record Removes (id : ℕ) (s t : State) : Type 0 where
  pub place : ℕ
  pub q : Queue
  pub stands : Stands id s place q
  pub after : t ≡ record s { queues = remove s.queues place }

-- what an answered call did
abbrev pub Effect : Caller → Call → Answer → State → State → Type 0
Effect c (Get a) answer s t = (t ≡ s) ⊎ Makes c a s t
Effect c (Send a) (Sent serial) s t = Accepts c a s t
Effect c (Send a) answer s t = t ≡ s
Effect c (Receive a) (Received m) s t = Gives c a m s t
Effect c (Receive a) answer s t = t ≡ s
Effect c (Stat id) answer s t = t ≡ s
Effect c (Set a) answer s t = (t ≡ s) ⊎ Sets a s t
Effect c (Remove id) Done s t = Removes id s t
Effect c (Remove id) answer s t = t ≡ s

-- the two parts of what an outcome gives
parts : (a b : Answer) (s t : State) → ◌≡◌ {A = Outcome} (Some (a, s)) (Some (b, t)) → (b ≡ a) × (t ≡ s)
parts a b s t e = (ap answer_in (sym e), ap state_in (sym e))
  where
    answer_in : Outcome → Answer
    answer_in None = a
    answer_in (Some o) = o.0

    state_in : Outcome → State
    state_in None = s
    state_in (Some o) = o.1

-- a test was true or false
by_test : (b : Bool) (x y o : Outcome) → (if b then x else y) ≡ o → ((b ≡ true) × (x ≡ o)) ⊎ ((b ≡ false) × (y ≡ o))
by_test true x y o e = inl (refl, e)
by_test false x y o e = inr (refl, e)

-- a call that was put off and answered is refused
refused_put_off : (nowait : Bool) (e : Errno) (s : State) (a : Answer) (t : State) → put_off nowait e s ≡ Some (a, t) →
    (f : Errno) × (refuse f s ≡ Some (a, t))
refused_put_off true e s a t at = (e, at)
refused_put_off false e s a t at = elim (by_test s.stopped (refuse EINTR s) None (Some (a, t)) at) [
  | inl (_, refused) ↦ (EINTR, refused)
  | inr (_, waits) ↦ absurd cc
]

-- a call on a queue was refused, or went on at the queue's place
on_queue_cases : (id : ℕ) (s : State) (act : Queue → Outcome) (o : Outcome) → on_queue id s act ≡ o →
    ((e : Errno) × (refuse e s ≡ o)) ⊎ ((place : ℕ) × (q : Queue) × Stands id s place q × (act q ≡ o))
on_queue_cases id s act o at = elim (by_test (id == 0 || nat_le s.next_id id) (refuse EINVAL s)
    (on_found (find (has_id id) s.queues) s act) o at) [
      | inl (_, refused) ↦ inl (EINVAL, refused)
      | inr (given, found) ↦ at_place given (position (has_id id) s.queues) refl
    ]
  where
    at_place : (id == 0 || nat_le s.next_id id) ≡ false → (p : Option ℕ) → position (has_id id) s.queues ≡ p →
        ((e : Errno) × (refuse e s ≡ o)) ⊎ ((place : ℕ) × (q : Queue) × Stands id s place q × (act q ≡ o))
    at_place given None none = inl (EIDRM, sym (IsNoId-position id s given none act) ∙ at)
    at_place given (Some i) is =
        let stands = IsPlaceOf-position id s given i is in
        let no_queue : Queue = new_queue 0 (record { pid = 0; uid = 0; gid = 0 })
        (record { key = None; create = false; excl = false; mode = 0; moment = 0 }) in
        let q = slice_index_or s.queues i no_queue in
        inr (
          i,
          q,
          record { place_of = stands; is_it = λ d. get_or_default s.queues i d no_queue stands.within },
          sym
              (stands.goes_on act no_queue) ∙ at,
        )

-- a refusal leaves the system
Effect-refuse : (c : Caller) (call : Call) (e : Errno) (a : Answer) (s t : State) → refuse e s ≡ Some (a, t) →
    Effect c call a s t
Effect-refuse c (Get x) e a s t at = inl (parts (Refused e) a s t at).1
Effect-refuse c (Send x) e a s t at = let p = parts (Refused e) a s t at in rw p.0 p.1
Effect-refuse c (Receive x) e a s t at = let p = parts (Refused e) a s t at in rw p.0 p.1
Effect-refuse c (Stat id) e a s t at = (parts (Refused e) a s t at).1
Effect-refuse c (Set x) e a s t at = inl (parts (Refused e) a s t at).1
Effect-refuse c (Remove id) e a s t at = let p = parts (Refused e) a s t at in rw p.0 p.1

-- a new queue is made where there is a place and an id for it
Effect-create : (c : Caller) (x : GetArguments) (a : Answer) (s t : State) → IsFreshKey x.key s →
    create c x s ≡ Some (a, t) → Effect c (Get x) a s t
Effect-create c x a s t fresh at =
    elim (by_test (length s.queues == MAX_QUEUES || s.next_id == END_OF_IDS) (refuse ENOSPC s) _ (Some (a, t)) at) [
      | inl (_, refused) ↦ Effect-refuse c (Get x) ENOSPC a s t refused
      | inr (place, made) ↦
          let few : length s.queues ≢ MAX_QUEUES = λ full. grind (arith, place, full) in
          let more : s.next_id ≢ END_OF_IDS = λ last. grind (arith, place, last) in
          inr (record { few = few; more = more; fresh = fresh; after = (parts _ a _ t made).1 })
    ]

Effect-get : (c : Caller) (x : GetArguments) (a : Answer) (s t : State) (k : Option ℕ) → x.key ≡ k →
    get_by k c x s ≡ Some (a, t) → Effect c (Get x) a s t
Effect-get c x a s t None is at = Effect-create c x a s t (λ k now. let clash : ◌≡◌ {A = Option ℕ} None
    (Some k) = sym is ∙ now in absurd cc) at
Effect-get c x a s t (Some key) is at = by_queue (find (has_key key) s.queues) refl at
  where
    by_queue : (o : Option Queue) → find (has_key key) s.queues ≡ o → get_found o c x s ≡ Some (a, t) →
        Effect c (Get x) a s t
    by_queue (Some q) found at = elim (by_test (x.create && x.excl) (refuse EEXIST s) (Some (Id q.id, s))
        (Some (a, t)) at) [
          | inl (_, refused) ↦ Effect-refuse c (Get x) EEXIST a s t refused
          | inr (_, told) ↦ inl (parts (Id q.id) a s t told).1
        ]
    by_queue None found at = elim (by_test x.create (create c x s) (refuse ENOENT s) (Some (a, t)) at) [
      | inl (_, made) ↦ Effect-create c x a s t (λ k now. let both : ◌≡◌ {A = Option ℕ} (Some key)
          (Some k) = sym is ∙ now in let same : key ≡ k = cc in rw (← same) found) made
      | inr (_, refused) ↦ Effect-refuse c (Get x) ENOENT a s t refused
    ]

Effect-send : (c : Caller) (x : SendArguments) (a : Answer) (s t : State) → outcome c (Send x) s ≡ Some (a, t) →
    Effect c (Send x) a s t
Effect-send c x a s t at =
    elim (by_test (int_lt x.mtype (pos 1) || nat_lt MAX_BODY (length x.body)) (refuse EINVAL s)
    (on_queue x.id s (send_to c x s)) (Some (a, t)) at) [
      | inl (_, refused) ↦ Effect-refuse c (Send x) EINVAL a s t refused
      | inr (valid, goes_on) ↦ elim (on_queue_cases x.id s (send_to c x s) (Some (a, t)) goes_on) [
        | inl (e, refused) ↦ Effect-refuse c (Send x) e a s t refused
        | inr (place, q, stands, sent) ↦ at_queue valid place q stands sent
      ]
    ]
  where
    accepted : (int_lt x.mtype (pos 1) || nat_lt MAX_BODY (length x.body)) ≡ false → (place : ℕ) (q : Queue) →
        Stands x.id s place q →
        lacks_room (length x.body) q ≡ false →
        ◌≡◌ {A = Outcome} (Some (Sent q.next_serial, with_queue x.id (with_message c.pid x q) s)) (Some (a, t)) →
        Effect c (Send x) a s t
    accepted valid place q stands room sent =
        let p = parts (Sent q.next_serial) a _ t sent in
        let typed : int_lt x.mtype (pos 1) ≡ false = grind (arith, valid) in
        let short : nat_lt MAX_BODY (length x.body) ≡ false = grind (arith, valid) in
        let after : t ≡ record s { queues = slice_set s.queues place (with_message c.pid x q) } =
        p.1 ∙ ap (λ (i : ℕ). record s {
          queues = slice_set s.queues i
              (with_message c.pid x q);
        }) stands.place_of.first in
        let accepts : Accepts c x s t = record {
          place = place;
          q = q;
          typed = typed;
          short = short;
          room = room;
          changes = record { stands = stands; after = after };
        } in
        rw p.0 accepts

    at_queue : (int_lt x.mtype (pos 1) || nat_lt MAX_BODY (length x.body)) ≡ false → (place : ℕ) (q : Queue) →
        Stands x.id s place q →
        send_to c x s q ≡ Some (a, t) → Effect c (Send x) a s t
    at_queue valid place q stands sent =
        elim (by_test (lacks_access Write c q.permissions) (refuse EACCES s) _ (Some (a, t)) sent) [
          | inl (_, refused) ↦ Effect-refuse c (Send x) EACCES a s t refused
          | inr (_, more) ↦ elim (by_test (lacks_room (length x.body) q)
              (put_off x.nowait EAGAIN s) _ (Some (a, t)) more) [
                | inl (_, put) ↦
                    let r = refused_put_off x.nowait EAGAIN s a t put in Effect-refuse c (Send x) r.0 a s t r.1
                | inr (room, done) ↦ accepted valid place q stands room done
              ]
        ]

Effect-receive : (c : Caller) (x : ReceiveArguments) (a : Answer) (s t : State) →
    outcome c (Receive x) s ≡ Some (a, t) → Effect c (Receive x) a s t
Effect-receive c x a s t at = elim (on_queue_cases x.id s (receive_from c x s) (Some (a, t)) at) [
  | inl (e, refused) ↦ Effect-refuse c (Receive x) e a s t refused
  | inr (place, q, stands, more) ↦ elim (by_test (lacks_access Read c q.permissions) (refuse EACCES s)
      (receive_found (selected x.mtype q.messages) c x s q) (Some (a, t)) more) [
        | inl (_, refused) ↦ Effect-refuse c (Receive x) EACCES a s t refused
        | inr (_, found) ↦ by_message place q stands (selected x.mtype q.messages) refl found
      ]
]
  where
    gives : (place : ℕ) (q : Queue) → Stands x.id s place q → (m : Message) → selected x.mtype q.messages ≡ Some m →
        ◌≡◌ {A = Outcome} (Some (Received (cut_at x.size m), with_queue x.id (without_message c.pid x q) s))
        (Some (a, t)) → Effect c (Receive x) a s t
    gives place q stands m is given =
        let p = parts (Received (cut_at x.size m)) a _ t given in
        let after : t ≡ record s { queues = slice_set s.queues place (without_message c.pid x q) } =
        p.1 ∙ ap (λ (i : ℕ). record s {
          queues = slice_set s.queues i
              (without_message c.pid x q);
        }) stands.place_of.first in
        let gave : Gives c x (cut_at x.size m) s t = record {
          place = place;
          q = q;
          m = m;
          selects = is;
          cut = refl;
          changes = record { stands = stands; after = after };
        } in
        rw p.0 gave

    by_message : (place : ℕ) (q : Queue) → Stands x.id s place q → (m : Option Message) →
        selected x.mtype q.messages ≡ m →
        receive_found m c x s q ≡ Some (a, t) → Effect c (Receive x) a s t
    by_message place q stands None is put = let r = refused_put_off x.nowait ENOMSG s a t put in
        Effect-refuse c (Receive x) r.0 a s t r.1
    by_message place q stands (Some m) is given = elim (by_test (is_too_long x m)
        (refuse E2BIG s) _ (Some (a, t)) given) [
          | inl (_, refused) ↦ Effect-refuse c (Receive x) E2BIG a s t refused
          | inr (_, done) ↦ gives place q stands m is done
        ]

Effect-stat : (c : Caller) (id : ℕ) (a : Answer) (s t : State) → outcome c (Stat id) s ≡ Some (a, t) →
    Effect c (Stat id) a s t
Effect-stat c id a s t at = elim (on_queue_cases id s (stat_of c s) (Some (a, t)) at) [
  | inl (e, refused) ↦ Effect-refuse c (Stat id) e a s t refused
  | inr (place, q, stands, more) ↦ elim (by_test (lacks_access Read c q.permissions) (refuse EACCES s)
      (Some (Info (info_of q), s)) (Some (a, t)) more) [
        | inl (_, refused) ↦ Effect-refuse c (Stat id) EACCES a s t refused
        | inr (_, told) ↦ (parts (Info (info_of q)) a s t told).1
      ]
]

Effect-set : (c : Caller) (x : SetArguments) (a : Answer) (s t : State) → outcome c (Set x) s ≡ Some (a, t) →
    Effect c (Set x) a s t
Effect-set c x a s t at =
    elim (by_test (nat_lt MAX_QBYTES x.qbytes) (refuse EINVAL s) (on_queue x.id s (set_to c x s)) (Some (a, t)) at) [
      | inl (_, refused) ↦ Effect-refuse c (Set x) EINVAL a s t refused
      | inr (small, goes_on) ↦ elim (on_queue_cases x.id s (set_to c x s) (Some (a, t)) goes_on) [
        | inl (e, refused) ↦ Effect-refuse c (Set x) e a s t refused
        | inr (place, q, stands, more) ↦ at_queue small place q stands more
      ]
    ]
  where
    at_queue : nat_lt MAX_QBYTES x.qbytes ≡ false → (place : ℕ) (q : Queue) → Stands x.id s place q →
        set_to c x s q ≡ Some (a, t) → Effect c (Set x) a s t
    at_queue small place q stands more = elim (by_test (not (is_owner c q.permissions))
        (refuse EPERM s) _ (Some (a, t)) more) [
          | inl (_, refused) ↦ Effect-refuse c (Set x) EPERM a s t refused
          | inr (_, owned) ↦ elim (by_test (raises c x.qbytes q) (refuse EPERM s)
              (Some (Done, with_queue x.id (with_settings x q) s)) (Some (a, t)) owned) [
                | inl (_, refused) ↦ Effect-refuse c (Set x) EPERM a s t refused
                | inr (_, done) ↦
                    let after : t ≡ record s { queues = slice_set s.queues place (with_settings x q) } =
                    (parts Done a _ t done).1 ∙ ap (λ (i : ℕ). record s {
                      queues = slice_set s.queues i
                          (with_settings x q);
                    }) stands.place_of.first in
                    inr (record {
                      place = place;
                      q = q;
                      small = small;
                      changes = record { stands = stands; after = after };
                    })
              ]
        ]

Effect-remove : (c : Caller) (id : ℕ) (a : Answer) (s t : State) → outcome c (Remove id) s ≡ Some (a, t) →
    Effect c (Remove id) a s t
Effect-remove c id a s t at = elim (on_queue_cases id s (remove_from c id s) (Some (a, t)) at) [
  | inl (e, refused) ↦ Effect-refuse c (Remove id) e a s t refused
  | inr (place, q, stands, more) ↦ elim (by_test (not (is_owner c q.permissions)) (refuse EPERM s)
      (Some (Done, without_queue id s)) (Some (a, t)) more) [
        | inl (_, refused) ↦ Effect-refuse c (Remove id) EPERM a s t refused
        | inr (_, done) ↦
            let p = parts Done a _ t done in
            let removes : Removes id s t = record {
              place = place;
              q = q;
              stands = stands;
              after = p.1 ∙ ap (λ (i : ℕ). record s { queues = remove s.queues i }) stands.place_of.first;
            } in
            rw p.0 removes
      ]
]

-- what an answered call did
pub Effect-outcome : (c : Caller) (call : Call) (a : Answer) (s t : State) → outcome c call s ≡ Some (a, t) →
    Effect c call a s t
Effect-outcome c (Get x) a s t at = Effect-get c x a s t x.key refl at
Effect-outcome c (Send x) a s t at = Effect-send c x a s t at
Effect-outcome c (Receive x) a s t at = Effect-receive c x a s t at
Effect-outcome c (Stat id) a s t at = Effect-stat c id a s t at
Effect-outcome c (Set x) a s t at = Effect-set c x a s t at
Effect-outcome c (Remove id) a s t at = Effect-remove c id a s t at
