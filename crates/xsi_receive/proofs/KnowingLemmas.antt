-- What a Receive knows by what it was told.
use Rattle.xsi_receive.proofs.Names.{At, Bool, Caller, Contains, E2BIG, ENOMSG, Err, HasRoomFor, IsEntryOf, IsFiled, IsTold, KnowsAt, KnowsHead, KnowsSerial, List, Message, MessageEntry, MessageHead, None, Ok, Option, Queue, QueueEntry, Read, Receive, ReceiveArguments, Record, Result, Roomful, SelectsMessage, SelectsType, Some, State, TypeEntry, ap, arith, clamps, clash, false, find, find-Some, head_of, inl, inr, int_lt, ints, is_long, is_none, is_of_type, key_of_message, key_of_type, lacks_access, length, length-take, message_entry, message_stands, nat_abs, negsuc, outcome, permissions_in, pos, position_or_len, put_off, put_off_at, queue_entry, receive_found, receive_from, record_of, refl, refuse, selected, selects, short, slice_index, suc, sym, take, take_all, true, type_absent, type_entry, type_stands, typed, zero, ℕ, ℤ, ◌&&◌, ◌<ℤ◌, ◌<◌, ◌∙◌, ◌≡◌, ◌≤ℤ◌, ◌≤◌, ◌⊎◌}
use Rattle.queue_records.specs.declared.record.Record.TheVariants as records
use Rattle.type_chains.proofs.FirstOfType.{serials_of_its_type, taken_at}
use Rattle.xsi_receive.proofs.SelectingLemmas.{first_some, lowest_stands, none_of, selects_above, selects_below_in, selects_below_none, selects_below_out, stands_of, type_found}

above_zero : (t : ℤ) → (t ≤ℤ pos 0 → ⊥) → pos 0 <ℤ t
above_zero (pos zero) never = absurd (never (omega (arith, ints)))
above_zero (pos (suc n)) never = omega (arith, ints)
above_zero (negsuc n) never = absurd (never (omega (arith, ints)))

-- where no message is selected
pub put_off_known : (c : Caller) (a : ReceiveArguments) (room : Roomful) (s : State) (nowait : Bool) →
    outcome c (Receive a) s ≡ put_off nowait ENOMSG s → KnowsAt c a (put_off_at nowait) room s
put_off_known c a room s true is = is
put_off_known c a room s false is = is

-- ---- once the Queue is read

module _ (c : Caller) (a : ReceiveArguments) (e : QueueEntry) (s : State) (its : IsEntryOf a.id e s) where
  abbrev q : Queue
  q = its.queue

  pub may_read : lacks_access Read c (permissions_in e) ≡ false → lacks_access Read c q.permissions ≡ false
  may_read may = ap (λ (x : QueueEntry). lacks_access Read c (permissions_in x)) (sym its.entry) ∙ may

  -- the outcome is that of what is selected
  pub on_selected : lacks_access Read c q.permissions ≡ false →
      outcome c (Receive a) s ≡ receive_found (selected a.mtype q.messages) c a s q
  on_selected may = its.goes_on (receive_from c a s) ∙ rw may refl

  puts_off : lacks_access Read c q.permissions ≡ false → selected a.mtype q.messages ≡ None →
      outcome c (Receive a) s ≡ put_off a.nowait ENOMSG s
  puts_off may none = on_selected may ∙ ap (λ (o : Option Message). receive_found o c a s q) none

  module _ (room : Roomful) (filed : IsFiled s) (may_in : lacks_access Read c (permissions_in e) ≡ false) where
    may : lacks_access Read c q.permissions ≡ false
    may = may_read may_in

    waits : selected a.mtype q.messages ≡ None → KnowsAt c a (put_off_at a.nowait) room s
    waits none = put_off_known c a room s a.nowait (puts_off may none)

    pub knows_above : pos 0 <ℤ a.mtype → SelectsType c a e a.mtype s
    knows_above above = record {
      its = its;
      may_read = may;
      by_type = selects_above a.mtype q.messages above;
      typed = omega (arith, ints, above);
      stands = λ below. absurd (omega (arith, ints, above, below));
    }

    pub knows_none : a.mtype <ℤ pos 0 → e.lowest ≡ None → KnowsAt c a (put_off_at a.nowait) room s
    knows_none below none =
        let lowest = ap (λ (x : QueueEntry). x.lowest) (sym its.entry) ∙ none in
        waits (selects_below_none a.mtype q.messages below lowest)

    lowest_is : (u : ℤ) → e.lowest ≡ Some u → (queue_entry q).lowest ≡ Some u
    lowest_is u some = ap (λ (x : QueueEntry). x.lowest) (sym its.entry) ∙ some

    lowest_typed : (u : ℤ) → e.lowest ≡ Some u → pos 1 ≤ℤ u
    lowest_typed u some = typed s filed.lawful a.id q its.found u (lowest_stands q.messages u (lowest_is u some))

    pub knows_out : (u : ℤ) → a.mtype <ℤ pos 0 → e.lowest ≡ Some u → nat_abs a.mtype < nat_abs u →
        KnowsAt c a (put_off_at a.nowait) room s
    knows_out u below some more = waits
        (selects_below_out a.mtype u q.messages below (lowest_is u some) (lowest_typed u some) more)

    pub knows_below : (u : ℤ) → a.mtype <ℤ pos 0 → e.lowest ≡ Some u → nat_abs u ≤ nat_abs a.mtype →
        SelectsType c a e u s
    knows_below u below some within = record {
      its = its;
      may_read = may;
      by_type = selects_below_in a.mtype u q.messages below (lowest_is u some) (lowest_typed u some) within;
      typed = lowest_typed u some;
      stands = λ _. lowest_stands q.messages u (lowest_is u some);
    }

    pub knows_first : (serial : ℕ) → a.mtype ≡ pos 0 → e.first ≡ Some serial → KnowsSerial c a e None serial s
    knows_first serial zero_type some =
        let (m, is, same) = first_some q.messages serial (ap (λ (x : QueueEntry). x.first) (sym its.entry) ∙ some) in
        record {
          selects = record {
            its = its;
            may_read = may;
            message = m;
            is_selected = ap (λ (t : ℤ). selected t q.messages) zero_type ∙ is;
          };
          is_its = same;
          mtype = tt;
        }

-- whether a type above 0 has no Type
pub is_absent : (found : Option Record) (b : Bool) → (is_none found && b) ≡ true → found ≡ None
is_absent None b is = refl
is_absent (Some r) b is = absurd cc

pub not_absent : (found : Option Record) (t : ℤ) → (is_none found && int_lt (pos 0) t) ≡ false → found ≡ None →
    pos 0 <ℤ t → ⊥
not_absent None t is none above = absurd (grind (arith, ints, is, above))
not_absent (Some r) t is none above = absurd cc

-- ---- once more is read

module _ (c : Caller) (a : ReceiveArguments) (e : QueueEntry) (s : State) (filed : IsFiled s) where
  module _ (known : SelectsMessage c a e s) where
    abbrev taken_of : Queue
    taken_of = known.its.queue

    pub stands : Contains taken_of.messages known.message
    stands = (find-Some (selects a.mtype taken_of.messages) taken_of.messages known.message known.is_selected).1

    pub its_message : (serial : ℕ) → serial ≡ known.message.serial → (found : Option Record) →
        IsTold s (Some (At (key_of_message a.id serial))) found →
        found ≡ Some (records.Message (message_entry taken_of known.message))
    its_message serial same found told =
        told (key_of_message a.id serial) refl
        ∙ ap (λ (n : ℕ). record_of s (key_of_message a.id n)) same
        ∙ message_stands s filed.lawful a.id taken_of known.its.found known.message stands

    pub its_type : (mtype : ℤ) → mtype ≡ known.message.mtype → (found : Option Record) →
        IsTold s (Some (At (key_of_type a.id mtype))) found →
        found ≡ Some (records.Type (type_entry taken_of known.message.mtype))
    its_type mtype same found told =
        told (key_of_type a.id mtype) refl
        ∙ ap (λ (t : ℤ). record_of s (key_of_type a.id t)) same
        ∙ type_stands s filed.lawful a.id taken_of known.its.found known.message.mtype
        (stands_of taken_of.messages known.message stands)

    pub is_short : length known.message.bytes ≤ 1024
    is_short = short s filed.lawful a.id taken_of known.its.found known.message stands

    -- a Type names its first message
    pub first_is : (t : TypeEntry) → t ≡ type_entry taken_of known.message.mtype → t.first ≡ known.message.serial
    first_is t same =
        let i = position_or_len (selects a.mtype taken_of.messages) taken_of.messages in
        let taken = taken_at a.mtype taken_of.messages known.message known.is_selected in
        ap (λ (x : TypeEntry). x.first) same
        ∙ ap (λ (xs : List ℕ). slice_index xs 0) (serials_of_its_type taken_of.messages i known.message taken)

  module _ (mtype : ℤ) (known : SelectsType c a e mtype s) where
    abbrev queue : Queue
    queue = known.its.queue

    -- the Type tells which message is taken, or none is
    pub type_told : (found : Option Record) → IsTold s (Some (At (key_of_type a.id mtype))) found →
        ((selects_it : SelectsMessage c a e s)
        × (found ≡ Some (records.Type (type_entry selects_it.its.queue selects_it.message.mtype))))
        ⊎ ((found ≡ None) × (pos 0 <ℤ a.mtype) × (selected a.mtype queue.messages ≡ None))
    type_told found told = by (find (is_of_type mtype) queue.messages) refl
      where
        at : found ≡ record_of s (key_of_type a.id mtype)
        at = told (key_of_type a.id mtype) refl

        by : (o : Option Message) → find (is_of_type mtype) queue.messages ≡ o →
            ((selects_it : SelectsMessage c a e s)
            × (found ≡ Some (records.Type (type_entry selects_it.its.queue selects_it.message.mtype))))
            ⊎ ((found ≡ None) × (pos 0 <ℤ a.mtype) × (selected a.mtype queue.messages ≡ None))
        by None none =
            let absent = none_of queue.messages mtype none in
            inr (
              at ∙ type_absent s filed.lawful a.id queue known.its.found mtype known.typed absent,
              above_zero a.mtype (λ below. absent (known.stands below)),
              known.by_type ∙ none,
            )
        by (Some m) some =
            let its = type_found queue.messages mtype m some in
            let selects_it : SelectsMessage c a e s = record {
              its = known.its;
              may_read = known.may_read;
              message = m;
              is_selected = known.by_type ∙ some;
            } in
            inl (
              selects_it,
              at ∙ type_stands s filed.lawful a.id queue known.its.found mtype its.1
                  ∙ ap (λ (t : ℤ). Some (records.Type (type_entry queue t))) (sym its.0),
            )

    pub nothing_of_type : (room : Roomful) (found : Option Record) →
        IsTold s (Some (At (key_of_type a.id mtype))) found → found ≡ None →
        KnowsAt c a (put_off_at a.nowait) room s
    nothing_of_type room found told none = elim (type_told found told) [
      | inl (it, some) ↦
          let clash : ◌≡◌ {A = Option Record} None (Some (records.Type (type_entry it.its.queue it.message.mtype))) =
          sym none ∙ some in absurd cc
      | inr (absent, above, empty) ↦
          put_off_known c a room s a.nowait (on_selected c a e s known.its known.may_read
          ∙ ap (λ (o : Option Message). receive_found o c a s queue) empty)
    ]

-- ---- what is known once each record is told

module _ (c : Caller) (a : ReceiveArguments) (s : State) (filed : IsFiled s) (found : Option Record)
    (e : QueueEntry) where
  -- the Type that is sought
  pub type_is_found : (mtype : ℤ) → SelectsType c a e mtype s →
      IsTold s (Some (At (key_of_type a.id mtype))) found → (found ≡ None → pos 0 <ℤ a.mtype → ⊥) →
      {E : Type 0} → (result : Result TypeEntry E) →
      ((t : TypeEntry) → found ≡ Some (records.Type t) → result ≡ Ok t) → (err : E) → result ≡ Err err → ⊥
  type_is_found mtype known told some result takes err was = elim (type_told c a e s filed mtype known found told) [
    | inl (it, is) ↦ clash result _ (takes (type_entry it.its.queue it.message.mtype) is) err was
    | inr (none, above, empty) ↦ some none above
  ]

  pub type_is_taken : (mtype : ℤ) (t : TypeEntry) → SelectsType c a e mtype s →
      IsTold s (Some (At (key_of_type a.id mtype))) found → found ≡ Some (records.Type t) →
      KnowsSerial c a e (Some t) t.first s
  type_is_taken mtype t known told is = elim (type_told c a e s filed mtype known found told) [
    | inl (it, some) ↦
        let both = sym is ∙ some in
        let its : t ≡ type_entry it.its.queue it.message.mtype = cc in
        record { selects = it; is_its = first_is c a e s filed it t its; mtype = its }
    | inr (none, above, empty) ↦
        let both : ◌≡◌ {A = Option Record} (Some (records.Type t)) None = sym is ∙ none in absurd cc
  ]

  -- the Message that is taken
  module _ (entry : Option TypeEntry) (serial : ℕ) (known : KnowsSerial c a e entry serial s)
      (told : IsTold s (Some (At (key_of_message a.id serial))) found) where
    it : found ≡ Some (records.Message (message_entry known.selects.its.queue known.selects.message))
    it = its_message c a e s filed known.selects serial known.is_its found told

    pub message_is_found : {E : Type 0} → (result : Result MessageEntry E) →
        ((m : MessageEntry) → found ≡ Some (records.Message m) → result ≡ Ok m) → (err : E) → result ≡ Err err → ⊥
    message_is_found result takes err was =
        clash result _ (takes (message_entry known.selects.its.queue known.selects.message) it) err was

    pub message_is : (m : MessageEntry) → found ≡ Some (records.Message m) →
        m ≡ message_entry known.selects.its.queue known.selects.message
    message_is m is = let both = sym is ∙ it in cc

    pub too_long : (m : MessageEntry) → found ≡ Some (records.Message m) → is_long a m ≡ true →
        outcome c (Receive a) s ≡ refuse E2BIG s
    too_long m is long =
        let k = known.selects in
        let its_long = sym (ap (is_long a) (message_is m is)) ∙ long in
        on_selected c a e s k.its k.may_read
        ∙ ap (λ (o : Option Message). receive_found o c a s k.its.queue) k.is_selected
        ∙ rw its_long refl

    -- as many of its bytes as are asked for have room
    bytes_fit : (room : Roomful) → HasRoomFor a room → (bytes : List ℕ) → length bytes ≤ 1024 →
        take room.most (take a.size bytes) ≡ take a.size bytes
    bytes_fit room has bytes few =
        let long = length-take a.size bytes in
        take_all room.most (take a.size bytes) (grind (arith, clamps, long, few, has))

    pub message_is_taken : (m : MessageEntry) → found ≡ Some (records.Message m) → is_long a m ≡ false →
        (room : Roomful) → HasRoomFor a room →
        KnowsHead c a e (head_of m) entry (record room { bytes = take room.most (take a.size m.body) }) s
    message_is_taken m is fits room has =
        let k = known.selects in
        let same = message_is m is in
        record {
          selects = k;
          entry = ap head_of same;
          mtype = known.mtype;
          fits = sym (ap (is_long a) same) ∙ fits;
          bytes = ap (λ (x : MessageEntry). take room.most (take a.size x.body)) same
              ∙ bytes_fit room has k.message.bytes (is_short c a e s filed k);
        }

  -- its Type, where it is the last of it
  module _ (m : MessageHead) (room : Roomful) (known : KnowsHead c a e m None room s)
      (told : IsTold s (Some (At (key_of_type a.id m.mtype))) found) where
    its : found ≡ Some (records.Type (type_entry known.selects.its.queue known.selects.message.mtype))
    its = its_type c a e s filed known.selects m.mtype (ap (λ (h : MessageHead). h.mtype) known.entry) found told

    pub last_type_is_found : {E : Type 0} → (result : Result TypeEntry E) →
        ((t : TypeEntry) → found ≡ Some (records.Type t) → result ≡ Ok t) → (err : E) → result ≡ Err err → ⊥
    last_type_is_found result takes err was =
        clash result _ (takes (type_entry known.selects.its.queue known.selects.message.mtype) its) err was

    pub last_type_is_taken : (t : TypeEntry) → found ≡ Some (records.Type t) → KnowsHead c a e m (Some t) room s
    last_type_is_taken t is =
        let both = sym is ∙ its in
        record { selects = known.selects; entry = known.entry; mtype = cc; fits = known.fits; bytes = known.bytes }
