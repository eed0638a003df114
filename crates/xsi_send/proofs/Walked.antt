-- What a Send knows on its way up the types, and that its numbers stay numbers.
use Rattle.xsi_send.proofs.Names.{All, All-cons, All-contains, All-nil, All-push, All-types, All-weaker, AllPairs, At, Caller, Contains, Contains-append_right, END_OF_SERIALS, FitsSigned, HasFittingMessage, HasFittingQueue, IsBetween, IsFiled, IsOpen, IsTold, IsWalked, MAX_MESSAGES, Message, None, Option, Queue, QueueEntry, Record, SendArguments, Some, State, Walk, [], ap, append-nil, append_assoc, arith, behind, contains_tail, false, first_of, ints, is_same_type, key_of_type, lawful_queue, length, length-append, nat_le, nat_lt, none_of_type, record_of, refl, stands, subst, sym, takes_more, total_bytes, true, type_entry, type_stands, types, types_ascend, w64, ℕ, ℤ, ◌++◌, ◌+◌, ◌<ℤ◌, ◌<◌, ◌^◌, ◌∙◌, ◌∷◌, ◌≡◌, ◌≢◌, ◌≤◌}
use Rattle.queue_records.specs.declared.record.Record.TheVariants as records
use Rattle.type_chains.proofs.Beside.{contains_at, no_first, split_first, in_first, last_push}
use Rattle.type_chains.proofs.Sorted.{pairs_back}
use Rattle.type_chains.proofs.TypesWith.{higher_is}
use Rattle.type_chains.proofs.FewTypes.{few_types}

module _ (c : Caller) (a : SendArguments) (e : QueueEntry) (s : State) (filed : IsFiled s) (known : IsOpen c a e s)
  where
    abbrev q : Queue
    q = known.queue

    its_stands : Contains s.queues q
    its_stands = stands s filed.lawful a.id q known.found

    lowest_is : (lowest : Option ℤ) → e.lowest ≡ lowest → first_of (types q.messages) ≡ lowest
    lowest_is lowest is = sym (ap (λ (x : QueueEntry). x.lowest) known.entry) ∙ is

    -- the walk begins at the lowest type
    pub walk_begins : (lowest : ℤ) → e.lowest ≡ Some lowest → record_of s (key_of_type a.id a.mtype) ≡ None →
        IsWalked a.mtype (record { queue = e; lower = None; next = lowest; left = MAX_MESSAGES }) known.queue
    walk_begins lowest is none =
        let (rest, whole) = split_first (types q.messages) lowest (lowest_is (Some lowest) is) in
        record {
          walked = [];
          rest = rest;
          split = whole;
          less = All-nil (λ (t : ℤ). t <ℤ a.mtype);
          absent = none_of_type s filed.lawful a.id q known.found a.mtype none;
          lower = refl;
          count = refl;
        }

    -- where there is no type, it goes between none
    pub nothing_between : e.lowest ≡ None → IsBetween a.mtype None None known.queue
    nothing_between is = record {
      below = [];
      above = [];
      split = no_first (types q.messages) (lowest_is None is);
      less = All-nil (λ (t : ℤ). t <ℤ a.mtype);
      more = All-nil (λ (t : ℤ). a.mtype <ℤ t);
      lower = refl;
      higher = refl;
    }

    -- types of a system whose numbers fit do
    type_fits : (u : ℤ) → Contains (types known.queue.messages) u → FitsSigned w64 u
    type_fits u there =
        let fitting = All-contains HasFittingQueue s.queues q filed.fits its_stands in
        All-contains (FitsSigned w64) (types q.messages) u (All-types (FitsSigned w64) [] q.messages
        (All-nil (FitsSigned w64)) (All-weaker HasFittingMessage (λ (m : Message). FitsSigned w64 m.mtype) (λ m f.
        f.mtype)
        q.messages fitting.messages)) there

    pub lowest_fits : (lowest : ℤ) → e.lowest ≡ Some lowest → FitsSigned w64 lowest
    lowest_fits lowest is = type_fits lowest (in_first (types q.messages) lowest (lowest_is (Some lowest) is))

    -- ---- on the way up

    module _ (w : Walk) (walked : IsWalked a.mtype w known.queue) where
      -- the type that is read next stands
      next_there : Contains (types known.queue.messages) w.next
      next_there = subst (λ ts. Contains ts w.next) (sym walked.split) (contains_at walked.walked walked.rest w.next)

      pub next_fits : FitsSigned w64 w.next
      next_fits = type_fits w.next next_there

      pub next_told : (found : Option Record) → IsTold s (Some (At (key_of_type a.id w.next))) found →
          found ≡ Some (records.Type (type_entry known.queue w.next))
      next_told found told = told (key_of_type a.id w.next) refl
          ∙ type_stands s filed.lawful a.id q known.found w.next next_there

      ascend : AllPairs (λ (a b : ℤ). a <ℤ b) (walked.walked ++ w.next ∷ walked.rest)
      ascend = subst (λ ts. AllPairs (λ (a b : ℤ). a <ℤ b) ts) walked.split (types_ascend q.messages)

      above : All (λ (t : ℤ). w.next <ℤ t) walked.rest
      above = pairs_back (λ (a b : ℤ). a <ℤ b) walked.walked walked.rest w.next ascend

      higher_first : (higher : Option ℤ) → (type_entry known.queue w.next).higher ≡ higher →
          first_of walked.rest ≡ higher
      higher_first higher is = sym (ap (behind (is_same_type w.next)) walked.split
          ∙ higher_is walked.walked walked.rest w.next ascend) ∙ is

      -- it is another than the message's
      pub next_apart : w.next ≢ a.mtype
      next_apart = All-contains (λ (t : ℤ). t ≢ a.mtype) (types q.messages) w.next walked.absent next_there

      -- more may be read while one stands
      pub walk_has_left : w.left ≡ 0 → ⊥
      walk_has_left none =
          let few = few_types known.queue.messages in
          let many = (lawful_queue s filed.lawful q its_stands).few_messages in
          let whole = ap length walked.split ∙ length-append walked.walked (w.next ∷ walked.rest) in
          let count = walked.count in
          omega (arith, few, many, whole, count, none)

      -- it ends at a type that is greater
      pub walk_ends_above : a.mtype <ℤ w.next → IsBetween a.mtype w.lower (Some w.next) known.queue
      walk_ends_above more = record {
        below = walked.walked;
        above = w.next ∷ walked.rest;
        split = walked.split;
        less = walked.less;
        more = All-cons (λ (t : ℤ). a.mtype <ℤ t) w.next walked.rest more
            (All-weaker (λ (t : ℤ). w.next <ℤ t) (λ (t : ℤ). a.mtype <ℤ t) (λ t h. omega (arith, ints, more, h))
            walked.rest above);
        lower = walked.lower;
        higher = refl;
      }

      -- or behind the highest
      pub walk_ends_behind : w.next <ℤ a.mtype → (type_entry known.queue w.next).higher ≡ None →
          IsBetween a.mtype (Some w.next) None known.queue
      walk_ends_behind less is = record {
        below = walked.walked ++ w.next ∷ [];
        above = [];
        split = walked.split ∙ ap (λ ts. walked.walked ++ w.next ∷ ts) (no_first walked.rest (higher_first None is))
            ∙ sym (append-nil (walked.walked ++ w.next ∷ []));
        less = All-push (λ (t : ℤ). t <ℤ a.mtype) walked.walked w.next walked.less less;
        more = All-nil (λ (t : ℤ). a.mtype <ℤ t);
        lower = sym (last_push walked.walked w.next);
        higher = refl;
      }

      module _ (higher : ℤ) (is : (type_entry known.queue w.next).higher ≡ Some higher) where
        higher_there : Contains walked.rest higher
        higher_there = in_first walked.rest higher (higher_first (Some higher) is)

        -- and further up each time
        pub walk_ascends : w.next <ℤ higher
        walk_ascends = All-contains (λ (t : ℤ). w.next <ℤ t) walked.rest higher above higher_there

        pub higher_fits : FitsSigned w64 higher
        higher_fits = type_fits higher (subst (λ ts. Contains ts higher) (sym walked.split)
            (Contains-append_right walked.walked (w.next ∷ walked.rest) higher
            (contains_tail w.next higher walked.rest higher_there)))

        -- the walk goes on
        pub walk_goes_on : (fewer : ℕ) → fewer + 1 ≡ w.left → w.next <ℤ a.mtype →
            IsWalked a.mtype (record { queue = e; lower = Some w.next; next = higher; left = fewer }) known.queue
        walk_goes_on fewer one less =
            let (rest, whole) = split_first walked.rest higher (higher_first (Some higher) is) in
            record {
              walked = walked.walked ++ w.next ∷ [];
              rest = rest;
              split = walked.split ∙ ap (λ ts. walked.walked ++ w.next ∷ ts) whole
                  ∙ sym (append_assoc walked.walked (w.next ∷ []) (higher ∷ rest));
              less = All-push (λ (t : ℤ). t <ℤ a.mtype) walked.walked w.next walked.less less;
              absent = walked.absent;
              lower = sym (last_push walked.walked w.next);
              count = let longer = length-append walked.walked (w.next ∷ []) in
                  let before = walked.count in
                  omega (arith, longer, before, one);
            }

    -- the Queue's counts stay numbers
    pub numbers_fit : (e.cbytes + length a.body < 2 ^ 32) × (e.qnum + 1 < 2 ^ 32) × (e.next_serial + 1 < 2 ^ 64)
    numbers_fit = subst (λ (x : QueueEntry). (x.cbytes + length a.body < 2 ^ 32) × (x.qnum + 1 < 2 ^ 32)
        × (x.next_serial + 1 < 2 ^ 64)) (sym known.entry) of_queue
      where
        of_queue : (total_bytes known.queue.messages + length a.body < 2 ^ 32) × (length known.queue.messages + 1 < 2 ^
            32)
            × (known.queue.next_serial + 1 < 2 ^ 64)
        of_queue =
            let lawful = lawful_queue s filed.lawful q its_stands in
            let room = known.room in
            let bytes : nat_lt q.qbytes (total_bytes q.messages + length a.body) ≡ false = grind (arith, room) in
            let more : q.next_serial ≢ END_OF_SERIALS = λ last. grind (arith, room, last) in
            let within : total_bytes q.messages + length a.body ≤ q.qbytes = grind (arith, bytes) in (
              omega (arith, within, lawful.small_limit),
              omega (arith, lawful.few_messages),
              omega (arith, more, lawful.serials_end),
            )

    -- so they can be written
    pub more_taken : takes_more (length a.body) e ≡ true
    more_taken =
        let (bytes, number, serial) = numbers_fit in
        let first : nat_le (e.cbytes + length a.body) 4294967295 ≡ true = grind (arith, bytes) in
        let second : nat_lt e.qnum 4294967295 ≡ true = grind (arith, number) in
        let third : nat_lt e.next_serial 18446744073709551615 ≡ true = grind (arith, serial) in
        rw (first, second, third) refl
