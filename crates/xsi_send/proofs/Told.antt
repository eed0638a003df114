-- What the records at the keys that a Send asks for tell of its queue.
use Rattle.xsi_send.proofs.Names.{All-contains, All-contains_itself, All-filter, At, Bool, Caller, Contains, FitsSigned, IsFiled, IsOpen, IsTold, List, Message, None, Option, Queue, QueueEntry, Record, SendArguments, Some, State, TypeEntry, ap, arith, filter, int_lt, ints, is_of_type, key_of_type, last_of, length, mapped, of_z, pos, refl, same_Some, serials, serials_of_type, slice_get-get_or, slice_index, stands, sym, to_z, to_z-of_z, type_entry, type_found, types, types_stand, w64, ℕ, ℤ, ◌-◌, ◌∙◌, ◌≡◌, ◌≤ℤ◌, ◌≤◌}
use Rattle.queue_records.specs.declared.record.Record.TheVariants as records
use Rattle.type_chains.proofs.Beside.{last-map}

-- a list of messages whose serials end so ends in the message of that serial
pub last_with : (ms : List Message) (serial : ℕ) → last_of (serials ms) ≡ Some serial →
    (m : Message) × (last_of ms ≡ Some m) × (m.serial ≡ serial)
last_with ms serial last =
    mapped (λ (m : Message). m.serial) (last_of ms) serial (sym (last-map (λ (m : Message). m.serial) ms) ∙ last)

-- what a filter keeps stands on the list
pub of_filter : {X : Type 0} (p : X → Bool) (xs : List X) (x : X) → Contains (filter p xs) x → Contains xs x
of_filter p xs x there = All-contains (Contains xs) (filter p xs) x
    (All-filter p (Contains xs) xs (All-contains_itself xs)) there

-- types that are told to be one, or one less than the other
pub same_of_z : (t u : ℤ) → FitsSigned w64 t → FitsSigned w64 u → of_z w64 t ≡ of_z w64 u → t ≡ u
same_of_z t u first second same = sym (to_z-of_z w64 t first) ∙ ap (to_z w64) same ∙ to_z-of_z w64 u second

pub less_of_z : (t u : ℤ) (b : Bool) → FitsSigned w64 t → FitsSigned w64 u →
    int_lt (to_z w64 (of_z w64 t)) (to_z w64 (of_z w64 u)) ≡ b → int_lt t u ≡ b
less_of_z t u b first second test =
    sym (λ i. int_lt (to_z-of_z w64 t first i) (to_z-of_z w64 u second i)) ∙ test

-- what was found is one record
pub same_found : (found : Option Record) (r x : Record) → found ≡ Some r → found ≡ Some x → r ≡ x
same_found found r x one other = same_Some r x (sym one ∙ other)

pub never_none : (found : Option Record) (r : Record) → found ≡ Some r → found ≡ None → ⊥
never_none found r one none = let clash : ◌≡◌ {A = Option Record} None (Some r) = sym none ∙ one in absurd cc

pub same_type : (m n : TypeEntry) → records.Type m ≡ records.Type n → m ≡ n
same_type m n same = cc

-- ---- what each record that is asked for tells

module _ (c : Caller) (a : SendArguments) (e : QueueEntry) (s : State) (filed : IsFiled s) (known : IsOpen c a e s)
  where
    abbrev q : Queue
    q = known.queue

    pub typed : pos 1 ≤ℤ a.mtype
    typed = let t = known.typed in grind (arith, ints, t)

    -- the queue's last message
    pub last_there : (serial : ℕ) → e.last ≡ Some serial →
        (m : Message) × (last_of known.queue.messages ≡ Some m) × (m.serial ≡ serial)
    last_there serial last = last_with q.messages serial (sym (ap (λ (x : QueueEntry). x.last) known.entry) ∙ last)

    -- the Type of the message's type
    pub type_told : (r : Record) → IsTold s (Some (At (key_of_type a.id a.mtype))) (Some r) →
        Contains (types known.queue.messages) a.mtype × (r ≡ records.Type (type_entry known.queue a.mtype))
    type_told r told = type_found s filed.lawful a.id q known.found a.mtype r typed
        (sym (told (key_of_type a.id a.mtype) refl))

    -- a type's first message
    pub has_first : Contains (types known.queue.messages) a.mtype →
        1 ≤ length (serials_of_type a.mtype known.queue.messages)
    has_first there = All-contains (λ (t : ℤ). 1 ≤ length (serials_of_type t q.messages)) (types q.messages) a.mtype
        (types_stand s filed.lawful q (stands s filed.lawful a.id q known.found)) there

    last_in_is : (ns : List ℕ) → 1 ≤ length ns → last_of ns ≡ Some (slice_index ns (length ns - 1))
    last_in_is ns some = slice_get-get_or ns (length ns - 1) 0 (omega (arith, some))

    -- the last message of the type
    pub last_typed_there : Contains (types known.queue.messages) a.mtype →
        (m : Message) × (last_of (filter (is_of_type a.mtype) known.queue.messages) ≡ Some m)
        × (m.serial ≡ (type_entry known.queue a.mtype).last)
    last_typed_there there = last_with (filter (is_of_type a.mtype) q.messages) (type_entry q a.mtype).last
        (last_in_is (serials_of_type a.mtype q.messages) (has_first there))
