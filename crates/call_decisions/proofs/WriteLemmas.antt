-- The names under which a call writes are among its names, held Exclusive.
use Rattle.std.proofs.Common.{ℕ, zero, suc, ◌≡◌, Bool, true, false, cond, List, [], ◌∷◌, Option, Some, None, map, refl, ap, ◌∙◌, arith}
use Rattle.std.specs.List.{Contains}
use Rattle.page_locks.specs.declared.lock.LockName.TheVariants as names
use Rattle.queue_model.specs.declared.call.Call.TheVariants as calls
use Rattle.page_locks.proofs.NameLemmas.{is_same-itself}
use Rattle.call_decisions.specs.Names.{by_phase, exclusively, queue_for}
use Rattle.call_decisions.specs.NameLaws.{WriteUnderNames}
use Rattle.call_decisions.proofs.Words.{Exclusive, GetInquiry, Lock, LockName, Read, ReceiveInquiry, RemoveInquiry, SendInquiry, SetInquiry, StatInquiry, get_locked, if_of, is_same, kind_of, locked_at, of_get, of_receive, of_remove, of_send, of_set, of_stat}

-- of names that are all held Exclusive
held_among : (ns : List LockName) (name : LockName) → Contains ns name →
    kind_of (map exclusively ns) name ≡ Some Exclusive
held_among [] name (k, within, at) = absurd (omega (arith, within))
held_among (n ∷ ns) name (zero, within, at) =
    ap (λ b. cond b (Some Exclusive) (kind_of (map exclusively ns) name))
    (ap (λ m. is_same m name) at ∙ is_same-itself name)
held_among (n ∷ ns) name (suc k, within, at) =
    by (is_same n name) (held_among ns name (k, omega (arith, within), at))
  where
    by : (b : Bool) → kind_of (map exclusively ns) name ≡ Some Exclusive →
        cond b (Some Exclusive) (kind_of (map exclusively ns) name) ≡ Some Exclusive
    by true rest = refl
    by false rest = rest

phase_held : (id : ℕ) (ns : List LockName) (name : LockName) → Contains ns name →
    kind_of (by_phase id ns) name ≡ Some Exclusive
phase_held id [] name (k, within, at) = absurd (omega (arith, within))
phase_held id (n ∷ ns) name has = held_among (n ∷ ns) name has

none_held : (locks : List Lock) (name : LockName) → Contains [] name → kind_of locks name ≡ Some Exclusive
none_held locks name (k, within, at) = absurd (omega (arith, within))

of_kind : {I : Type 0} (locked : I → List LockName) (names_at : I → List Lock) (name : LockName) →
    ((i : I) → Contains (locked i) name → kind_of (names_at i) name ≡ Some Exclusive) → (o : Option I) →
    Contains (if_of locked [] o) name → kind_of (if_of names_at [] o) name ≡ Some Exclusive
of_kind locked names_at name law None has = none_held [] name has
of_kind locked names_at name law (Some i) has = law i has

pub write_under_names : WriteUnderNames
write_under_names (calls.Get a) any name has =
    of_kind (λ (i : GetInquiry). get_locked a i.getting) _ name
    (λ i has. held_among (get_locked a i.getting) name has) (of_get any) has
write_under_names (calls.Send a) any name has =
    of_kind (λ (i : SendInquiry). names.Queue a.id ∷ []) _ name
    (λ i has. held_among (names.Queue a.id ∷ []) name has) (of_send any) has
write_under_names (calls.Receive a) any name has =
    of_kind (λ (i : ReceiveInquiry). names.Queue a.id ∷ []) _ name
    (λ i has. held_among (names.Queue a.id ∷ []) name has) (of_receive any) has
write_under_names (calls.Stat id) any name has =
    of_kind (λ (i : StatInquiry). []) _ name (λ i has. none_held (queue_for id Read) name has) (of_stat any) has
write_under_names (calls.Set a) any name has =
    of_kind (λ (i : SetInquiry). names.Queue a.id ∷ []) _ name
    (λ i has. held_among (names.Queue a.id ∷ []) name has) (of_set any) has
write_under_names (calls.Remove id) any name has =
    of_kind (λ (i : RemoveInquiry). locked_at id i.stage) _ name
    (λ i has. phase_held id (locked_at id i.stage) name has) (of_remove any) has
