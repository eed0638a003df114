-- What stands at the key after a step of the operation.
use Rattle.std.proofs.Common.{◌≡◌, refl, sym, ap, ◌∙◌, subst, ℕ, Bool, true, List, [], ◌++◌, length, if◌then◌else◌, Option, Some, None, IfSome, IsSome, arith}
use Rattle.std.proofs.lemmas.Bool.Decides.{nat_tests}
use Rattle.std.proofs.lemmas.List.{append-nil, drop_all}
use Rattle.std.specs.Option.{option_map}
use Rattle.std.specs.Prelude.{unwrap_or}
use Rattle.hash_file.specs.Changes as changes
use Rattle.record_file.specs.declared.operation.RecordOperation.TheVariants as operations
use Rattle.record_file.proofs.AccessNames.{FileFault, RecordWrite, TurnsAt, WritesAsked, is_same, key_written_at, one_changed, operation_writes, value_after}
use Rattle.record_file.proofs.RecordLemmas.{is_such, relinked_spelled}
use Rattle.record_file.proofs.SuitLemmas.{IsReplacing, as_long, is_replace}
use Rattle.record_file.specs.AccessWords.{RecordKey, pair, Store, contents, with_front, Progress, Moved, WriteRecord, World, Turn, IsSoundWorld, RecordOperation, operation_found, operation_key, operation_turn, Record, SpellsRecord, relinked, value_of, Replace, Relink, Delete}
use Rattle.record_file.specs.Purposes.{Purpose, ToFind, ToInsert, ToWrite, CanBeOn, StandsAt, made}
use Rattle.record_file.specs.Readings.{IsReplace}
use Rattle.record_file.specs.Accesses.{AccessView, Allows, IsFrontOf, IsOfKind, IsPrepared, Serves, access_key}

same_key : (k : RecordKey) → is_same k k ≡ true
same_key k = grind (arith, nat_tests)

-- a find writes nothing
writes_none : (hash : RecordKey → ℕ) (seat : ℕ) (turn : Turn) (did : Progress FileFault) (w w' : World) →
    turn.write ≡ None → did ≡ Moved WriteRecord → TurnsAt hash turn did seat w w' → ⊥
writes_none hash seat turn did w w' none is does =
    let does' : WritesAsked hash turn.write seat w w' =
    subst (λ (d : Progress FileFault). TurnsAt hash turn d seat w w') is does in
    subst (λ (write : Option RecordWrite). WritesAsked hash write seat w w') none does'

module _ (hash : RecordKey → ℕ) (seat : ℕ) (did : Progress FileFault) (w w' : World) (sound : IsSoundWorld hash w)
    (wrote : did ≡ Moved WriteRecord) where
  changed : (turn : Turn) (write : RecordWrite) → turn.write ≡ Some write → TurnsAt hash turn did seat w w' →
      contents w'.store (key_written_at write) ≡ value_after write
  changed turn write asked does =
      one_changed hash seat turn did w w' write sound wrote asked does (key_written_at write)
      ∙ ap (λ (b : Bool). if b then value_after write else contents w.store (key_written_at write))
      (same_key (key_written_at write))

  -- what its WriteRecord leaves
  pub written_at : (o : RecordOperation) (bytes : List ℕ) →
      TurnsAt hash (operation_turn o bytes w.store) did seat w w' →
      contents w'.store (operation_key o) ≡ operation_writes o bytes w.store
  written_at (operations.Find f) bytes does =
      absurd (writes_none hash seat (operation_turn (operations.Find f) bytes w.store) did w w' refl wrote does)
  written_at (operations.Insert i) bytes does =
      changed (operation_turn (operations.Insert i) bytes w.store) (changes.Put (pair i.key bytes)) refl does
  written_at (operations.Replace r) bytes does =
      changed (operation_turn (operations.Replace r) bytes w.store) (changes.Replace
      (pair r.search.key (with_front bytes (unwrap_or (contents w.store r.search.key) [])))) refl does
  written_at (operations.Delete d) bytes does =
      changed (operation_turn (operations.Delete d) bytes w.store) (changes.Remove d.removal.search.key) refl does

  pub finds_none : (p : Purpose) (key : RecordKey) (o : RecordOperation) (bytes : List ℕ) → IsOfKind (ToFind key) o →
      TurnsAt hash (operation_turn o bytes w.store) did seat w w' → ⊥
  finds_none p key (operations.Find f) bytes kind does =
      writes_none hash seat (operation_turn (operations.Find f) bytes w.store) did w w' refl wrote does
  finds_none p key (operations.Insert i) bytes kind does = kind
  finds_none p key (operations.Replace r) bytes kind does = kind
  finds_none p key (operations.Delete d) bytes kind does = kind

-- ---- the value that is left

inserts_value : (r : Record) (o : RecordOperation) (bytes : List ℕ) (s : Store) → IsOfKind (ToInsert r) o →
    operation_writes o bytes s ≡ Some bytes
inserts_value r (operations.Find f) bytes s kind = absurd kind
inserts_value r (operations.Insert i) bytes s kind = refl
inserts_value r (operations.Replace q) bytes s kind = absurd kind
inserts_value r (operations.Delete d) bytes s kind = absurd kind

replaces_value : (o : RecordOperation) (bytes : List ℕ) (s : Store) → IsReplace o →
    operation_writes o bytes s ≡ Some (with_front bytes (unwrap_or (contents s (operation_key o)) []))
replaces_value (operations.Find f) bytes s replace = absurd replace
replaces_value (operations.Insert i) bytes s replace = absurd replace
replaces_value (operations.Replace r) bytes s replace = refl
replaces_value (operations.Delete d) bytes s replace = absurd replace

deletes_value : (key : RecordKey) (o : RecordOperation) (bytes : List ℕ) (s : Store) →
    IsOfKind (ToWrite (Delete key)) o → operation_writes o bytes s ≡ None
deletes_value key (operations.Find f) bytes s kind = absurd kind
deletes_value key (operations.Insert i) bytes s kind = absurd kind
deletes_value key (operations.Replace q) bytes s kind = absurd kind
deletes_value key (operations.Delete d) bytes s kind = refl

whole_front : (front value : List ℕ) → length value ≡ length front → with_front front value ≡ front
whole_front front value long =
    ap (λ (xs : List ℕ). front ++ xs) (drop_all (length front) value (omega (arith, long))) ∙ append-nil front

-- a record that there must be
found_long : (r : Record) (found : Option Record) → CanBeOn (Replace r) found →
    length (unwrap_or (option_map value_of found) []) ≡ length (value_of r)
found_long r None can = absurd cc
found_long r (Some q) can = as_long r q can

-- a WriteRecord leaves what it makes of the record, where a page has answered a relink
pub left_behind : (p : Purpose) (found : Option Record) (a : AccessView) (s : Store) (value : Option (List ℕ)) →
    Serves p a → StandsAt s (access_key a) found → Allows p a found → (IsOfKind p a.operation → IsReplacing p →
    IsSome (operation_found a.operation)) → ((key : RecordKey) → p ≡ ToFind key → ⊥) →
    value ≡ operation_writes a.operation a.bytes s →
    (value ≡ option_map value_of (made p found))
    × IfSome (made p found) (λ (r : Record). SpellsRecord r (access_key a) (value_of r))
left_behind (ToFind key) found a s value serves stands allows answered writes is = absurd (writes key refl)
left_behind (ToInsert r) found a s value serves stands allows answered writes is = (
  is ∙ inserts_value r a.operation a.bytes s serves.kind ∙ ap Some serves.value,
  subst (λ (k : RecordKey). SpellsRecord r k (value_of r)) (sym serves.key) serves.limits,
)
left_behind (ToWrite (Replace r)) found a s value serves stands allows answered writes is = (
  is ∙ replaces_value a.operation a.bytes s (is_replace (ToWrite (Replace r)) a.operation tt serves.kind)
      ∙ ap Some (ap (λ (v : Option (List ℕ)). with_front a.bytes (unwrap_or v [])) stands.holds
      ∙ whole_front a.bytes (unwrap_or (option_map value_of found) []) (found_long r found allows.fits
      ∙ sym (ap length serves.value)) ∙ serves.value),
  subst (λ (k : RecordKey). SpellsRecord r k (value_of r)) (sym serves.key) serves.limits,
)
left_behind (ToWrite (Relink key links)) found a s value serves stands allows answered writes is =
    let it = is_such links found allows.fits.0 in
    let front : IsFrontOf links a.bytes it.entry =
    ready (operation_found a.operation) (answered serves.kind tt) allows.fits.1 it.entry it.is in
    let spells : SpellsRecord it.entry (access_key a) (value_of it.entry) =
    subst (λ (o : Option Record). IfSome o (λ (r : Record). SpellsRecord r (access_key a) (value_of r))) it.is
    stands.spelled in
    let after : option_map (relinked links) found ≡ Some (relinked links it.entry) =
    ap (option_map (relinked links)) it.is in (
      is ∙ replaces_value a.operation a.bytes s
          (is_replace (ToWrite (Relink key links)) a.operation tt serves.kind)
          ∙ ap Some (ap (λ (v : Option (List ℕ)). with_front a.bytes (unwrap_or v []))
          (stands.holds ∙ ap (option_map value_of) it.is) ∙ front.made) ∙ sym (ap (option_map value_of) after),
      subst (λ (o : Option Record). IfSome o (λ (r : Record). SpellsRecord r (access_key a) (value_of r))) (sym after)
          (relinked_spelled links it.entry (access_key a) serves.limits.0 serves.limits.1 spells),
    )
  where
    ready : (o : Option (ℕ × Option ℕ)) → IsSome o → IsPrepared o links a.bytes found → (r : Record) →
        found ≡ Some r → IsFrontOf links a.bytes r
    ready None told prepared r here = absurd cc
    ready (Some seen) told prepared r here = prepared r here
left_behind (ToWrite (Delete key)) found a s value serves stands allows answered writes is =
    (is ∙ deletes_value key a.operation a.bytes s serves.kind, tt)
