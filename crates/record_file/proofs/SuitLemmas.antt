-- The bytes that are lent suit what stands at the key.
use Rattle.std.proofs.Common.{◌≡◌, refl, sym, ap, ◌∙◌, ℕ, ◌≤◌, List, length, Option, Some, None, arith}
use Rattle.std.specs.Prelude.{⊤}
use Rattle.std.specs.Option.{option_map}
use Rattle.record_file.specs.declared.operation.RecordOperation.TheVariants as operations
use Rattle.record_file.proofs.AccessNames.{SuitsFile, value_length}
use Rattle.record_file.specs.AccessWords.{RecordKey, Store, contents, RecordOperation, operation_found, operation_key, Links, Record, value_of, Replace, Relink, Delete}
use Rattle.record_file.specs.Purposes.{Purpose, ToFind, ToInsert, ToWrite, CanBeOn, StandsAt}
use Rattle.record_file.specs.OperationWords.{BucketView}
use Rattle.record_file.specs.Accesses.{AccessView, Allows, IsOfKind, IsPrepared, Serves, access_key}
use Rattle.record_file.specs.Readings.{IsReplace}

-- a value that is held is that of the record
pub record IsValueOf (found : Option Record) (value : List ℕ) : Type 0 where
  pub entry : Record
  pub is : found ≡ Some entry
  pub value_is : value ≡ value_of entry

pub value_is_of : (found : Option Record) (value : List ℕ) → option_map value_of found ≡ Some value →
    IsValueOf found value
value_is_of None value is = absurd cc
value_is_of (Some r) value is = record { entry = r; is = refl; value_is = cc }

abbrev pub IsReplacing : Purpose → Type 0
IsReplacing (ToWrite (Replace r)) = ⊤
IsReplacing (ToWrite (Relink key links)) = ⊤
IsReplacing p = ⊥

-- no longer than what stands there
abbrev IsWithin : Purpose → Store → RecordKey → List ℕ → Type 0
IsWithin p s key bytes = IsReplacing p → (value : List ℕ) → contents s key ≡ Some value → length bytes ≤ length value

pub as_long : (r q : Record) → ◌≡◌ {A = Option ℕ} (Some (value_length q)) (Some (value_length r)) →
    length (value_of q) ≡ length (value_of r)
as_long r q is = cc

replaced_within : (r : Record) (found : Option Record) (bytes value : List ℕ) → CanBeOn (Replace r) found →
    bytes ≡ value_of r → option_map value_of found ≡ Some value → length bytes ≤ length value
replaced_within r found bytes value can is here =
    let it = value_is_of found value here in
    let long = as_long r it.entry (sym (ap (option_map value_length) it.is) ∙ can) in
    let a = ap length is in
    let b = ap length it.value_is in
    omega (arith, long, a, b)

fronted_within : (at : Option (ℕ × Option ℕ)) (links : Links) (found : Option Record) (bytes value : List ℕ) →
    IsPrepared at links bytes found → option_map value_of found ≡ Some value → length bytes ≤ length value
fronted_within None links found bytes value none here = let a = ap length none in omega (arith, a)
fronted_within (Some at) links found bytes value front here =
    let it = value_is_of found value here in
    let within = (front it.entry it.is).within in
    let b = ap length it.value_is in
    omega (arith, within, b)

within_it : (p : Purpose) (found : Option Record) (a : AccessView) (s : Store) → Serves p a →
    StandsAt s (access_key a) found → Allows p a found → IsWithin p s (access_key a) a.bytes
within_it (ToFind key) found a s serves stands allows replacing value here = absurd replacing
within_it (ToInsert r) found a s serves stands allows replacing value here = absurd replacing
within_it (ToWrite (Replace r)) found a s serves stands allows replacing value here =
    replaced_within r found a.bytes value allows.fits serves.value (sym stands.holds ∙ here)
within_it (ToWrite (Relink key links)) found a s serves stands allows replacing value here =
    fronted_within (operation_found a.operation) links found a.bytes value allows.fits.1 (sym stands.holds ∙ here)
within_it (ToWrite (Delete key)) found a s serves stands allows replacing value here = absurd replacing

pub is_replace : (p : Purpose) (o : RecordOperation) → IsReplacing p → IsOfKind p o → IsReplace o
is_replace (ToFind key) o replacing kind = absurd replacing
is_replace (ToInsert r) o replacing kind = absurd replacing
is_replace (ToWrite (Delete key)) o replacing kind = absurd replacing
is_replace (ToWrite (Replace r)) (operations.Find f) replacing kind = kind
is_replace (ToWrite (Replace r)) (operations.Insert i) replacing kind = kind
is_replace (ToWrite (Replace r)) (operations.Replace q) replacing kind = tt
is_replace (ToWrite (Replace r)) (operations.Delete d) replacing kind = kind
is_replace (ToWrite (Relink key links)) (operations.Find f) replacing kind = kind
is_replace (ToWrite (Relink key links)) (operations.Insert i) replacing kind = kind
is_replace (ToWrite (Relink key links)) (operations.Replace q) replacing kind = tt
is_replace (ToWrite (Relink key links)) (operations.Delete d) replacing kind = kind

replacing : (p : Purpose) (r : BucketView) → IsOfKind p (operations.Replace r) → IsReplacing p
replacing (ToFind key) r kind = kind
replacing (ToInsert q) r kind = kind
replacing (ToWrite (Replace q)) r kind = tt
replacing (ToWrite (Relink key links)) r kind = tt
replacing (ToWrite (Delete key)) r kind = kind

suits_in : (o : RecordOperation) (p : Purpose) (s : Store) (bytes : List ℕ) → IsOfKind p o →
    IsWithin p s (operation_key o) bytes → SuitsFile s o bytes
suits_in (operations.Find f) p s bytes kind within = tt
suits_in (operations.Insert i) p s bytes kind within = tt
suits_in (operations.Replace r) p s bytes kind within = within (replacing p r kind)
suits_in (operations.Delete d) p s bytes kind within = tt

pub suits_file : (p : Purpose) (found : Option Record) (a : AccessView) (s : Store) → Serves p a →
    StandsAt s (access_key a) found → Allows p a found → SuitsFile s a.operation a.bytes
suits_file p found a s serves stands allows =
    suits_in a.operation p s a.bytes serves.kind (within_it p found a s serves stands allows)
