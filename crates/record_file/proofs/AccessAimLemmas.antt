-- What an access is about stays by a step of its operation.
use Rattle.std.proofs.Common.{◌≡◌, refl, sym, ap, ◌∙◌, subst, ℕ, Bool, true, false, List, length, inl, inr, Option, Some, None, IsSome, IsTrue}
use Rattle.std.proofs.lemmas.Bool.{true≢false}
use Rattle.std.specs.Option.{is_some}
use Rattle.std.specs.Prelude.{unwrap_or}
use Rattle.record_file.specs.BucketAccesses.{BucketView}
use Rattle.record_file.specs.BucketSteps.{KeepsBucket}
use Rattle.record_file.specs.declared.bucket_access.Deed.TheVariants as deeds
use Rattle.record_file.specs.stale_search.Searches.{IsLed, LeadsFrom, SearchView, found_at}
use Rattle.record_file.specs.stale_search.declared.place.SearchPlace.{SearchPlace}
use Rattle.record_file.specs.stale_search.declared.place.SearchPlace.TheVariants as places
use Rattle.record_file.specs.step_rules.declared.kind.Kind.{Kind}
use Rattle.record_file.specs.step_rules.declared.kind.Kind.TheVariants as kinds
use Rattle.record_file.specs.OperationSteps.{KeepsKind, KeepsOperation}
use Rattle.record_file.specs.declared.operation.RecordOperation.TheVariants as operations
use Rattle.record_file.proofs.AccessNames.{FileFault}
use Rattle.record_file.specs.AccessWords.{RecordKey, PoolState, Store, store_of, Progress, Moved, Blocked, Fault, Ended, Look, WriteRecord, RecordOperation, found_of, operation_found, Record, Replace, Relink, Delete}
use Rattle.record_file.specs.Purposes.{Purpose, ToFind, ToInsert, ToWrite, is_write}
use Rattle.record_file.specs.Accesses.{AccessView, HasFound, IsOfKind, IsToldIn, Serves, access_answer, access_key, answer_in, is_past_grant, set_out_in}
use Rattle.record_file.specs.Readings.{IsReplace}

pub wrote_of : (did : Progress FileFault) → is_write did ≡ true → did ≡ Moved WriteRecord
wrote_of (Moved kinds.Grant) is = absurd cc
wrote_of (Moved kinds.Release) is = absurd cc
wrote_of (Moved kinds.ReadDepth) is = absurd cc
wrote_of (Moved kinds.ReadEntry) is = absurd cc
wrote_of (Moved kinds.Look) is = absurd cc
wrote_of (Moved kinds.Hop) is = absurd cc
wrote_of (Moved kinds.WriteRecord) is = refl
wrote_of (Moved kinds.Decide) is = absurd cc
wrote_of (Moved kinds.TakePage) is = absurd cc
wrote_of (Moved kinds.CopyDirectory) is = absurd cc
wrote_of (Moved kinds.RaiseDepth) is = absurd cc
wrote_of (Moved kinds.WriteNew) is = absurd cc
wrote_of (Moved kinds.WriteOld) is = absurd cc
wrote_of (Moved kinds.Retarget) is = absurd cc
wrote_of (Moved kinds.SetCounts) is = absurd cc
wrote_of (Moved kinds.WriteLeft) is = absurd cc
wrote_of (Moved kinds.Tombstone) is = absurd cc
wrote_of (Moved kinds.Convert) is = absurd cc
wrote_of (Moved kinds.WriteFree) is = absurd cc
wrote_of (Moved kinds.LinkFree) is = absurd cc
wrote_of (Moved kinds.LowerDepth) is = absurd cc
wrote_of (Blocked other) is = absurd cc
wrote_of (Fault fault) is = absurd cc
wrote_of Ended is = absurd cc

pub wrote_not : (did : Progress FileFault) → is_write did ≡ false → did ≡ Moved WriteRecord → ⊥
wrote_not did none wrote = true≢false (sym (ap is_write wrote) ∙ none)

-- ---- a find sets out once

-- behind a move a search is past its beginning
moves_past : (kind : Kind) (k : ℕ) (s : Store) (old new : SearchPlace) → LeadsFrom kind k s old new →
    is_past_grant new ≡ true
moves_past kind k s places.GrantDirectory new led = ap is_past_grant led.1
moves_past kind k s places.ReadDepth new led = ap is_past_grant led.1
moves_past kind k s (places.ReadEntry depth) new led = ap is_past_grant led.1
moves_past kind k s (places.GrantPage n) new led = ap is_past_grant led.1
moves_past kind k s (places.ReleaseDirectory n) new led = ap is_past_grant led.1
moves_past kind k s (places.Look n) new led = elim led.1 [
  | inl hops ↦ ap is_past_grant hops
  | inr found ↦ ap is_past_grant found.1
]
moves_past kind k s (places.Hop n) new led = elim led.1 [
  | inl back ↦ ap is_past_grant back.1
  | inr on ↦ ap is_past_grant on.1
]
moves_past kind k s (places.Found n found) new led = absurd led

found_past : (place : SearchPlace) → IsSome (found_at place) → is_past_grant place ≡ true
found_past places.GrantDirectory some = absurd cc
found_past places.ReadDepth some = refl
found_past (places.ReadEntry depth) some = refl
found_past (places.GrantPage n) some = refl
found_past (places.ReleaseDirectory n) some = refl
found_past (places.Look n) some = refl
found_past (places.Hop n) some = refl
found_past (places.Found n found) some = refl

module _ (bytes : ℕ) (did : Progress FileFault) (pool : PoolState) where
  find_sets_out : (f f' : BucketView) → KeepsBucket deeds.Find did pool f f' → IsTrue pool.honest → (kind : Kind) →
      did ≡ Moved kind → is_past_grant f'.search.place ≡ true
  find_sets_out f f' keeps honest kind moved = by (found_of f) refl
    where
      by : (at : Option (ℕ × Option ℕ)) → found_of f ≡ at → is_past_grant f'.search.place ≡ true
      by None none =
          moves_past kind f.search.pseudokey (store_of pool.images) f.search.place f'.search.place
          (subst (λ (d : Progress FileFault). IsLed d f.search.pseudokey (store_of pool.images) f.search.place
          f'.search.place) moved ((keeps.searches none).led honest))
      by (Some at) there =
          let some : IsSome (found_of f) = ap is_some there in
          ap (λ (v : SearchView). is_past_grant v.place) (keeps.rests some) ∙ found_past f.search.place some

  pub sets_out : (o o' : RecordOperation) → KeepsKind bytes did pool o o' → IsTrue pool.honest → (kind : Kind) →
      did ≡ Moved kind → set_out_in o' ≡ true
  sets_out (operations.Find f) (operations.Find f') keeps honest kind moved =
      find_sets_out f f' keeps honest kind moved
  sets_out (operations.Insert i) (operations.Find f') keeps honest kind moved = absurd keeps
  sets_out (operations.Replace r) (operations.Find f') keeps honest kind moved = absurd keeps
  sets_out (operations.Delete d) (operations.Find f') keeps honest kind moved = absurd keeps
  sets_out o (operations.Insert i') keeps honest kind moved = refl
  sets_out o (operations.Replace r') keeps honest kind moved = refl
  sets_out o (operations.Delete d') keeps honest kind moved = refl

  same_kind : (o o' : RecordOperation) → KeepsKind bytes did pool o o' → (p : Purpose) → IsOfKind p o → IsOfKind p o'
  same_kind (operations.Find f) (operations.Find f') keeps (ToFind key) kind = tt
  same_kind (operations.Find f) (operations.Find f') keeps (ToInsert r) kind = kind
  same_kind (operations.Find f) (operations.Find f') keeps (ToWrite (Replace r)) kind = kind
  same_kind (operations.Find f) (operations.Find f') keeps (ToWrite (Relink key links)) kind = kind
  same_kind (operations.Find f) (operations.Find f') keeps (ToWrite (Delete key)) kind = kind
  same_kind (operations.Find f) (operations.Insert i) keeps p kind = absurd keeps
  same_kind (operations.Find f) (operations.Replace r) keeps p kind = absurd keeps
  same_kind (operations.Find f) (operations.Delete d) keeps p kind = absurd keeps
  same_kind (operations.Insert i) (operations.Insert i') keeps (ToFind key) kind = kind
  same_kind (operations.Insert i) (operations.Insert i') keeps (ToInsert r) kind = tt
  same_kind (operations.Insert i) (operations.Insert i') keeps (ToWrite (Replace r)) kind = kind
  same_kind (operations.Insert i) (operations.Insert i') keeps (ToWrite (Relink key links)) kind = kind
  same_kind (operations.Insert i) (operations.Insert i') keeps (ToWrite (Delete key)) kind = kind
  same_kind (operations.Insert i) (operations.Find f) keeps p kind = absurd keeps
  same_kind (operations.Insert i) (operations.Replace r) keeps p kind = absurd keeps
  same_kind (operations.Insert i) (operations.Delete d) keeps p kind = absurd keeps
  same_kind (operations.Replace q) (operations.Replace q') keeps (ToFind key) kind = kind
  same_kind (operations.Replace q) (operations.Replace q') keeps (ToInsert r) kind = kind
  same_kind (operations.Replace q) (operations.Replace q') keeps (ToWrite (Replace r)) kind = tt
  same_kind (operations.Replace q) (operations.Replace q') keeps (ToWrite (Relink key links)) kind = tt
  same_kind (operations.Replace q) (operations.Replace q') keeps (ToWrite (Delete key)) kind = kind
  same_kind (operations.Replace q) (operations.Find f) keeps p kind = absurd keeps
  same_kind (operations.Replace q) (operations.Insert i) keeps p kind = absurd keeps
  same_kind (operations.Replace q) (operations.Delete d) keeps p kind = absurd keeps
  same_kind (operations.Delete d) (operations.Delete d') keeps (ToFind key) kind = kind
  same_kind (operations.Delete d) (operations.Delete d') keeps (ToInsert r) kind = kind
  same_kind (operations.Delete d) (operations.Delete d') keeps (ToWrite (Replace r)) kind = kind
  same_kind (operations.Delete d) (operations.Delete d') keeps (ToWrite (Relink key links)) kind = kind
  same_kind (operations.Delete d) (operations.Delete d') keeps (ToWrite (Delete key)) kind = tt
  same_kind (operations.Delete d) (operations.Find f) keeps p kind = absurd keeps
  same_kind (operations.Delete d) (operations.Insert i) keeps p kind = absurd keeps
  same_kind (operations.Delete d) (operations.Replace r) keeps p kind = absurd keeps

  -- a find that has its answer keeps it
  same_told : (o o' : RecordOperation) → KeepsKind bytes did pool o o' → IsSome (answer_in o) →
      answer_in o' ≡ answer_in o
  same_told (operations.Find f) (operations.Find f') keeps some =
      ap (λ v. found_of (record f { search = v })) (keeps.rests some)
  same_told (operations.Find f) (operations.Insert i) keeps some = absurd keeps
  same_told (operations.Find f) (operations.Replace r) keeps some = absurd keeps
  same_told (operations.Find f) (operations.Delete d) keeps some = absurd keeps
  same_told (operations.Insert i) o' keeps some = absurd cc
  same_told (operations.Replace r) o' keeps some = absurd cc
  same_told (operations.Delete d) o' keeps some = absurd cc

  -- and where what was found stays, a find has what it had
  pub same_answer : (o o' : RecordOperation) → KeepsKind bytes did pool o o' →
      operation_found o' ≡ operation_found o → answer_in o' ≡ answer_in o
  same_answer (operations.Find f) (operations.Find f') keeps same = same
  same_answer (operations.Find f) (operations.Insert i) keeps same = absurd keeps
  same_answer (operations.Find f) (operations.Replace r) keeps same = absurd keeps
  same_answer (operations.Find f) (operations.Delete d) keeps same = absurd keeps
  same_answer (operations.Insert i) (operations.Insert i') keeps same = refl
  same_answer (operations.Insert i) (operations.Find f) keeps same = absurd keeps
  same_answer (operations.Insert i) (operations.Replace r) keeps same = absurd keeps
  same_answer (operations.Insert i) (operations.Delete d) keeps same = absurd keeps
  same_answer (operations.Replace r) (operations.Replace r') keeps same = refl
  same_answer (operations.Replace r) (operations.Find f) keeps same = absurd keeps
  same_answer (operations.Replace r) (operations.Insert i) keeps same = absurd keeps
  same_answer (operations.Replace r) (operations.Delete d) keeps same = absurd keeps
  same_answer (operations.Delete d) (operations.Delete d') keeps same = refl
  same_answer (operations.Delete d) (operations.Find f) keeps same = absurd keeps
  same_answer (operations.Delete d) (operations.Insert i) keeps same = absurd keeps
  same_answer (operations.Delete d) (operations.Replace r) keeps same = absurd keeps

  -- a replace writes where a page answered
  pub writes_answered : (o o' : RecordOperation) → KeepsKind bytes did pool o o' → IsTrue pool.honest →
      did ≡ Moved WriteRecord → IsReplace o → IsSome (operation_found o)
  writes_answered (operations.Replace r) (operations.Replace r') keeps honest wrote replace =
      keeps.answered honest wrote
  writes_answered (operations.Replace r) (operations.Find f) keeps honest wrote replace = absurd keeps
  writes_answered (operations.Replace r) (operations.Insert i) keeps honest wrote replace = absurd keeps
  writes_answered (operations.Replace r) (operations.Delete d) keeps honest wrote replace = absurd keeps
  writes_answered (operations.Find f) o' keeps honest wrote replace = absurd replace
  writes_answered (operations.Insert i) o' keeps honest wrote replace = absurd replace
  writes_answered (operations.Delete d) o' keeps honest wrote replace = absurd replace

pub none_of : (found : Option (ℕ × Option ℕ)) → is_some found ≡ false → found ≡ None
none_of None is = refl
none_of (Some at) is = absurd cc

-- the parts of what a page told
pub same_parts : (page page' : ℕ) (len len' : Option ℕ) →
    ◌≡◌ {A = Option (ℕ × Option ℕ)} (Some (page, len)) (Some (page', len')) → (page ≡ page') × (len ≡ len')
same_parts page page' len len' is = (
  ap (λ (o : Option (ℕ × Option ℕ)). (unwrap_or o (page, len)).0) is,
  ap (λ (o : Option (ℕ × Option ℕ)). (unwrap_or o (page, len)).1) is,
)

-- where nothing was found, a find has found nothing
pub none_told : (o : RecordOperation) → operation_found o ≡ None → answer_in o ≡ None
none_told (operations.Find f) none = none
none_told (operations.Insert i) none = refl
none_told (operations.Replace r) none = refl
none_told (operations.Delete d) none = refl

pub told_none : (a : AccessView) (found : Option Record) → access_answer a ≡ None → HasFound a found → ⊥
told_none a found none has =
    subst (λ (o : Option (ℕ × Option ℕ)). IsToldIn o (access_key a) a.bytes found) none has

some_told : (o : Option (ℕ × Option ℕ)) (key : RecordKey) (bytes : List ℕ) (found : Option Record) →
    IsToldIn o key bytes found → IsSome o
some_told None key bytes found has = absurd has
some_told (Some at) key bytes found has = refl

module _ (did : Progress FileFault) (pool : PoolState) (a : AccessView) (o' : RecordOperation) (written : Bool)
    (aim : KeepsOperation (length a.bytes) did pool a.operation o') where
  -- the access after a step of its operation
  abbrev pub behind : AccessView
  behind = record { operation = o'; links = a.links; bytes = a.bytes; written = written }

  pub serves_on : (p : Purpose) → Serves p a → Serves p behind
  serves_on p serves = record {
    kind = same_kind (length a.bytes) did pool a.operation o' aim.kind p serves.kind;
    key = aim.key ∙ serves.key;
    links = serves.links;
    value = serves.value;
    limits = serves.limits;
  }

  pub tells_on : (found : Option Record) → HasFound a found → HasFound behind found
  tells_on found has =
      let some = some_told (access_answer a) (access_key a) a.bytes found has in
      let same : access_answer behind ≡ access_answer a =
      same_told (length a.bytes) did pool a.operation o' aim.kind some in
      subst (λ (k : RecordKey). IsToldIn (access_answer behind) k a.bytes found) (sym aim.key)
      (subst (λ (o : Option (ℕ × Option ℕ)). IsToldIn o (access_key a) a.bytes found) (sym same) has)
