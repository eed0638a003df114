-- One record of a live bucket is written.
use Rattle.std.proofs.Common.{ℕ, ◌≡◌, ◌≢◌, ◌+◌, List, [], ◌∷◌, Bool, true, false, cond, arith, refl, sym, ap, subst, ◌∙◌, inl, inr, Option}
use Rattle.std.specs.List.{Contains}
use Rattle.std.proofs.lemmas.Bool.{cases_eq}
use Rattle.std.proofs.lemmas.List.{length-set}
use Rattle.hash_file.proofs.Names.{Bucket, Covers, Header, PageKind, Pair, Range, RecordKey, is_same, lookup}
use Rattle.bucket_page.specs.declared.page.PageKind.TheVariants as kinds
use Rattle.bucket_page.proofs.KeyLaws.{same_is}
use Rattle.hash_file.specs.Store.{Store, page_at, is_bucket, bucket_of, bucket_at, range_of, range_at, records_at, next_at}
use Rattle.hash_file.specs.Chain.{chain, contents, pairs_on, IsBucketOf, IsBucketOn, IsPlaced}
use Rattle.hash_file.specs.Change.{Change, Quiet, Taken, Filled, Linked, Absorbed, Buried, Drained, Freed, owned, busy, lost}
use Rattle.hash_file.specs.Search.{PageLeadsOn}
use Rattle.hash_file.specs.Phases.{HasPhase}
use Rattle.hash_file.specs.Sound.{IsSoundOn, IsSoundFile}
use Rattle.hash_file.specs.Changes.{RecordWrite, MayWrite, key_of, value_after, records_after, write_record}
use Rattle.hash_file.specs.Kept.{HasShapeOf, LengthensWays}
use Rattle.hash_file.specs.Laws.{KeepsOtherRecords}
use Rattle.bucket_page.specs.Dividing.{upper_half}
use Rattle.hash_file.proofs.Lists.{contains_is}
use Rattle.hash_file.proofs.Chains.{chain_is, bucket_found, bucket_unique}
use Rattle.hash_file.proofs.Lookups.{look_at}
use Rattle.hash_file.proofs.Roles.{numbered, live_not_spare, live_not_owned}
use Rattle.hash_file.proofs.Frames.{shape_of_page, reach_same, page_other, page_same, covers_shaped, chain_shaped, entry_shaped, number_shaped, spared_same, numbered_same, layout_same, sound_by, ways_by, distance_shaped}
use Rattle.hash_file.proofs.Writes.{all_written, ascend_written, lookup_written}

-- a phase that does not speak of the records of page n goes on where those alone change
phase_written : (hash : RecordKey → ℕ) (s t : Store) (c : Change) (ns : List ℕ) (n : ℕ) → t.header ≡ s.header →
    ((m : ℕ) → m ≢ n → page_at t m ≡ page_at s m) → ((m : ℕ) → HasShapeOf s t m) →
    (Contains (busy c) n → ⊥) → (Contains (owned c) n → ⊥) → HasPhase hash s ns c → HasPhase hash t ns c
phase_written hash s t Quiet ns n head others shape idle own p = p
phase_written hash s t (Taken new) ns n head others shape idle own p =
    let same = others new (λ is. own (contains_is [] is)) in
    same ∙ p ∙ sym (ap (λ (q : PageKind). kinds.Free (bucket_of q).next) same)
phase_written hash s t (Filled old new) ns n head others shape idle own p =
    let old_same = others old (λ is. idle (contains_is (new ∷ []) is)) in
    let new_same = others new (λ is. own (contains_is [] is)) in
    record {
      old_on = p.old_on;
      shallow = omega (
        arith,
        p.shallow,
        ap (λ (r : Range). r.depth) (shape old).range,
        ap (λ (x : Header). x.depth) head,
      );
      upper = new_same ∙ p.upper ∙ sym (ap (λ (q : PageKind). kinds.Bucket (upper_half hash (bucket_of q))) old_same);
    }
phase_written hash s t (Linked old new whole) ns n head others shape idle own p = record {
  old_on = p.old_on;
  new_on = p.new_on;
  next = (shape old).next ∙ p.next;
  halves = record { lower = (shape old).range ∙ p.halves.lower; upper = (shape new).range ∙ p.halves.upper };
}
phase_written hash s t (Absorbed left right whole) ns n head others shape idle own p =
    let left_same = others left (λ is. idle (contains_is (right ∷ []) is)) in
    let right_same = others right (λ is. own (contains_is [] is)) in
    record {
      left_on = p.left_on;
      shallow = omega (arith, p.shallow, ap (λ (x : Header). x.depth) head);
      joined = (shape left).range ∙ p.joined;
      stands = (shape right).live ∙ p.stands;
      upper = (shape right).range ∙ p.upper;
      next = (shape right).next ∙ p.next ∙ sym (shape left).next;
      same = λ key covers. ap (λ (q : PageKind). lookup key (bucket_of q).records) right_same ∙ p.same key covers
          ∙ sym (ap (λ (q : PageKind). lookup key (bucket_of q).records) left_same);
    }
phase_written hash s t (Buried left right whole) ns n head others shape idle own p = record {
  left_on = p.left_on;
  shallow = omega (arith, p.shallow, ap (λ (x : Header). x.depth) head);
  joined = (shape left).range ∙ p.joined;
  tombstone = others right (λ is. own (contains_is [] is)) ∙ p.tombstone;
}
phase_written hash s t (Drained left right) ns n head others shape idle own p = record {
  left_on = p.left_on;
  tombstone = others right (λ is. own (contains_is [] is)) ∙ p.tombstone;
}
phase_written hash s t (Freed right) ns n head others shape idle own p =
    others right (λ is. own (contains_is [] is)) ∙ p
    ∙ sym (ap (λ (x : Header). kinds.Free x.first_free) head)

module _ (hash : RecordKey → ℕ) (s : Store) (c : Change) (n : ℕ) (w : RecordWrite) (h : IsSoundFile hash s c)
    (b : IsBucketOf s (hash (key_of w)) n) (idle : Contains (busy c) n → ⊥) (may : MayWrite w (records_at s n)) where
  abbrev ns : List ℕ
  ns = chain s

  abbrev new : Bucket
  new = record (bucket_at s n) { records = records_after w (records_at s n) }

  abbrev t : Store
  t = write_record n w s

  here : page_at t n ≡ kinds.Bucket new
  here = page_same s n (kinds.Bucket new) (numbered hash s c ns h n (inl b.0)).1

  other : (m : ℕ) → m ≢ n → page_at t m ≡ page_at s m
  other m apart = page_other s n m (kinds.Bucket new) apart

  shape : (m : ℕ) → HasShapeOf s t m
  shape m = elim (cases_eq m n) [
    | inl same ↦ subst (λ k. HasShapeOf s t k) (sym same) (record {
      live = ap is_bucket here ∙ sym (h.chained.buckets n b.0);
      range = ap (λ (p : PageKind). range_of (bucket_of p)) here;
      next = ap (λ (p : PageKind). (bucket_of p).next) here;
    })
    | inr apart ↦ shape_of_page s t m (other m apart)
  ]

  records_here : records_at t n ≡ records_after w (records_at s n)
  records_here = ap (λ (p : PageKind). (bucket_of p).records) here

  -- the written record has the pseudokey of its key
  placed_here : IsPlaced hash new
  placed_here =
      let was = h.placed n b.0 in
      record {
        within = all_written (λ (p : Pair). Covers (range_at s n) (hash p.key)) w (records_at s n)
            (λ p is. subst (λ (key : RecordKey). Covers (range_at s n) (hash key)) (sym is) b.1) was.within;
        ascends = ascend_written w (records_at s n) may was.ascends;
      }

  placed : (m : ℕ) → Contains ns m → IsPlaced hash (bucket_at t m)
  placed m on = elim (cases_eq m n) [
    | inl same ↦ subst (λ k. IsPlaced hash (bucket_at t k)) (sym same)
        (subst (IsPlaced hash) (sym (ap bucket_of here)) placed_here)
    | inr apart ↦ subst (IsPlaced hash) (sym (ap bucket_of (other m apart))) (h.placed m on)
  ]

  sound_on : IsSoundOn hash t c ns
  sound_on =
      let as_long = length-set s.pages n (kinds.Bucket new) in
      record {
        layout = layout_same s t.pages as_long (shape 0).live h.layout;
        chained = chain_shaped s t.pages ns (λ m on. shape m) h.chained;
        placed = placed;
        spares = h.spares;
        spared = spared_same s t.pages h.spares
            (λ m spare. other m (λ is. live_not_spare hash s c ns h n m b.0 spare (sym is))) h.spared;
        roles = λ m. h.roles m ∙ ap (λ (x : Bool). cond x 1 0) (sym (numbered_same s t.pages as_long m));
        entries = λ i within. entry_shaped s t.pages c ns i (λ m on. shape m) (h.entries i within);
        counts = λ depth within. h.counts depth within
            ∙ ap (λ x. lost c depth + x) (sym (number_shaped s t.pages ns depth (λ m on. shape m)));
        phase = phase_written hash s t c ns n refl other shape idle
            (λ own. live_not_owned hash s c ns h n n b.0 own refl) h.phase;
      }

  is : chain t ≡ ns
  is = chain_is t ns sound_on.layout sound_on.chained

  -- only the key that was written is looked up otherwise
  looked_up : (key : RecordKey) → (m : ℕ) × IsBucketOn s ns (hash key) m →
      lookup key (pairs_on t ns) ≡ cond (is_same (key_of w) key) (value_after w) (contents s key)
  looked_up key (m, at_m) =
      let was = look_at hash s key ns m h.chained h.placed at_m in
      let now = look_at hash t key ns m sound_on.chained placed
      (covers_shaped s t.pages ns (hash key) m (shape m) at_m) in
      elim (cases_eq m n) [
        | inl same ↦ (
            let was' = rw same at was in
            let now' = rw same at now in
            now' ∙ ap (lookup key) records_here ∙ lookup_written w key (records_at s n) may (h.placed n b.0).ascends
            ∙ ap (λ (x : Option (List ℕ)). cond (is_same (key_of w) key) (value_after w) x) (sym was'))
        | inr apart ↦ (
            let others = ap (λ (p : PageKind). lookup key (bucket_of p).records) (other m apart) in
            by_test apart (is_same (key_of w) key) refl (now ∙ others ∙ sym was))
      ]
    where
      by_test : m ≢ n → (x : Bool) → is_same (key_of w) key ≡ x → lookup key (pairs_on t ns) ≡ contents s key →
          lookup key (pairs_on t ns) ≡ cond x (value_after w) (contents s key)
      by_test apart true same rest = absurd (
          let key_is = same_is (key_of w) key same in
          let at_m' : IsBucketOn s ns (hash (key_of w)) m =
          subst (λ (k : RecordKey). IsBucketOn s ns (hash k) m) (sym key_is) at_m in
          apart (bucket_unique s ns (hash (key_of w)) m n h.chained at_m' b))
      by_test apart false same rest = rest

  pub writes_record : KeepsOtherRecords hash s c t w
  writes_record = record {
    sound = sound_by hash t c ns sound_on;
    shapes = shape;
    chain = is;
    contents = λ key. ap (λ (ms : List ℕ). lookup key (pairs_on t ms)) is
        ∙ looked_up key (bucket_found s ns (hash key) h.chained);
    leads = λ m k l. subst (λ (ms : List ℕ). PageLeadsOn t c ms m k) (sym is) (record {
      stands = l.stands;
      reaches = omega (arith, l.reaches, reach_same s t m (shape m) (λ dead. shape (next_at s m)));
    });
  }

  pub record_ways : LengthensWays 0 s c t
  record_ways = ways_by 0 s c t ns sound_on.layout sound_on.chained (λ m k l. omega (
    arith,
    distance_shaped s t.pages ns m k (λ x on. shape x) (reach_same s t m (shape m) (λ dead. shape (next_at s m)))
        (shape m).live,
  ))
