-- The old bucket keeps its lower half, and the new one joins the chain behind it.
use Rattle.std.proofs.Common.{ℕ, suc, ◌≡◌, ◌≢◌, ◌+◌, ◌-◌, ◌<◌, ◌≤◌, ◌==◌, List, [], ◌∷◌, ◌++◌, Bool, true, false, cond, length, arith, refl, sym, ap, subst, ◌∙◌, inl, inr, if◌then◌else◌}
use Rattle.std.specs.List.{Contains}
use Rattle.std.proofs.lemmas.Bool.{cases_eq, both_ways}
use Rattle.std.proofs.lemmas.List.{length-set}
use Rattle.std.proofs.lemmas.List.Elements.{Contains-append_right}
use Rattle.hash_file.proofs.Names.{AreHalvesOf, Bucket, Change, Covers, Filled, IsBucketOn, IsChain, IsPlaced, IsRange, Linked, POSITIONS, PSEUDOKEY_BITS, PageKind, Range, RecordKey, Store, begun, bucket_at, bucket_of, chain, count_at, entry_at, gained, has_bit, has_bucket, is_bucket, lookup, lost, lower_half, lower_half_of, next_at, number_on, owned, page_at, pairs_on, position_of, range_at, range_of, start_of, times, upper_half, upper_half_of}
use Rattle.directory.proofs.MemberLaws.{contains_head, contains_none, contains_between, contains_grown, contains_new, contains_grown_cases}
use Rattle.directory.proofs.RangeLaws.{range_in_half}
use Rattle.directory.proofs.TileLaws.{tiles_not_before, tiles_not_behind}
use Rattle.directory.proofs.ChangeLaws.{split_tiles, splits_in_place}
use Rattle.directory.proofs.CountLaws.{begun_insert, begun_same, begun_one}
use Rattle.directory.proofs.WalkLaws.{links_insert}
use Rattle.bucket_page.specs.declared.page.PageKind.TheVariants as kinds
use Rattle.hash_file.specs.Search.{reach, PageLeadsOn, distance_on}
use Rattle.hash_file.specs.Sound.{IsSoundOn, IsSoundFile, HasEntry}
use Rattle.hash_file.specs.Changes.{write_old}
use Rattle.hash_file.specs.Kept.{KeepsFile, LengthensWays}
use Rattle.hash_file.proofs.Chains.{chain_valid, bucket_found}
use Rattle.hash_file.proofs.Lists.{how_many_append, how_many_same, twice, times_append}
use Rattle.hash_file.proofs.Lookups.{look_at}
use Rattle.hash_file.proofs.Roles.{thrice, numbered, numbered_positive, live_not_spare, live_not_owned}
use Rattle.hash_file.proofs.Frames.{shape_of_page, reach_same, page_other, page_same, spared_same, numbered_same, layout_same, keeps_by, ways_by}
use Rattle.hash_file.proofs.Halves.{bit_set, bit_clear, range_lower, range_upper, placed_lower, placed_upper, look_lower, look_upper}

module _ (hash : RecordKey → ℕ) (s : Store) (old new : ℕ) (h : IsSoundFile hash s (Filled old new))
    (front back : List ℕ)
    (is : chain s ≡ front ++ old ∷ back) where
  abbrev c : Change
  c = Filled old new

  abbrev d : Change
  d = Linked old new (range_at s old)

  abbrev b : Bucket
  b = bucket_at s old

  abbrev t : Store
  t = write_old hash old new s

  abbrev ns : List ℕ
  ns = front ++ old ∷ back

  abbrev ms : List ℕ
  ms = front ++ old ∷ new ∷ back

  sound : IsSoundOn hash s c ns
  sound = subst (IsSoundOn hash s c) is h

  old_on : Contains ns old
  old_on = Contains-append_right front (old ∷ back) old (contains_head old back)

  new_own : Contains (owned c) new
  new_own = contains_head new []

  apart : old ≢ new
  apart = live_not_owned hash s c ns sound old new old_on new_own

  here : page_at t old ≡ kinds.Bucket (lower_half hash new b)
  here = page_same s old (kinds.Bucket (lower_half hash new b)) (numbered hash s c ns sound old (inl old_on)).1

  other : (m : ℕ) → m ≢ old → page_at t m ≡ page_at s m
  other m far = page_other s old m (kinds.Bucket (lower_half hash new b)) far

  there : page_at t new ≡ kinds.Bucket (upper_half hash b)
  there = other new (λ same. apart (sym same)) ∙ sound.phase.upper

  valid : IsRange (range_at s old)
  valid = chain_valid s ns old sound.chained old_on

  shallow : (range_at s old).depth < PSEUDOKEY_BITS
  shallow = omega (arith, sound.phase.shallow, sound.layout.depth, sound.layout.greatest)

  lower_range : range_at t old ≡ lower_half_of (range_at s old)
  lower_range = ap (λ (p : PageKind). range_of (bucket_of p)) here ∙ range_lower hash new b

  upper_range : range_at t new ≡ upper_half_of (range_at s old)
  upper_range = ap (λ (p : PageKind). range_of (bucket_of p)) there ∙ range_upper hash b

  halves : AreHalvesOf (range_at s old) (range_at t old) (range_at t new)
  halves = record { lower = lower_range; upper = upper_range }

  -- pages before and after the old bucket are other pages
  before_same : (m : ℕ) → Contains front m → page_at t m ≡ page_at s m
  before_same m on = other m (tiles_not_before (range_at s) front old back 0 POSITIONS m sound.chained.tiled on)

  behind_same : (m : ℕ) → Contains back m → page_at t m ≡ page_at s m
  behind_same m on = other m (tiles_not_behind (range_at s) front old back 0 POSITIONS m sound.chained.tiled on)

  -- what stands on the new chain: the old bucket, the new one, and others
  by_page : {P : ℕ → Type 0} (m : ℕ) → Contains ms m → P old → P new → ((n : ℕ) → Contains ns n → n ≢ old → P n) → P m
  by_page {P} m on at_old at_new others = elim (contains_grown_cases front old new back m on) [
    | inl was ↦ elim (cases_eq m old) [ inl same ↦ subst P (sym same) at_old | inr far ↦ others m was far ]
    | inr same ↦ subst P same at_new
  ]

  chained : IsChain t ms
  chained = record {
    linked = links_insert (next_at s) (next_at t) front old new back s.layout.root 0 sound.chained.linked
        (λ m on. ap (λ (p : PageKind). (bucket_of p).next) (before_same m on))
        (λ m on. ap (λ (p : PageKind). (bucket_of p).next) (behind_same m on))
        (ap (λ (p : PageKind). (bucket_of p).next) here) (ap (λ (p : PageKind). (bucket_of p).next) there);
    tiled = split_tiles (range_at s) (range_at t) front old old new back 0 POSITIONS
        (splits_in_place (range_at s) (range_at t) front old new back 0 POSITIONS sound.chained.tiled halves
        (λ m on far. ap (λ (p : PageKind). range_of (bucket_of p)) (other m far)))
        shallow sound.chained.tiled;
    buckets = λ m on. by_page {P = λ n. has_bucket t n ≡ true} m on (ap is_bucket here) (ap is_bucket there)
        (λ n was far. ap is_bucket (other n far) ∙ sound.chained.buckets n was);
    shallow = λ m on. by_page {P = λ n. (bucket_at t n).depth ≤ s.header.depth} m on
        (omega (arith, ap (λ (r : Range). r.depth) lower_range, sound.phase.shallow))
        (omega (arith, ap (λ (r : Range). r.depth) upper_range, sound.phase.shallow))
        (λ n was far. omega (
          arith,
          ap (λ (p : PageKind). (bucket_of p).depth) (other n far),
          sound.chained.shallow n was,
        ));
  }

  placed : (m : ℕ) → Contains ms m → IsPlaced hash (bucket_at t m)
  placed m on = by_page {P = λ n. IsPlaced hash (bucket_at t n)} m on
      (subst (IsPlaced hash) (sym (ap bucket_of here)) (placed_lower hash b (sound.placed old old_on) new))
      (subst (IsPlaced hash) (sym (ap bucket_of there)) (placed_upper hash b (sound.placed old old_on)))
      (λ n was far. subst (IsPlaced hash) (sym (ap bucket_of (other n far))) (sound.placed n was))

  as_long : length t.pages ≡ length s.pages
  as_long = length-set s.pages old (kinds.Bucket (lower_half hash new b))

  -- the new page goes from those owned onto the chain
  moves : (n : ℕ) → times n (ms ++ (sound.spares ++ [])) ≡ times n (ns ++ (sound.spares ++ new ∷ []))
  moves n = omega (
    arith,
    thrice n ms sound.spares [],
    thrice n ns sound.spares (new ∷ []),
    times_append n front (old ∷ new ∷ back),
    times_append n front (old ∷ back),
    times_append n (old ∷ []) (new ∷ back),
    times_append n (old ∷ []) back,
    times_append n (new ∷ []) back,
  )

  entry : (i : ℕ) → HasEntry s c ns i → HasEntry t d ms i
  entry i (inr off) = absurd off
  entry i (inl (on, covers)) = elim (cases_eq (entry_at s i) old) [
    | inl same ↦ (
        let whole : Covers (range_at s old) i = subst (λ n. Covers (range_at s n) i) same covers in
        elim (range_in_half (range_at s old) i valid shallow whole) [
          | inl low ↦ inl (
            contains_grown front old new back (entry_at s i) on,
            subst (λ n. Covers (range_at t n) i) (sym same) (subst (λ (r : Range). Covers r i) (sym lower_range) low),
          )
          | inr high ↦ inr (same, high)
        ])
    | inr far ↦ inl (
      contains_grown front old new back (entry_at s i) on,
      subst (λ (p : PageKind). Covers (range_of (bucket_of p)) i) (sym (other (entry_at s i) far)) covers,
    )
  ]

  -- how many buckets of a depth there are beside the old one and its halves
  number_old : (depth : ℕ) → number_on s ns depth
      ≡ number_on s front depth + (number_on s (old ∷ []) depth + number_on s back depth)
  number_old depth =
      let test = λ (n : ℕ). (bucket_at s n).depth == depth in
      omega (arith, how_many_append test front (old ∷ back), how_many_append test (old ∷ []) back)

  number_new : (depth : ℕ) → number_on t ms depth ≡ number_on s front depth
      + (number_on t (old ∷ []) depth + (number_on t (new ∷ []) depth + number_on s back depth))
  number_new depth =
      let test = λ (n : ℕ). (bucket_at t n).depth == depth in
      let was = λ (n : ℕ). (bucket_at s n).depth == depth in
      omega (
        arith,
        how_many_append test front (old ∷ new ∷ back),
        how_many_append test (old ∷ []) (new ∷ back),
        how_many_append test (new ∷ []) back,
        how_many_same was test front (λ n on. ap (λ (p : PageKind). (bucket_of p).depth == depth) (before_same n on)),
        how_many_same was test back (λ n on. ap (λ (p : PageKind). (bucket_of p).depth == depth) (behind_same n on)),
      )

  counted : (depth : ℕ) → count_at s depth + gained c depth ≡ lost c depth + number_on s ns depth →
      count_at s depth + gained d depth ≡ lost d depth + number_on t ms depth
  counted depth was =
      let one : number_on s (old ∷ []) depth ≡ (if (range_at s old).depth == depth then 1 else 0) = omega arith in
      let low : number_on t (old ∷ []) depth ≡ (if suc (range_at s old).depth == depth then 1 else 0) =
      rw (← ap (λ (r : Range). r.depth) lower_range) (omega arith) in
      let high : number_on t (new ∷ []) depth ≡ (if suc (range_at s old).depth == depth then 1 else 0) =
      rw (← ap (λ (r : Range). r.depth) upper_range) (omega arith) in
      omega (
        arith,
        was,
        one,
        low,
        high,
        twice (suc (range_at s old).depth == depth),
        number_old depth,
        number_new depth,
      )

  sound_on : IsSoundOn hash t d ms
  sound_on = record {
    layout = layout_same s t.pages as_long
        (ap is_bucket (other 0 (numbered_positive hash s c ns sound old (inl old_on)))) sound.layout;
    chained = chained;
    placed = placed;
    spares = sound.spares;
    spared = spared_same s t.pages sound.spares
        (λ m spare. other m (λ same. live_not_spare hash s c ns sound old m old_on spare (sym same))) sound.spared;
    roles = λ n. moves n ∙ sound.roles n ∙ ap (λ (x : Bool). cond x 1 0) (sym (numbered_same s t.pages as_long n));
    entries = λ i within. entry i (sound.entries i within);
    counts = λ depth within. counted depth (sound.counts depth within);
    phase = record {
      old_on = Contains-append_right front (old ∷ new ∷ back) old (contains_head old (new ∷ back));
      new_on = contains_new front old new back;
      next = ap (λ (p : PageKind). (bucket_of p).next) here;
      halves = halves;
    };
  }

  -- a key is looked up in its half as it was in the whole
  looked_up : (key : RecordKey) → (m : ℕ) × IsBucketOn s ns (hash key) m →
      lookup key (pairs_on t ms) ≡ lookup key (pairs_on s ns)
  looked_up key (m, at_m) = elim (cases_eq m old) [
    | inl same ↦ (
        let at_old : IsBucketOn s ns (hash key) old = subst (IsBucketOn s ns (hash key)) same at_m in
        in_half at_old (has_bit b.depth (hash key)) refl
        ∙ sym (look_at hash s key ns old sound.chained sound.placed at_old))
    | inr far ↦ look_at hash t key ms m chained placed (
      contains_grown front old new back m at_m.0,
      subst (λ (p : PageKind). Covers (range_of (bucket_of p)) (hash key)) (sym (other m far)) at_m.1,
    )
        ∙ ap (λ (p : PageKind). lookup key (bucket_of p).records) (other m far)
        ∙ sym (look_at hash s key ns m sound.chained sound.placed at_m)
  ]
    where
      in_half : IsBucketOn s ns (hash key) old → (x : Bool) → has_bit b.depth (hash key) ≡ x →
          lookup key (pairs_on t ms) ≡ lookup key b.records
      in_half at_old true bit =
          look_at hash t key ms new chained placed (
            contains_new front old new back,
            subst (λ (r : Range). Covers r (hash key)) (sym upper_range)
                (bit_set (range_at s old) (hash key) at_old.1 bit),
          )
          ∙ ap (λ (p : PageKind). lookup key (bucket_of p).records) there ∙ look_upper hash b key bit
      in_half at_old false bit =
          look_at hash t key ms old chained placed (
            contains_grown front old new back old old_on,
            subst (λ (r : Range). Covers r (hash key)) (sym lower_range)
                (bit_clear (range_at s old) (hash key) at_old.1 bit),
          )
          ∙ ap (λ (p : PageKind). lookup key (bucket_of p).records) here ∙ look_lower hash b new key bit

  -- each page begins where it began
  live_reach : (n : ℕ) → Contains ns n → reach t n ≡ reach s n
  live_reach n on = elim (cases_eq n old) [
    | inl same ↦ subst (λ m. reach t m ≡ reach s m) (sym same) (
        let now = ap is_bucket here in
        let was = sound.chained.buckets old old_on in
        rw (now, was) (ap (λ (r : Range). position_of r.pattern) lower_range))
    | inr far ↦ reach_same s t n (shape_of_page s t n (other n far))
        (λ dead. absurd (both_ways (has_bucket s n) dead (sound.chained.buckets n on)))
  ]

  split_keeps : KeepsFile hash s c t d
  split_keeps = keeps_by hash s c t d ms sound_on
      (λ key. looked_up key (bucket_found s ns (hash key) sound.chained)
      ∙ ap (λ (xs : List ℕ). lookup key (pairs_on s xs)) (sym is))
      (λ n k l. on_chain n k (subst (λ (xs : List ℕ). PageLeadsOn s c xs n k) is l))
    where
      on_chain : (n k : ℕ) → PageLeadsOn s c ns n k → PageLeadsOn t d ms n k
      on_chain n k l = elim l.stands [
        | inl on ↦ record {
          stands = inl (contains_grown front old new back n on);
          reaches = omega (arith, l.reaches, live_reach n on);
        }
        | inr off ↦ absurd (contains_none n off)
      ]

  -- as many pages begin on the way, and the new one
  begun_split : (p : ℕ) → begun (range_at t) ms p ≡ begun (range_at s) ns p + begun (range_at t) (new ∷ []) p
  begun_split p =
      begun_insert (range_at t) front old new back p
      ∙ ap (λ x. x + begun (range_at t) (new ∷ []) p) (begun_same (range_at s) (range_at t) ns p starts)
    where
      starts : (m : ℕ) → Contains ns m → start_of (range_at t m) ≡ start_of (range_at s m)
      starts m on = elim (cases_eq m old) [
        | inl same ↦ subst (λ x. start_of (range_at t x) ≡ start_of (range_at s x)) (sym same) (ap start_of lower_range)
        | inr far ↦ ap (λ (p : PageKind). start_of (range_of (bucket_of p))) (other m far)
      ]

  split_ways : LengthensWays 1 s c t
  split_ways = ways_by 1 s c t ms sound_on.layout chained
      (λ n k l. subst (λ (xs : List ℕ). distance_on t ms n k ≤ distance_on s xs n k + 1) (sym is)
      (on_chain n k (subst (λ (xs : List ℕ). PageLeadsOn s c xs n k) is l)))
    where
      on_chain : (n k : ℕ) → PageLeadsOn s c ns n k → distance_on t ms n k ≤ distance_on s ns n k + 1
      on_chain n k l = elim l.stands [
        | inl on ↦ (
            let was = sound.chained.buckets n on in
            let now = chained.buckets n (contains_grown front old new back n on) in
            let far : distance_on t ms n k ≡ (begun (range_at s) ns (position_of k) + begun (range_at t) (new ∷ [])
            (position_of k)) - (begun (range_at s) ns (reach s n) + begun (range_at t) (new ∷ []) (reach s n)) + 0 =
            rw (live_reach n on, now, begun_split (position_of k), begun_split (reach s n)) refl in
            let before : distance_on s ns n k
            ≡ begun (range_at s) ns (position_of k) - begun (range_at s) ns (reach s n) + 0 = ap (λ (x : Bool).
            begun (range_at s) ns (position_of k) - begun (range_at s) ns (reach s n) + cond x 0 1) was in
            omega (arith, far, before, begun_one (range_at t) new (position_of k)))
        | inr off ↦ absurd (contains_none n off)
      ]

pub write_old_keeps : (hash : RecordKey → ℕ) (s : Store) (old new : ℕ) → IsSoundFile hash s (Filled old new) →
    KeepsFile hash s (Filled old new) (write_old hash old new s) (Linked old new (range_at s old))
write_old_keeps hash s old new h = at_old (contains_between (chain s) old h.phase.old_on)
  where
    at_old : (front : List ℕ) × (back : List ℕ) × (chain s ≡ front ++ old ∷ back) →
        KeepsFile hash s (Filled old new) (write_old hash old new s) (Linked old new (range_at s old))
    at_old (front, back, is) = split_keeps hash s old new h front back is

pub write_old_ways : (hash : RecordKey → ℕ) (s : Store) (old new : ℕ) → IsSoundFile hash s (Filled old new) →
    LengthensWays 1 s (Filled old new) (write_old hash old new s)
write_old_ways hash s old new h = at_old (contains_between (chain s) old h.phase.old_on)
  where
    at_old : (front : List ℕ) × (back : List ℕ) × (chain s ≡ front ++ old ∷ back) →
        LengthensWays 1 s (Filled old new) (write_old hash old new s)
    at_old (front, back, is) = split_ways hash s old new h front back is
