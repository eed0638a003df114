-- The left bucket takes the range and the records of the right one, which is taken off the chain.
use Rattle.std.proofs.Common.{ℕ, suc, ◌≡◌, ◌≢◌, ◌+◌, ◌-◌, ◌<◌, ◌≤◌, ◌==◌, List, [], ◌∷◌, ◌++◌, Bool, true, cond, length, arith, refl, sym, ap, subst, ◌∙◌, inl, inr, if◌then◌else◌}
use Rattle.std.specs.List.{Contains}
use Rattle.std.proofs.lemmas.Bool.{cases_eq, both_ways}
use Rattle.std.proofs.lemmas.List.{length-set}
use Rattle.std.proofs.lemmas.List.Elements.{Contains-append_right}
use Rattle.hash_file.proofs.Names.{Absorbed, AreHalvesOf, AreNeighbours, Bucket, Change, Covers, IsBucketOn, IsChain, IsPlaced, IsRange, POSITIONS, PSEUDOKEY_BITS, PageKind, PageLeadsOn, Quiet, Range, RecordKey, Store, begun, bucket_at, bucket_of, chain, count_at, distance_on, entry_at, gained, has_bucket, is_bucket, joined, lookup, lost, lower_half_of, next_at, number_on, page_at, pairs_on, position_of, range_at, range_of, reach, start_of, times, upper_half_of}
use Rattle.directory.proofs.MemberLaws.{contains_head, contains_tail, contains_none, contains_grown, contains_new, contains_grown_cases}
use Rattle.directory.proofs.RangeLaws.{halved_valid, half_in_range}
use Rattle.directory.proofs.TileLaws.{tiles_not_before, tiles_not_behind}
use Rattle.directory.proofs.ChangeLaws.{join_tiles, joins_in_place, halves_neighbours}
use Rattle.directory.proofs.CountLaws.{begun_insert, begun_same, begun_rises}
use Rattle.directory.proofs.WalkLaws.{links_remove}
use Rattle.bucket_page.specs.declared.page.PageKind.TheVariants as kinds
use Rattle.hash_file.specs.Phases.{IsAbsorbed}
use Rattle.hash_file.specs.Sound.{IsSoundOn, IsSoundFile, HasEntry}
use Rattle.hash_file.specs.Changes.{write_left}
use Rattle.hash_file.specs.Kept.{KeepsFile, LengthensWays}
use Rattle.hash_file.proofs.Chains.{chain_valid, bucket_found}
use Rattle.hash_file.proofs.Lists.{how_many_append, how_many_same, twice, times_append, contains_is}
use Rattle.hash_file.proofs.Lookups.{look_at}
use Rattle.hash_file.proofs.Roles.{thrice, numbered, numbered_positive, live_not_spare}
use Rattle.hash_file.proofs.Frames.{shape_of_page, reach_same, page_other, page_same, spared_same, numbered_same, layout_same, keeps_by, ways_by}
use Rattle.hash_file.proofs.Joins.{range_joined, joined_left, joined_right, placed_joined}

module _ (hash : RecordKey → ℕ) (s : Store) (left right : ℕ) (whole : Range) (h : IsSoundFile hash s Quiet)
    (halves : AreHalvesOf whole (range_at s left) (range_at s right)) (front back : List ℕ)
    (is : chain s ≡ front ++ left ∷ right ∷ back) where
  abbrev d : Change
  d = Absorbed left right whole

  abbrev x : Bucket
  x = bucket_at s left

  abbrev y : Bucket
  y = bucket_at s right

  abbrev t : Store
  t = write_left left right s

  abbrev ns : List ℕ
  ns = front ++ left ∷ right ∷ back

  abbrev ms : List ℕ
  ms = front ++ left ∷ back

  sound : IsSoundOn hash s Quiet ns
  sound = subst (IsSoundOn hash s Quiet) is h

  left_on : Contains ns left
  left_on = Contains-append_right front (left ∷ right ∷ back) left (contains_head left (right ∷ back))

  right_on : Contains ns right
  right_on = contains_new front left right back

  -- the left page stands on the chain once
  apart : right ≢ left
  apart = tiles_not_behind (range_at s) front left (right ∷ back) 0 POSITIONS right sound.chained.tiled
      (contains_head right back)

  right_valid : IsRange (upper_half_of whole)
  right_valid = subst IsRange halves.upper (chain_valid s ns right sound.chained right_on)

  valid : IsRange whole
  valid = (halved_valid whole right_valid).0

  shallow : whole.depth < PSEUDOKEY_BITS
  shallow = (halved_valid whole right_valid).1

  here : page_at t left ≡ kinds.Bucket (joined x y)
  here = page_same s left (kinds.Bucket (joined x y)) (numbered hash s Quiet ns sound left (inl left_on)).1

  other : (m : ℕ) → m ≢ left → page_at t m ≡ page_at s m
  other m far = page_other s left m (kinds.Bucket (joined x y)) far

  left_range : range_at t left ≡ whole
  left_range = ap (λ (p : PageKind). range_of (bucket_of p)) here ∙ range_joined x y whole halves

  right_range : range_at t right ≡ upper_half_of whole
  right_range = ap (λ (p : PageKind). range_of (bucket_of p)) (other right apart) ∙ halves.upper

  before_same : (m : ℕ) → Contains front m → page_at t m ≡ page_at s m
  before_same m on =
      other m (tiles_not_before (range_at s) front left (right ∷ back) 0 POSITIONS m sound.chained.tiled on)

  behind_same : (m : ℕ) → Contains back m → page_at t m ≡ page_at s m
  behind_same m on = other m (tiles_not_behind (range_at s) front left (right ∷ back) 0 POSITIONS m
      sound.chained.tiled (contains_tail right m back on))

  -- what stands on the new chain: the left bucket, and others
  by_page : {P : ℕ → Type 0} (m : ℕ) → Contains ms m → P left → ((n : ℕ) → Contains ns n → n ≢ left → P n) → P m
  by_page {P} m on at_left others = elim (cases_eq m left) [
    | inl same ↦ subst P (sym same) at_left
    | inr far ↦ others m (contains_grown front left right back m on) far
  ]

  -- ---- the records of both

  look_left : (key : RecordKey) → Covers (lower_half_of whole) (hash key) →
      lookup key (joined x y).records ≡ lookup key x.records
  look_left = joined_left hash x y whole halves (sound.placed left left_on) (sound.placed right right_on) valid shallow

  look_right : (key : RecordKey) → Covers (upper_half_of whole) (hash key) →
      lookup key (joined x y).records ≡ lookup key y.records
  look_right =
      joined_right hash x y whole halves (sound.placed left left_on) (sound.placed right right_on) valid shallow

  placed_here : IsPlaced hash (joined x y)
  placed_here =
      placed_joined hash x y whole halves (sound.placed left left_on) (sound.placed right right_on) valid shallow

  of_left : (k : ℕ) → Covers (range_at s left) k → Covers (lower_half_of whole) k
  of_left k c = subst (λ (r : Range). Covers r k) halves.lower c

  of_right : (k : ℕ) → Covers (range_at s right) k → Covers (upper_half_of whole) k
  of_right k c = subst (λ (r : Range). Covers r k) halves.upper c

  -- ---- the chain

  chained : IsChain t ms
  chained = record {
    linked = links_remove (next_at s) (next_at t) front left right back s.layout.root 0 sound.chained.linked
        (λ m on. ap (λ (p : PageKind). (bucket_of p).next) (before_same m on))
        (λ m on. ap (λ (p : PageKind). (bucket_of p).next) (behind_same m on))
        (ap (λ (p : PageKind). (bucket_of p).next) here);
    tiled = join_tiles (range_at s) (range_at t) front left left right back 0 POSITIONS
        (joins_in_place (range_at s) (range_at t) front left right back 0 POSITIONS sound.chained.tiled
        (subst (λ (r : Range). AreHalvesOf r (range_at s left) (range_at s right)) (sym left_range) halves)
        (λ m on far. ap (λ (p : PageKind). range_of (bucket_of p)) (other m far)))
        sound.chained.tiled;
    buckets = λ m on. by_page {P = λ n. has_bucket t n ≡ true} m on (ap is_bucket here)
        (λ n was far. ap is_bucket (other n far) ∙ sound.chained.buckets n was);
    shallow = λ m on. by_page {P = λ n. (bucket_at t n).depth ≤ s.header.depth} m on
        (omega (
          arith,
          ap (λ (r : Range). r.depth) left_range,
          ap (λ (r : Range). r.depth) halves.lower,
          sound.chained.shallow left left_on,
        ))
        (λ n was far. omega (
          arith,
          ap (λ (p : PageKind). (bucket_of p).depth) (other n far),
          sound.chained.shallow n was,
        ));
  }

  placed : (m : ℕ) → Contains ms m → IsPlaced hash (bucket_at t m)
  placed m on = by_page {P = λ n. IsPlaced hash (bucket_at t n)} m on
      (subst (IsPlaced hash) (sym (ap bucket_of here)) placed_here)
      (λ n was far. subst (IsPlaced hash) (sym (ap bucket_of (other n far))) (sound.placed n was))

  as_long : length t.pages ≡ length s.pages
  as_long = length-set s.pages left (kinds.Bucket (joined x y))

  -- the right page goes from the chain to those owned
  moves : (n : ℕ) → times n (ms ++ (sound.spares ++ right ∷ [])) ≡ times n (ns ++ (sound.spares ++ []))
  moves n = omega (
    arith,
    thrice n ms sound.spares (right ∷ []),
    thrice n ns sound.spares [],
    times_append n front (left ∷ right ∷ back),
    times_append n front (left ∷ back),
    times_append n (left ∷ []) (right ∷ back),
    times_append n (left ∷ []) back,
    times_append n (right ∷ []) back,
  )

  kept_on : Contains ms left
  kept_on = Contains-append_right front (left ∷ back) left (contains_head left back)

  entry : (i : ℕ) → HasEntry s Quiet ns i → HasEntry t d ms i
  entry i (inr off) = absurd off
  entry i (inl (on, covers)) = elim (contains_grown_cases front left right back (entry_at s i) on) [
    | inr same ↦ inr (
      sym same,
      of_right i (subst (λ n. Covers (range_at s n) i) (sym same) covers),
    )
    | inl stays ↦ elim (cases_eq (entry_at s i) left) [
      | inl same ↦ (
          let low = of_left i (subst (λ n. Covers (range_at s n) i) same covers) in
          inl (
            stays,
            subst (λ n. Covers (range_at t n) i) (sym same) (subst (λ (r : Range). Covers r i) (sym left_range)
                (half_in_range whole i valid shallow (inl low))),
          ))
      | inr far ↦ inl (
        stays,
        subst (λ (p : PageKind). Covers (range_of (bucket_of p)) i) (sym (other (entry_at s i) far)) covers,
      )
    ]
  ]

  number_old : (depth : ℕ) → number_on s ns depth ≡ number_on s front depth
      + (number_on s (left ∷ []) depth + (number_on s (right ∷ []) depth + number_on s back depth))
  number_old depth =
      let test = λ (n : ℕ). (bucket_at s n).depth == depth in
      omega (
        arith,
        how_many_append test front (left ∷ right ∷ back),
        how_many_append test (left ∷ []) (right ∷ back),
        how_many_append test (right ∷ []) back,
      )

  number_new : (depth : ℕ) → number_on t ms depth
      ≡ number_on s front depth + (number_on t (left ∷ []) depth + number_on s back depth)
  number_new depth =
      let test = λ (n : ℕ). (bucket_at t n).depth == depth in
      let was = λ (n : ℕ). (bucket_at s n).depth == depth in
      omega (
        arith,
        how_many_append test front (left ∷ back),
        how_many_append test (left ∷ []) back,
        how_many_same was test front (λ n on. ap (λ (p : PageKind). (bucket_of p).depth == depth) (before_same n on)),
        how_many_same was test back (λ n on. ap (λ (p : PageKind). (bucket_of p).depth == depth) (behind_same n on)),
      )

  counted : (depth : ℕ) → count_at s depth + 0 ≡ 0 + number_on s ns depth →
      count_at s depth + gained d depth ≡ lost d depth + number_on t ms depth
  counted depth was =
      let low : number_on s (left ∷ []) depth ≡ (if suc whole.depth == depth then 1 else 0) =
      rw (← ap (λ (r : Range). r.depth) halves.lower) (omega arith) in
      let high : number_on s (right ∷ []) depth ≡ (if suc whole.depth == depth then 1 else 0) =
      rw (← ap (λ (r : Range). r.depth) halves.upper) (omega arith) in
      let one : number_on t (left ∷ []) depth ≡ (if whole.depth == depth then 1 else 0) =
      rw (← ap (λ (r : Range). r.depth) left_range) (omega arith) in
      omega (
        arith,
        was,
        low,
        high,
        one,
        twice (suc whole.depth == depth),
        number_old depth,
        number_new depth,
      )

  phase : IsAbsorbed hash t ms left right whole
  phase = record {
    left_on = kept_on;
    shallow = omega (arith, sound.chained.shallow left left_on, ap (λ (r : Range). r.depth) halves.lower);
    joined = left_range;
    stands = ap is_bucket (other right apart) ∙ sound.chained.buckets right right_on;
    upper = right_range;
    next = ap (λ (p : PageKind). (bucket_of p).next) (other right apart)
        ∙ sym (ap (λ (p : PageKind). (bucket_of p).next) here);
    same = λ key high. ap (λ (p : PageKind). lookup key (bucket_of p).records) (other right apart)
        ∙ sym (look_right key high) ∙ sym (ap (λ (p : PageKind). lookup key (bucket_of p).records) here);
  }

  sound_on : IsSoundOn hash t d ms
  sound_on = record {
    layout = layout_same s t.pages as_long
        (ap is_bucket (other 0 (numbered_positive hash s Quiet ns sound left (inl left_on)))) sound.layout;
    chained = chained;
    placed = placed;
    spares = sound.spares;
    spared = spared_same s t.pages sound.spares
        (λ m spare. other m (λ same. live_not_spare hash s Quiet ns sound left m left_on spare (sym same)))
        sound.spared;
    roles = λ n. moves n ∙ sound.roles n ∙ ap (λ (b : Bool). cond b 1 0) (sym (numbered_same s t.pages as_long n));
    entries = λ i within. entry i (sound.entries i within);
    counts = λ depth within. counted depth (sound.counts depth within);
    phase = phase;
  }

  -- a key is looked up in both as it was in its own
  looked_up : (key : RecordKey) → (m : ℕ) × IsBucketOn s ns (hash key) m →
      lookup key (pairs_on t ms) ≡ lookup key (pairs_on s ns)
  looked_up key (m, at_m) = elim (contains_grown_cases front left right back m at_m.0) [
    | inr same ↦ (
        let at_right : IsBucketOn s ns (hash key) right = subst (IsBucketOn s ns (hash key)) (sym same) at_m in
        let high = of_right (hash key) at_right.1 in
        in_left (half_in_range whole (hash key) valid shallow (inr high)) ∙ look_right key high
        ∙ sym (look_at hash s key ns right sound.chained sound.placed at_right))
    | inl stays ↦ elim (cases_eq m left) [
      | inl same ↦ (
          let at_left : IsBucketOn s ns (hash key) left = subst (IsBucketOn s ns (hash key)) same at_m in
          let low = of_left (hash key) at_left.1 in
          in_left (half_in_range whole (hash key) valid shallow (inl low)) ∙ look_left key low
          ∙ sym (look_at hash s key ns left sound.chained sound.placed at_left))
      | inr far ↦ look_at hash t key ms m chained placed (
        stays,
        subst (λ (p : PageKind). Covers (range_of (bucket_of p)) (hash key)) (sym (other m far)) at_m.1,
      )
          ∙ ap (λ (p : PageKind). lookup key (bucket_of p).records) (other m far)
          ∙ sym (look_at hash s key ns m sound.chained sound.placed at_m)
    ]
  ]
    where
      in_left : Covers whole (hash key) → lookup key (pairs_on t ms) ≡ lookup key (joined x y).records
      in_left covers =
          look_at hash t key ms left chained placed
          (kept_on, subst (λ (r : Range). Covers r (hash key)) (sym left_range) covers)
          ∙ ap (λ (p : PageKind). lookup key (bucket_of p).records) here

  -- each page begins where it began
  live_reach : (n : ℕ) → Contains ns n → reach t n ≡ reach s n
  live_reach n on = elim (cases_eq n left) [
    | inl same ↦ subst (λ m. reach t m ≡ reach s m) (sym same) (
        let now = ap is_bucket here in
        let was = sound.chained.buckets left left_on in
        let pattern = ap (λ (r : Range). r.pattern) left_range ∙ sym (ap (λ (r : Range). r.pattern) halves.lower) in
        rw (now, was) (ap position_of pattern))
    | inr far ↦ reach_same s t n (shape_of_page s t n (other n far))
        (λ dead. absurd (both_ways (has_bucket s n) dead (sound.chained.buckets n on)))
  ]

  merge_keeps : KeepsFile hash s Quiet t d
  merge_keeps = keeps_by hash s Quiet t d ms sound_on
      (λ key. looked_up key (bucket_found s ns (hash key) sound.chained)
      ∙ ap (λ (xs : List ℕ). lookup key (pairs_on s xs)) (sym is))
      (λ n k l. on_chain n k (subst (λ (xs : List ℕ). PageLeadsOn s Quiet xs n k) is l))
    where
      on_chain : (n k : ℕ) → PageLeadsOn s Quiet ns n k → PageLeadsOn t d ms n k
      on_chain n k l = elim l.stands [
        | inl on ↦ record {
          stands = elim (contains_grown_cases front left right back n on) [
            | inl stays ↦ inl stays
            | inr same ↦ inr (contains_is [] same)
          ];
          reaches = omega (arith, l.reaches, live_reach n on);
        }
        | inr off ↦ absurd (contains_none n off)
      ]

  -- fewer pages begin on the way by the right one
  begun_merge : (p : ℕ) → begun (range_at s) ns p ≡ begun (range_at t) ms p + begun (range_at s) (right ∷ []) p
  begun_merge p =
      begun_insert (range_at s) front left right back p
      ∙ ap (λ n. n + begun (range_at s) (right ∷ []) p) (sym (begun_same (range_at s) (range_at t) ms p starts))
    where
      starts : (m : ℕ) → Contains ms m → start_of (range_at t m) ≡ start_of (range_at s m)
      starts m on = by_page {P = λ n. start_of (range_at t n) ≡ start_of (range_at s n)} m on
          (ap start_of left_range ∙ sym (ap start_of halves.lower))
          (λ n was far. ap (λ (p : PageKind). start_of (range_of (bucket_of p))) (other n far))

  merge_ways : LengthensWays 0 s Quiet t
  merge_ways = ways_by 0 s Quiet t ms sound_on.layout chained
      (λ n k l. subst (λ (xs : List ℕ). distance_on t ms n k ≤ distance_on s xs n k + 0) (sym is)
      (on_chain n k (subst (λ (xs : List ℕ). PageLeadsOn s Quiet xs n k) is l)))
    where
      live : (n : ℕ) → Contains ns n → has_bucket t n ≡ true
      live n on = elim (cases_eq n left) [
        | inl same ↦ subst (λ m. has_bucket t m ≡ true) (sym same) (ap is_bucket here)
        | inr far ↦ ap is_bucket (other n far) ∙ sound.chained.buckets n on
      ]

      on_chain : (n k : ℕ) → PageLeadsOn s Quiet ns n k → distance_on t ms n k ≤ distance_on s ns n k + 0
      on_chain n k l = elim l.stands [
        | inl on ↦ (
            let now : distance_on t ms n k
            ≡ begun (range_at t) ms (position_of k) - begun (range_at t) ms (reach s n) + 0 =
            rw (live_reach n on, live n on) refl in
            let was : distance_on s ns n k
            ≡ begun (range_at s) ns (position_of k) - begun (range_at s) ns (reach s n) + 0 = ap (λ (b : Bool).
            begun (range_at s) ns (position_of k) - begun (range_at s) ns (reach s n) + cond b 0 1)
            (sound.chained.buckets n on) in
            let rises = begun_rises (range_at s) (right ∷ []) (reach s n) (position_of k) l.reaches in
            omega (arith, now, was, begun_merge (position_of k), begun_merge (reach s n), rises))
        | inr off ↦ absurd (contains_none n off)
      ]

pub write_left_keeps : (hash : RecordKey → ℕ) (s : Store) (left right : ℕ) (whole : Range) → IsSoundFile hash s Quiet →
    Contains (chain s) left → Contains (chain s) right → AreHalvesOf whole (range_at s left) (range_at s right) →
    KeepsFile hash s Quiet (write_left left right s) (Absorbed left right whole)
write_left_keeps hash s left right whole h on_left on_right halves =
    beside
    (halves_neighbours (range_at s) (chain s) 0 POSITIONS whole left right h.chained.tiled on_left on_right halves)
  where
    beside : AreNeighbours (chain s) left right →
        KeepsFile hash s Quiet (write_left left right s) (Absorbed left right whole)
    beside (front, back, is) = merge_keeps hash s left right whole h halves front back is

pub write_left_ways : (hash : RecordKey → ℕ) (s : Store) (left right : ℕ) (whole : Range) → IsSoundFile hash s Quiet →
    Contains (chain s) left → Contains (chain s) right → AreHalvesOf whole (range_at s left) (range_at s right) →
    LengthensWays 0 s Quiet (write_left left right s)
write_left_ways hash s left right whole h on_left on_right halves =
    beside
    (halves_neighbours (range_at s) (chain s) 0 POSITIONS whole left right h.chained.tiled on_left on_right halves)
  where
    beside : AreNeighbours (chain s) left right → LengthensWays 0 s Quiet (write_left left right s)
    beside (front, back, is) = merge_ways hash s left right whole h halves front back is
