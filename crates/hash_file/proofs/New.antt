-- A new file is sound.
use Rattle.std.proofs.Common.{ℕ, zero, suc, ◌≡◌, ◌+◌, ◌-◌, ◌<◌, ◌≤◌, ◌^◌, ◌==◌, List, [], ◌∷◌, ◌++◌, true, length, ltb, arith, refl, sym, ap, subst, ◌∙◌, inl, inr, if◌then◌else◌}
use Rattle.std.specs.List.{Contains}
use Rattle.std.proofs.lemmas.Bool.{cases_lt, cases_eq, eq-eqb, ne_eqb, le-leb, lt-leb, lt-ltb, le-ltb}
use Rattle.directory.specs.declared.range.Range.{Range}
use Rattle.directory.specs.Ranges.{Covers, whole_range}
use Rattle.directory.specs.Links.{Links}
use Rattle.directory.proofs.MemberLaws.{contains_head, contains_cases, contains_none}
use Rattle.directory.proofs.TileLaws.{tiles_whole}
use Rattle.bucket_page.specs.declared.record_key.RecordKey.{RecordKey}
use Rattle.bucket_page.specs.declared.page.PageKind.{PageKind}
use Rattle.bucket_page.specs.declared.page.PageKind.TheVariants as kinds
use Rattle.bucket_page.specs.Records.{lookup}
use Rattle.hash_file.specs.Store.{Store, page_at, is_bucket, bucket_of, range_of, has_bucket, bucket_at, range_at, records_at, next_at}
use Rattle.hash_file.specs.Chain.{IsChain, IsPlaced, times, number_on, pairs_on}
use Rattle.hash_file.specs.Change.{Quiet}
use Rattle.hash_file.specs.Sound.{IsSoundOn, HasEntry, is_numbered}
use Rattle.hash_file.specs.New.{IsNew, IsSoundWithRecords, follower}
use Rattle.hash_file.proofs.Chains.{chain_is}
use Rattle.hash_file.proofs.Frames.{sound_by}
use Rattle.hash_file.proofs.Lists.{lookup_before}
use Rattle.hash_file.proofs.Roles.{thrice}

-- so many numbers, from the first on
numbers : ℕ → ℕ → List ℕ
numbers a zero = []
numbers a (suc n) = a ∷ numbers (suc a) n

bounds : (a n m : ℕ) → Contains (numbers a n) m → (a ≤ m) × (m < a + n)
unfolding numbers
bounds a zero m c = absurd (contains_none m c)
bounds a (suc n) m c = elim (contains_cases a m (numbers (suc a) n) c) [
  | inl same ↦ (omega (arith, same), omega (arith, same))
  | inr d ↦ (let b = bounds (suc a) n m d in (omega (arith, b.0), omega (arith, b.1)))
]

times_low : (a n m : ℕ) → m < a → times m (numbers a n) ≡ 0
unfolding numbers
times_low a zero m low = refl
times_low a (suc n) m low =
    rw (ne_eqb a m (omega (arith, low))) (omega (arith, times_low (suc a) n m (omega (arith, low))))

times_high : (a n m : ℕ) → a + n ≤ m → times m (numbers a n) ≡ 0
unfolding numbers
times_high a zero m high = refl
times_high a (suc n) m high =
    rw (ne_eqb a m (omega (arith, high))) (omega (arith, times_high (suc a) n m (omega (arith, high))))

times_in : (a n m : ℕ) → a ≤ m → m < a + n → times m (numbers a n) ≡ 1
unfolding numbers
times_in a zero m low high = absurd (omega (arith, low, high))
times_in a (suc n) m low high = elim (cases_eq a m) [
  | inl same ↦ rw (eq-eqb a m same) (omega (arith, times_low (suc a) n m (omega (arith, same))))
  | inr other ↦ rw (ne_eqb a m other)
      (omega (arith, times_in (suc a) n m (omega (arith, low, other)) (omega (arith, high))))
]

-- pages that name their followers are linked to the last
linked_on : (s : Store) (a n first : ℕ) → a + n ≡ length s.pages →
    ((m : ℕ) → a ≤ m → m < length s.pages → next_at s m ≡ follower s m) →
    first ≡ (if ltb a (length s.pages) then a else 0) → Links (next_at s) first (numbers a n) 0
unfolding numbers
linked_on s a zero first all next is =
    let none = rw (le-ltb a (length s.pages) (omega (arith, all))) at is in none
linked_on s a (suc n) first all next is =
    let here = rw (lt-ltb a (length s.pages) (omega (arith, all))) at is in (
      here,
      linked_on s (suc a) n (next_at s a) (omega (arith, all)) (λ m low high. next m (omega (arith, low)) high)
          (next a (omega arith) (omega (arith, all))),
    )

module _ (hash : RecordKey → ℕ) (s : Store) (new : IsNew hash s) where
  abbrev root : ℕ
  root = s.layout.root

  abbrev spares : List ℕ
  spares = numbers (suc s.layout.root) (length s.pages - suc s.layout.root)

  one : (P : ℕ → Type 0) (n : ℕ) → P s.layout.root → Contains (s.layout.root ∷ []) n → P n
  one P n p c = elim (contains_cases s.layout.root n [] c) [
    | inl same ↦ subst P same p
    | inr d ↦ absurd (contains_none n d)
  ]

  whole : range_at s s.layout.root ≡ whole_range
  whole = ap (λ (p : PageKind). range_of (bucket_of p)) new.root

  chained : IsChain s (s.layout.root ∷ [])
  chained = record {
    linked = (refl, ap (λ (p : PageKind). (bucket_of p).next) new.root);
    tiled = tiles_whole (range_at s) s.layout.root whole;
    buckets = λ n c. one (λ m. has_bucket s m ≡ true) n (ap is_bucket new.root) c;
    shallow = λ n c. one (λ m. (bucket_at s m).depth ≤ s.header.depth) n
        (omega (arith, ap (λ (r : Range). r.depth) whole)) c;
  }

  spare : (n : ℕ) → Contains spares n → page_at s n ≡ kinds.Free (follower s n)
  spare n c =
      let b = bounds (suc s.layout.root) (length s.pages - suc s.layout.root) n c in
      new.free n (omega (arith, b.0)) (omega (arith, b.1, new.within))

  role : (n : ℕ) → times n ((s.layout.root ∷ []) ++ (spares ++ [])) ≡ (if is_numbered s n then 1 else 0)
  role n =
      let sum = thrice n (s.layout.root ∷ []) spares [] in
      elim (cases_lt n s.layout.root) [
        | inl low ↦ (
            let off = times_low (suc s.layout.root) (length s.pages - suc s.layout.root) n (omega (arith, low)) in
            let alone : times n (s.layout.root ∷ []) ≡ 0 = rw (ne_eqb s.layout.root n (omega (arith, low))) refl in
            rw (lt-leb s.layout.root n low) (omega (arith, sum, off, alone)))
        | inr from ↦ elim (cases_lt n (length s.pages)) [
          | inl within ↦ elim (cases_eq s.layout.root n) [
            | inl same ↦ (
                let off = times_low (suc s.layout.root) (length s.pages - suc s.layout.root) n (omega (arith, same)) in
                let alone : times n (s.layout.root ∷ []) ≡ 1 = rw (eq-eqb s.layout.root n same) refl in
                rw (le-leb s.layout.root n from, lt-ltb n (length s.pages) within) (omega (arith, sum, off, alone)))
            | inr other ↦ (
                let on = times_in (suc s.layout.root) (length s.pages - suc s.layout.root) n
                (omega (arith, from, other))
                (omega (arith, within, new.within)) in
                let alone : times n (s.layout.root ∷ []) ≡ 0 = rw (ne_eqb s.layout.root n other) refl in
                rw (le-leb s.layout.root n from, lt-ltb n (length s.pages) within) (omega (arith, sum, on, alone)))
          ]
          | inr beyond ↦ (
              let off = times_high (suc s.layout.root) (length s.pages - suc s.layout.root) n
              (omega (arith, beyond, new.within)) in
              let alone : times n (s.layout.root ∷ []) ≡ 0 =
              rw (ne_eqb s.layout.root n (omega (arith, beyond, new.within))) refl in
              rw (le-leb s.layout.root n from, le-ltb n (length s.pages) beyond) (omega (arith, sum, off, alone)))
        ]
      ]

  entry : (i : ℕ) → i < 2 ^ s.header.depth → HasEntry s Quiet (s.layout.root ∷ []) i
  entry i low =
      let few = rw (new.depth) at low in
      let zeroth : 0 ≡ i = omega (arith, few) in
      subst (λ j. HasEntry s Quiet (s.layout.root ∷ []) j) zeroth (inl (
        subst (Contains (s.layout.root ∷ [])) (sym new.entry) (contains_head s.layout.root []),
        subst (λ n. Covers (range_at s n) 0) (sym new.entry) (subst (λ (r : Range). Covers r 0) (sym whole) refl),
      ))

  sound_on : IsSoundOn hash s Quiet (s.layout.root ∷ [])
  sound_on = record {
    layout = new.layout;
    chained = chained;
    placed = λ n c. one (λ m. IsPlaced hash (bucket_at s m)) n new.placed c;
    spares = spares;
    spared = record {
      linked = linked_on s (suc s.layout.root) (length s.pages - suc s.layout.root) s.header.first_free
          (omega (arith, new.within))
          (λ m low high. ap (λ (p : PageKind). (bucket_of p).next) (new.free m low high)) new.first_free;
      free = λ n c. spare n c ∙ sym (ap (λ (p : PageKind). kinds.Free (bucket_of p).next) (spare n c));
    };
    roles = role;
    entries = entry;
    counts = λ depth within.
        let alone : number_on s (s.layout.root ∷ []) depth ≡ (if 0 == depth then 1 else 0) =
        ap (λ (r : Range). (if r.depth == depth then 1 else 0) + 0) whole ∙ omega arith in
        omega (arith, new.counts depth within, alone);
    phase = tt;
  }

  pub new_sound : IsSoundWithRecords hash s
  new_sound = record {
    sound = sound_by hash s Quiet (s.layout.root ∷ []) sound_on;
    contents = λ key. ap (λ (ns : List ℕ). lookup key (pairs_on s ns))
        (chain_is s (s.layout.root ∷ []) sound_on.layout sound_on.chained)
        ∙ lookup_before key (records_at s s.layout.root) [] refl;
  }
