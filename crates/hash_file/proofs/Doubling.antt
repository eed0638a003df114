-- The directory doubles, and halves.
use Rattle.std.proofs.Common.{ℕ, suc, ◌≡◌, ◌+◌, ◌-◌, ◌<◌, ◌≤◌, ◌^◌, ◌==◌, ◌&&◌, List, [], ◌∷◌, length, Bool, true, false, cond, add-one, arith, refl, sym, ap, subst, ◌∙◌, ◌⊎◌, inl, inr, if◌then◌else◌}
use Rattle.std.specs.List.{Contains}
use Rattle.std.proofs.lemmas.Bool.{cases_lt, cases_eq, lt-leb, eq-eqb, both_ways}
use Rattle.std.proofs.Math.Nat.{two-pow-succ, pow-le-pow_right}
use Rattle.directory.proofs.MemberLaws.{contains_cases, contains_none}
use Rattle.directory.proofs.RangeLaws.{covers_above}
use Rattle.bucket_page.specs.declared.record_key.RecordKey.{RecordKey}
use Rattle.bucket_page.specs.directory.Entries.{page_of, is_upper}
use Rattle.hash_file.specs.Store.{Store, entry_at, bucket_at, range_at, count_at}
use Rattle.hash_file.specs.Chain.{chain, IsBucketOn, how_many, number_on}
use Rattle.hash_file.specs.Change.{Change, Quiet, Taken}
use Rattle.hash_file.specs.Sound.{IsSoundOn, IsSoundFile, HasEntry}
use Rattle.hash_file.specs.Changes.{copy_directory, raise_depth, lower_depth}
use Rattle.hash_file.specs.Kept.{KeepsFile}
use Rattle.hash_file.specs.Laws.{IsCopied}
use Rattle.hash_file.proofs.Headed.{layout_headed, chain_headed, spared_headed, keeps_headed, length-mapped, mapped_first}

-- an index of the directory has its entry
pub within_entries : (hash : RecordKey → ℕ) (s : Store) (c : Change) (ns : List ℕ) (i : ℕ) → IsSoundOn hash s c ns →
    i < 2 ^ s.header.depth → i < length s.entries
within_entries hash s c ns i h within =
    let few : 2 ^ s.header.depth ≤ 2 ^ s.layout.greatest = pow-le-pow_right (omega arith) h.layout.depth in
    omega (arith, few, h.layout.entries)

-- an entry of the lower half is no entry of the upper half
lower_stays : (depth page i : ℕ) → i < 2 ^ depth → (page_of i == page && is_upper depth i) ≡ false
lower_stays depth page i low = by_test (page_of i == page)
  where
    by_test : (b : Bool) → (b && is_upper depth i) ≡ false
    by_test true = rw (lt-leb (2 ^ depth) i low) refl
    by_test false = refl

-- copying changes no entry that is read
pub copied_at : (hash : RecordKey → ℕ) (s : Store) (c : Change) (ns : List ℕ) (page i : ℕ) → IsSoundOn hash s c ns →
    i < 2 ^ s.header.depth → entry_at (copy_directory page s) i ≡ entry_at s i
copied_at hash s c ns page i h low =
    mapped_first (λ (j e : ℕ). if page_of j == page && is_upper s.header.depth j
    then entry_at s (j - 2 ^ s.header.depth) else e) i s.entries (within_entries hash s c ns i h low)
    ∙ ap (λ (b : Bool). cond b (entry_at s (i - 2 ^ s.header.depth)) (entry_at s i))
    (lower_stays s.header.depth page i low)

pub copy_directory_keeps : (hash : RecordKey → ℕ) (s : Store) (new page : ℕ) → IsSoundFile hash s (Taken new) →
    KeepsFile hash s (Taken new) (copy_directory page s) (Taken new)
copy_directory_keeps hash s new page h =
    let t = copy_directory page s in
    keeps_headed s s.header t.entries hash (Taken new) (Taken new) (record {
      layout = layout_headed s s.header t.entries (record {
        depth = h.layout.depth;
        slots = length-mapped _ 0 s.entries;
        counts = refl;
        pages = refl;
      }) h.layout;
      chained = chain_headed s s.header t.entries (chain s) h.chained.shallow h.chained;
      placed = h.placed;
      spares = h.spares;
      spared = spared_headed s s.header t.entries h.spares refl h.spared;
      roles = h.roles;
      entries = λ i low. subst (λ n. IsBucketOn s (chain s) i n ⊎ ⊥)
          (sym (copied_at hash s (Taken new) (chain s) page i h low)) (h.entries i low);
      counts = h.counts;
      phase = h.phase;
    }) (λ n off. off)

-- an index of the doubled directory is one of the directory, or one of it and its half
pub raise_depth_keeps : (hash : RecordKey → ℕ) (s : Store) (new : ℕ) → IsSoundFile hash s (Taken new) →
    s.header.depth < s.layout.greatest → IsCopied s → KeepsFile hash s (Taken new) (raise_depth s) (Taken new)
raise_depth_keeps hash s new h room copied =
    let t = raise_depth s in
    keeps_headed s t.header s.entries hash (Taken new) (Taken new) (record {
      layout = layout_headed s t.header s.entries (record {
        depth = omega (arith, room);
        slots = refl;
        counts = refl;
        pages = refl;
      }) h.layout;
      chained = chain_headed s t.header s.entries (chain s) (λ n c. omega (arith, h.chained.shallow n c)) h.chained;
      placed = h.placed;
      spares = h.spares;
      spared = spared_headed s t.header s.entries h.spares refl h.spared;
      roles = h.roles;
      entries = λ i within. at_index i (let w = rw (add-one s.header.depth) at within in w);
      counts = h.counts;
      phase = h.phase;
    }) (λ n off. off)
  where
    upper : (j : ℕ) → j < 2 ^ s.header.depth → HasEntry s (Taken new) (chain s) j →
        HasEntry s (Taken new) (chain s) (j + 2 ^ s.header.depth)
    upper j low (inl b) =
        let same = copied j low in
        inl (subst (λ n. IsBucketOn s (chain s) (j + 2 ^ s.header.depth) n) (sym same)
        (b.0, covers_above (range_at s (entry_at s j)) s.header.depth j (h.chained.shallow (entry_at s j) b.0) b.1))
    upper j low (inr off) = absurd off

    at_index : (i : ℕ) → i < 2 ^ suc s.header.depth → HasEntry s (Taken new) (chain s) i
    at_index i within = elim (cases_lt i (2 ^ s.header.depth)) [
      | inl low ↦ h.entries i low
      | inr high ↦ (
          let twice = two-pow-succ s.header.depth in
          let is : (i - 2 ^ s.header.depth) + 2 ^ s.header.depth ≡ i = omega (arith, high) in
          let low : i - 2 ^ s.header.depth < 2 ^ s.header.depth = omega (arith, within, twice, high) in
          subst (HasEntry s (Taken new) (chain s)) is (upper (i - 2 ^ s.header.depth) low
          (h.entries (i - 2 ^ s.header.depth) low)))
    ]

-- where none is counted none passes the test
none_passes : {X : Type 0} (test : X → Bool) (xs : List X) (x : X) → how_many test xs ≡ 0 → Contains xs x →
    test x ≡ false
none_passes test [] x none c = absurd (contains_none x c)
none_passes test (y ∷ ys) x none c = elim (contains_cases y x ys c) [
  | inl same ↦ rw (← same) (first (test y) refl)
  | inr d ↦ none_passes test ys x (omega (arith, none)) d
]
  where
    first : (b : Bool) → test y ≡ b → b ≡ false
    first true is = absurd (let none' = rw is at none in omega (arith, none'))
    first false is = refl

pub lower_depth_keeps : (hash : RecordKey → ℕ) (s : Store) → IsSoundFile hash s Quiet → 0 < s.header.depth →
    count_at s s.header.depth ≡ 0 → KeepsFile hash s Quiet (lower_depth s) Quiet
lower_depth_keeps hash s h deep none =
    let t = lower_depth s in
    keeps_headed s t.header s.entries hash Quiet Quiet (record {
      layout = layout_headed s t.header s.entries (record {
        depth = omega (arith, h.layout.depth);
        slots = refl;
        counts = refl;
        pages = refl;
      }) h.layout;
      chained = chain_headed s t.header s.entries (chain s) shallow h.chained;
      placed = h.placed;
      spares = h.spares;
      spared = spared_headed s t.header s.entries h.spares refl h.spared;
      roles = h.roles;
      entries = λ i within. h.entries i (
          let fewer : 2 ^ (s.header.depth - 1) ≤ 2 ^ s.header.depth = pow-le-pow_right (omega arith) (omega arith) in
          omega (arith, within, fewer));
      counts = h.counts;
      phase = h.phase;
    }) (λ n off. off)
  where
    number : number_on s (chain s) s.header.depth ≡ 0
    number = omega (arith, h.counts s.header.depth h.layout.depth, none)

    shallow : (n : ℕ) → Contains (chain s) n → (bucket_at s n).depth ≤ s.header.depth - 1
    shallow n c = elim (cases_eq (bucket_at s n).depth s.header.depth) [
      | inl same ↦ absurd (
          let test = none_passes (λ (m : ℕ). (bucket_at s m).depth == s.header.depth) (chain s) n number c in
          both_ways ((bucket_at s n).depth == s.header.depth) test (eq-eqb (bucket_at s n).depth s.header.depth same))
      | inr other ↦ omega (arith, h.chained.shallow n c, other)
    ]
