-- The entries of a range come to name their bucket, and the counts catch up.
use Rattle.std.proofs.Common.{ℕ, suc, ◌≡◌, ◌≢◌, ◌+◌, ◌-◌, ◌<◌, ◌^◌, ◌==◌, ◌%◌, ◌&&◌, List, length, Bool, true, false, cond, slice_index_or, slice_set, arith, refl, sym, ap, subst, ◌∙◌, ◌⊎◌, inl, inr, if◌then◌else◌}
use Rattle.std.proofs.lemmas.Bool.{cases_eq, eq-eqb, ne_eqb, eqb-true}
use Rattle.std.proofs.lemmas.List.{get_or-set_same, get_or-set_other, length-set}
use Rattle.directory.specs.declared.pseudokey.TheConstants.{PSEUDOKEY_BITS}
use Rattle.directory.specs.declared.range.Range.{Range}
use Rattle.directory.specs.Ranges.{IsRange, Covers, upper_half_of}
use Rattle.directory.proofs.RangeLaws.{half_in_range}
use Rattle.bucket_page.specs.declared.record_key.RecordKey.{RecordKey}
use Rattle.bucket_page.proofs.of_numbers.Tests.{both_true}
use Rattle.bucket_page.specs.directory.Entries.{page_of, is_in_range}
use Rattle.hash_file.specs.Store.{Store, entry_at, count_at}
use Rattle.hash_file.specs.Chain.{chain, IsBucketOn, number_on}
use Rattle.hash_file.specs.Change.{Change, Quiet, Linked, Buried, Drained, TakesDetour, gained, lost}
use Rattle.hash_file.specs.Sound.{IsSoundOn, IsSoundFile, HasEntry}
use Rattle.hash_file.specs.Changes.{retarget, set_counts, split_counts, merge_counts}
use Rattle.hash_file.specs.Kept.{KeepsFile}
use Rattle.hash_file.specs.Laws.{IsRetargeted}
use Rattle.hash_file.proofs.Chains.{chain_valid}
use Rattle.hash_file.proofs.Headed.{layout_headed, chain_headed, spared_headed, keeps_headed, length-mapped, mapped_first}
use Rattle.hash_file.proofs.Doubling.{within_entries}

-- the test that names the entries of a range on a page
abbrev is_of : Store → ℕ → Range → ℕ → Bool
is_of s page r i =
    page_of i == page && is_in_range s.header.depth r i

-- an entry that passes it is covered by the range
of_range : (s : Store) (page : ℕ) (r : Range) (i : ℕ) → is_of s page r i ≡ true → Covers r i
of_range s page r i is =
    let both = both_true _ _ is in
    eqb-true (i % 2 ^ r.depth) r.pattern (both_true _ _ both.1).1

-- each entry names the page of its range, or what it named
retargeted_entry : (hash : RecordKey → ℕ) (s : Store) (c : Change) (ns : List ℕ) (page : ℕ) (r : Range) (n i : ℕ) →
    IsSoundOn hash s c ns → ((j : ℕ) → Covers r j → IsBucketOn s ns j n) → i < 2 ^ s.header.depth →
    HasEntry (retarget page r n s) c ns i
retargeted_entry hash s c ns page r n i h named low = by_test (is_of s page r i) refl
  where
    entry : entry_at (retarget page r n s) i ≡ cond (is_of s page r i) n (entry_at s i)
    entry = mapped_first (λ (j e : ℕ). if is_of s page r j then n else e) i s.entries
        (within_entries hash s c ns i h low)

    by_test : (b : Bool) → is_of s page r i ≡ b → HasEntry (retarget page r n s) c ns i
    by_test true is =
        let now : entry_at (retarget page r n s) i ≡ n = entry ∙ ap (λ (b : Bool). cond b n (entry_at s i)) is in
        inl (subst (λ m. IsBucketOn s ns i m) (sym now) (named i (of_range s page r i is)))
    by_test false is =
        let now : entry_at (retarget page r n s) i ≡ entry_at s i =
        entry ∙ ap (λ (b : Bool). cond b n (entry_at s i)) is in
        subst (λ m. IsBucketOn s ns i m ⊎ TakesDetour c i m) (sym now) (h.entries i low)

-- the upper half of a merged range lies in it
in_whole : (hash : RecordKey → ℕ) (s : Store) (ns : List ℕ) (left right : ℕ) (whole : Range) (i : ℕ) →
    IsSoundOn hash s (Buried left right whole) ns → Covers (upper_half_of whole) i → IsBucketOn s ns i left
in_whole hash s ns left right whole i h covers =
    let p = h.phase in
    let valid : IsRange whole = rw (p.joined) at (chain_valid s ns left h.chained p.left_on) in
    let shallow : whole.depth < PSEUDOKEY_BITS = omega (arith, p.shallow, h.layout.depth, h.layout.greatest) in
    (p.left_on, subst (λ (r : Range). Covers r i) (sym p.joined) (half_in_range whole i valid shallow (inr covers)))

in_new : (hash : RecordKey → ℕ) (s : Store) (ns : List ℕ) (old new : ℕ) (whole : Range) (i : ℕ) →
    IsSoundOn hash s (Linked old new whole) ns → Covers (upper_half_of whole) i → IsBucketOn s ns i new
in_new hash s ns old new whole i h covers =
    (h.phase.new_on, subst (λ (r : Range). Covers r i) (sym h.phase.halves.upper) covers)

pub retarget_keeps_split : (hash : RecordKey → ℕ) (s : Store) (old new : ℕ) (whole : Range) (page : ℕ) →
    IsSoundFile hash s (Linked old new whole) →
    KeepsFile hash s (Linked old new whole) (retarget page (upper_half_of whole) new s) (Linked old new whole)
retarget_keeps_split hash s old new whole page h =
    let t = retarget page (upper_half_of whole) new s in
    let c = Linked old new whole in
    keeps_headed s s.header t.entries hash c c (record {
      layout = layout_headed s s.header t.entries (record {
        depth = h.layout.depth;
        slots = length-mapped _ 0 s.entries;
        counts = refl;
        pages = refl;
      }) h.layout;
      chained = chain_headed s s.header t.entries (chain s) h.chained.shallow h.chained;
      placed = h.placed;
      spares = h.spares;
      spared = spared_headed s s.header t.entries h.spares refl h.spared;
      roles = h.roles;
      entries = λ i low. retargeted_entry hash s c (chain s) page (upper_half_of whole) new i h
          (λ j covers. in_new hash s (chain s) old new whole j h covers) low;
      counts = h.counts;
      phase = record {
        old_on = h.phase.old_on;
        new_on = h.phase.new_on;
        next = h.phase.next;
        halves = h.phase.halves;
      };
    }) (λ n off. off)

pub retarget_keeps_merge : (hash : RecordKey → ℕ) (s : Store) (left right : ℕ) (whole : Range) (page : ℕ) →
    IsSoundFile hash s (Buried left right whole) →
    KeepsFile hash s (Buried left right whole) (retarget page (upper_half_of whole) left s) (Buried left right whole)
retarget_keeps_merge hash s left right whole page h =
    let t = retarget page (upper_half_of whole) left s in
    let c = Buried left right whole in
    keeps_headed s s.header t.entries hash c c (record {
      layout = layout_headed s s.header t.entries (record {
        depth = h.layout.depth;
        slots = length-mapped _ 0 s.entries;
        counts = refl;
        pages = refl;
      }) h.layout;
      chained = chain_headed s s.header t.entries (chain s) h.chained.shallow h.chained;
      placed = h.placed;
      spares = h.spares;
      spared = spared_headed s s.header t.entries h.spares refl h.spared;
      roles = h.roles;
      entries = λ i low. retargeted_entry hash s c (chain s) page (upper_half_of whole) left i h
          (λ j covers. in_whole hash s (chain s) left right whole j h covers) low;
      counts = h.counts;
      phase = record {
        left_on = h.phase.left_on;
        shallow = h.phase.shallow;
        joined = h.phase.joined;
        tombstone = h.phase.tombstone;
      };
    }) (λ n off. off)

-- ---- counts

-- two neighbours on a list are set
two_set : (l d x y : ℕ) (counts : List ℕ) → suc l < length counts →
    slice_index_or (slice_set (slice_set counts l x) (suc l) y) d 0
    ≡ (if suc l == d then y else if l == d then x else slice_index_or counts d 0)
two_set l d x y counts within = elim (cases_eq (suc l) d) [
  | inl same ↦ rw (eq-eqb (suc l) d same) (
      subst (λ k. slice_index_or (slice_set (slice_set counts l x) (suc l) y) k 0 ≡ y) same
      (get_or-set_same (slice_set counts l x) (suc l) y 0 (omega (arith, within, length-set counts l x))))
  | inr other ↦ rw (ne_eqb (suc l) d other) (
      get_or-set_other (slice_set counts l x) (suc l) d y 0 (λ is. other (sym is)) ∙ lower)
]
  where
    lower : slice_index_or (slice_set counts l x) d 0 ≡ (if l == d then x else slice_index_or counts d 0)
    lower = elim (cases_eq l d) [
      | inl same ↦ rw (eq-eqb l d same) (
          subst (λ k. slice_index_or (slice_set counts l x) k 0 ≡ x) same
          (get_or-set_same counts l x 0 (omega (arith, within))))
      | inr other ↦ rw (ne_eqb l d other) (get_or-set_other counts l d x 0 (λ is. other (sym is)))
    ]

pub set_counts_keeps_split : (hash : RecordKey → ℕ) (s : Store) (old new : ℕ) (whole : Range) →
    IsSoundFile hash s (Linked old new whole) → IsRetargeted (upper_half_of whole) new s →
    KeepsFile hash s (Linked old new whole) (set_counts (split_counts whole.depth s.header.counts) s) Quiet
set_counts_keeps_split hash s old new whole h all =
    let t = set_counts (split_counts whole.depth s.header.counts) s in
    keeps_headed s t.header s.entries hash (Linked old new whole) Quiet (record {
      layout = layout_headed s t.header s.entries (record {
        depth = h.layout.depth;
        slots = refl;
        counts = as_many;
        pages = refl;
      }) h.layout;
      chained = chain_headed s t.header s.entries (chain s) h.chained.shallow h.chained;
      placed = h.placed;
      spares = h.spares;
      spared = spared_headed s t.header s.entries h.spares refl h.spared;
      roles = h.roles;
      entries = λ i low. exact i low (h.entries i low);
      counts = λ d within. counted d (h.counts d within);
      phase = tt;
    }) (λ n off. off)
  where
    exact : (i : ℕ) → i < 2 ^ s.header.depth → HasEntry s (Linked old new whole) (chain s) i →
        HasEntry s Quiet (chain s) i
    exact i low (inl b) = inl b
    exact i low (inr (is, covers)) =
        inl (subst (λ m. IsBucketOn s (chain s) i m) (sym (all i low covers))
        (in_new hash s (chain s) old new whole i h covers))

    as_many : length (split_counts whole.depth s.header.counts) ≡ length s.header.counts
    as_many = length-set (slice_set s.header.counts whole.depth (count_at s whole.depth - 1)) (suc whole.depth)
        (count_at s (suc whole.depth) + 2)
        ∙ length-set s.header.counts whole.depth (count_at s whole.depth - 1)

    room : suc whole.depth < length s.header.counts
    room = omega (
      arith,
      h.chained.shallow new h.phase.new_on,
      ap (λ (r : Range). r.depth) h.phase.halves.upper,
      h.layout.depth,
      h.layout.counts,
    )

    counted : (d : ℕ) → count_at s d + gained (Linked old new whole) d
        ≡ lost (Linked old new whole) d + number_on s (chain s) d →
        slice_index_or (split_counts whole.depth s.header.counts) d 0 + 0 ≡ 0 + number_on s (chain s) d
    counted d was =
        let now = two_set whole.depth d (count_at s whole.depth - 1) (count_at s (suc whole.depth) + 2) s.header.counts
        room in
        elim (cases_eq (suc whole.depth) d) [
          | inl same ↦ (
              let below : whole.depth ≢ d = omega (arith, same) in
              let was' = rw (eq-eqb (suc whole.depth) d same, ne_eqb whole.depth d below) at was in
              let now' = rw (eq-eqb (suc whole.depth) d same) at now in
              omega (arith, was', now', ap (λ k. count_at s k) same))
          | inr other ↦ elim (cases_eq whole.depth d) [
            | inl same ↦ (
                let was' = rw (ne_eqb (suc whole.depth) d other, eq-eqb whole.depth d same) at was in
                let now' = rw (ne_eqb (suc whole.depth) d other, eq-eqb whole.depth d same) at now in
                omega (arith, was', now', ap (λ k. count_at s k) same))
            | inr apart ↦ (
                let was' = rw (ne_eqb (suc whole.depth) d other, ne_eqb whole.depth d apart) at was in
                let now' = rw (ne_eqb (suc whole.depth) d other, ne_eqb whole.depth d apart) at now in
                omega (arith, was', now'))
          ]
        ]

pub set_counts_keeps_merge : (hash : RecordKey → ℕ) (s : Store) (left right : ℕ) (whole : Range) →
    IsSoundFile hash s (Buried left right whole) → IsRetargeted (upper_half_of whole) left s →
    KeepsFile hash s (Buried left right whole) (set_counts (merge_counts whole.depth s.header.counts) s)
    (Drained left right)
set_counts_keeps_merge hash s left right whole h all =
    let t = set_counts (merge_counts whole.depth s.header.counts) s in
    keeps_headed s t.header s.entries hash (Buried left right whole) (Drained left right) (record {
      layout = layout_headed s t.header s.entries (record {
        depth = h.layout.depth;
        slots = refl;
        counts = as_many;
        pages = refl;
      }) h.layout;
      chained = chain_headed s t.header s.entries (chain s) h.chained.shallow h.chained;
      placed = h.placed;
      spares = h.spares;
      spared = spared_headed s t.header s.entries h.spares refl h.spared;
      roles = h.roles;
      entries = λ i low. exact i low (h.entries i low);
      counts = λ d within. counted d (h.counts d within);
      phase = record { left_on = h.phase.left_on; tombstone = h.phase.tombstone };
    }) (λ n off. off)
  where
    exact : (i : ℕ) → i < 2 ^ s.header.depth → HasEntry s (Buried left right whole) (chain s) i →
        HasEntry s (Drained left right) (chain s) i
    exact i low (inl b) = inl b
    exact i low (inr (is, covers)) =
        inl (subst (λ m. IsBucketOn s (chain s) i m) (sym (all i low covers))
        (in_whole hash s (chain s) left right whole i h covers))

    as_many : length (merge_counts whole.depth s.header.counts) ≡ length s.header.counts
    as_many = length-set (slice_set s.header.counts whole.depth (count_at s whole.depth + 1)) (suc whole.depth)
        (count_at s (suc whole.depth) - 2)
        ∙ length-set s.header.counts whole.depth (count_at s whole.depth + 1)

    room : suc whole.depth < length s.header.counts
    room = omega (arith, h.phase.shallow, h.layout.depth, h.layout.counts)

    counted : (d : ℕ) → count_at s d + gained (Buried left right whole) d
        ≡ lost (Buried left right whole) d + number_on s (chain s) d →
        slice_index_or (merge_counts whole.depth s.header.counts) d 0 + 0 ≡ 0 + number_on s (chain s) d
    counted d was =
        let now = two_set whole.depth d (count_at s whole.depth + 1) (count_at s (suc whole.depth) - 2) s.header.counts
        room in
        elim (cases_eq (suc whole.depth) d) [
          | inl same ↦ (
              let below : whole.depth ≢ d = omega (arith, same) in
              let was' = rw (eq-eqb (suc whole.depth) d same, ne_eqb whole.depth d below) at was in
              let now' = rw (eq-eqb (suc whole.depth) d same) at now in
              omega (arith, was', now', ap (λ k. count_at s k) same))
          | inr other ↦ elim (cases_eq whole.depth d) [
            | inl same ↦ (
                let was' = rw (ne_eqb (suc whole.depth) d other, eq-eqb whole.depth d same) at was in
                let now' = rw (ne_eqb (suc whole.depth) d other, eq-eqb whole.depth d same) at now in
                omega (arith, was', now', ap (λ k. count_at s k) same))
            | inr apart ↦ (
                let was' = rw (ne_eqb (suc whole.depth) d other, ne_eqb whole.depth d apart) at was in
                let now' = rw (ne_eqb (suc whole.depth) d other, ne_eqb whole.depth d apart) at now in
                omega (arith, was', now'))
          ]
        ]
