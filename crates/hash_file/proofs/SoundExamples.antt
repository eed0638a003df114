-- The small files made by hand are sound: the first by itself, each other by the law of the change that made it.
use Rattle.std.proofs.Common.{ℕ, zero, suc, ◌≡◌, ◌+◌, ◌<◌, ◌≤◌, ◌==◌, [], ◌∷◌, arith, refl, sym, subst, inl, inr, if◌then◌else◌}
use Rattle.std.specs.List.{Contains}
use Rattle.std.proofs.lemmas.Bool.{cases_eq}
use Rattle.directory.specs.Ranges.{Covers, whole_range, upper_half_of}
use Rattle.directory.proofs.MemberLaws.{contains_head, contains_tail, contains_none}
use Rattle.bucket_page.specs.Keys.{is_below}
use Rattle.hash_file.specs.Store.{Store, page_at, entry_at, count_at}
use Rattle.hash_file.specs.Chain.{chain}
use Rattle.hash_file.specs.Change.{Quiet}
use Rattle.hash_file.specs.Changes.{Put, take_page, copy_directory, retarget}
use Rattle.hash_file.specs.Examples.{AreSound, number_of, one, first, doubled, filled, linked, retargeted, split, with_3, absorbed, buried, drained, freed, merged_whole}
use Rattle.hash_file.specs.New.{IsNew, follower}
use Rattle.bucket_page.specs.declared.page.PageKind.TheVariants as kinds
use Rattle.hash_file.proofs.New.{new_sound}
use Rattle.hash_file.proofs.WriteRecord.{writes_record}
use Rattle.hash_file.proofs.TakePage.{take_page_keeps, link_free_keeps}
use Rattle.hash_file.proofs.Doubling.{copy_directory_keeps, raise_depth_keeps, lower_depth_keeps}
use Rattle.hash_file.proofs.Retargeting.{retarget_keeps_split, retarget_keeps_merge, set_counts_keeps_split, set_counts_keeps_merge}
use Rattle.hash_file.proofs.OffChain.{write_new_keeps, write_tombstone_keeps, write_free_keeps}
use Rattle.hash_file.proofs.Splitting.{write_old_keeps}
use Rattle.hash_file.proofs.Merging.{write_left_keeps}

-- its pages behind the root are free, in ascending order
abbrev IsNext : ℕ → Type 0
IsNext n = page_at first n ≡ kinds.Free (follower first n)

first_free : (n : ℕ) → 257 < n → n < 261 → IsNext n
first_free n low high = elim (cases_eq 258 n) [
  | inl same ↦ subst IsNext same refl
  | inr a ↦ elim (cases_eq 259 n) [
    | inl same ↦ subst IsNext same refl
    | inr b ↦ elim (cases_eq 260 n) [
      | inl same ↦ subst IsNext same refl
      | inr c ↦ absurd (omega (arith, low, high, a, b, c))
    ]
  ]
]

first_count : (depth : ℕ) → depth ≤ 3 → count_at first depth ≡ (if 0 == depth then 1 else 0)
first_count zero within = refl
first_count (suc zero) within = refl
first_count (suc (suc zero)) within = refl
first_count (suc (suc (suc zero))) within = refl
first_count (suc (suc (suc (suc depth)))) within = absurd (omega (arith, within))

first_new : IsNew number_of first
unfolding is_below
first_new = record {
  layout = record {
    root = omega arith;
    greatest = omega arith;
    depth = omega arith;
    entries = omega arith;
    counts = omega arith;
    pages = refl;
    header = refl;
  };
  within = omega arith;
  root = refl;
  placed = record { within = λ k e lt. omega arith; ascends = refl };
  depth = refl;
  entry = refl;
  first_free = refl;
  free = first_free;
  counts = first_count;
}

-- an index of a directory of two that the upper half covers is 1
upper_index : (i : ℕ) → i < 2 → Covers (upper_half_of whole_range) i → i ≡ 1
upper_index zero low covers = absurd (let is : 0 ≡ 1 = covers in omega (arith, is))
upper_index (suc zero) low covers = refl
upper_index (suc (suc i)) low covers = absurd (omega (arith, low))

abbrev copied : Store
copied = copy_directory 1 (take_page first)

abbrev named : Store
named = retarget 1 (upper_half_of whole_range) 257 buried

doubled_copy : (i : ℕ) → i < 1 → entry_at copied (i + 1) ≡ entry_at copied i
doubled_copy zero low = refl
doubled_copy (suc i) low = absurd (omega (arith, low))

pub are_sound : AreSound
unfolding chain is_below
are_sound =
    let on : (x y : ℕ) → Contains (x ∷ y ∷ []) x = λ x y. contains_head x (y ∷ []) in
    let h0 = (new_sound number_of first first_new).sound in
    let h1 = (take_page_keeps number_of first h0 (omega arith)).sound in
    let h2 = (copy_directory_keeps number_of (take_page first) 258 1 h1).sound in
    let h3 = (raise_depth_keeps number_of copied 258 h2 (omega arith) doubled_copy).sound in
    let h4 = (write_new_keeps number_of doubled 257 258 h3 (contains_head 257 []) (omega arith)).sound in
    let h5 = (write_old_keeps number_of filled 257 258 h4).sound in
    let h6 = (retarget_keeps_split number_of linked 257 258 whole_range 1 h5).sound in
    let h7 = (set_counts_keeps_split number_of retargeted 257 258 whole_range h6 (λ i low covers.
    subst (λ j. entry_at retargeted j ≡ 258) (sym (upper_index i low covers)) refl)).sound in
    let h8 = (writes_record number_of split Quiet 258 (Put (one 3)) h7 (
      contains_tail 257 258 (258 ∷ []) (contains_head 258 []),
      refl,
    ) (contains_none 258) refl).sound in
    let m1 = (write_left_keeps number_of with_3 257 258 whole_range h8 (on 257 258)
    (contains_tail 257 258 (258 ∷ []) (contains_head 258 [])) (record { lower = refl; upper = refl })).sound in
    let m2 = (write_tombstone_keeps number_of absorbed 257 258 whole_range m1).sound in
    let m3 = (retarget_keeps_merge number_of buried 257 258 whole_range 1 m2).sound in
    let m4 = (set_counts_keeps_merge number_of named 257 258 whole_range m3
    (λ i low covers. subst (λ j. entry_at named j ≡ 257)
    (sym (upper_index i low covers)) refl)).sound in
    let m5 = (write_free_keeps number_of drained 257 258 m4).sound in
    let m6 = (link_free_keeps number_of freed 258 m5).sound in
    let m7 = (lower_depth_keeps number_of merged_whole m6 (omega arith) refl).sound in
    record {
      first = h0;
      doubled = h3;
      filled = h4;
      linked = h5;
      retargeted = h6;
      split = h7;
      with_3 = h8;
      absorbed = m1;
      buried = m2;
      drained = m4;
      freed = m5;
      merged_whole = m6;
      halved = m7;
    }
