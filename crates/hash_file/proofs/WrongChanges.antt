-- Each wrong change is refuted by the field of soundness that it breaks.
use Rattle.std.proofs.Common.{ℕ, ◌≡◌, ◌≢◌, ◌+◌, ◌≤◌, List, [], ◌∷◌, Some, None, arith, refl, sym, ap, subst, inl, inr}
use Rattle.std.specs.List.{Contains}
use Rattle.directory.specs.Positions.{position_of, bits_reversed, width_of}
use Rattle.directory.specs.Links.{Links}
use Rattle.directory.proofs.MemberLaws.{contains_head, contains_cases, contains_none}
use Rattle.bucket_page.specs.Keys.{is_below}
use Rattle.bucket_page.specs.declared.page.PageKind.{PageKind}
use Rattle.bucket_page.specs.declared.page.PageKind.TheVariants as kinds
use Rattle.hash_file.specs.Store.{Store, bucket_of, next_at}
use Rattle.hash_file.specs.Chain.{chain}
use Rattle.hash_file.specs.Change.{Taken}
use Rattle.hash_file.specs.Changes.{link_free}
use Rattle.hash_file.specs.Examples.{number_of, key, one, first, drained}
use Rattle.hash_file.specs.WrongChanges.{WrongChanges}
use Rattle.hash_file.proofs.Roles.{spare_not_owned}

-- a list of one page has no other
only : (m n : ℕ) → Contains (m ∷ []) n → m ≡ n
only m n c = elim (contains_cases m n [] c) [ inl same ↦ same | inr d ↦ absurd (contains_none n d) ]

-- the free list begins with the first free page
begins_free : (s : Store) (n : ℕ) (spares : List ℕ) → n ≢ 0 → Links (next_at s) n spares 0 → Contains spares n
begins_free s n [] some linked = absurd (some linked)
begins_free s n (m ∷ spares) some linked = subst (Contains (m ∷ spares)) (sym linked.0) (contains_head m spares)

pub wrong_changes : WrongChanges
unfolding chain is_below position_of bits_reversed width_of
wrong_changes = record {
  record_in_another_bucket = λ h. (
      let is : 1 ≡ 0 = (h.placed 257 (contains_head 257 (258 ∷ []))).within 2 (one 0) (omega arith) in
      omega (arith, is));
  taken_page_stays_free = λ h. spare_not_owned number_of first (Taken 258) (chain first) h 258 258
      (begins_free first 258 h.spares (omega arith) h.spared.linked) (contains_head 258 []) refl;
  entries_not_copied = λ h. elim (h.entries 1 (omega arith)) [
    | inl b ↦ (let is : 257 ≡ 0 = only 257 0 b.0 in omega (arith, is))
    | inr off ↦ off
  ];
  new_bucket_ends_the_chain = λ h. (
      let is : 2147483648 ≡ 4294967296 = h.chained.tiled.1.1 in
      omega (arith, is));
  parted_by_the_next_bit = λ h. (
      let is : 1 ≡ 0 = (h.placed 257 (contains_head 257 (258 ∷ []))).within 1 (one 0) (omega arith) in
      omega (arith, is));
  old_bucket_first = λ same. let lost : ◌≡◌ None (Some (1 ∷ [])) = same (key 1) in absurd cc;
  never_retargets = λ h. elim (h.entries 1 (omega arith)) [
    | inl b ↦ (let is : 1 ≡ 0 = b.1 in omega (arith, is))
    | inr off ↦ off
  ];
  counts_not_set = λ h. (let is : 1 + 0 ≡ 0 + 0 = h.counts 0 (omega arith) in omega (arith, is));
  keeps_only_the_left = λ same. let lost : ◌≡◌ None (Some (1 ∷ [])) = same (key 1) in absurd cc;
  tombstone_to_the_next_page = λ h.
      let is : ◌≡◌ {A = PageKind} (kinds.Tombstone 258) (kinds.Tombstone 257) = h.phase.tombstone in
      let same : 258 ≡ 257 = ap (λ (q : PageKind). (bucket_of q).next) is in
      omega (arith, same);
  frees_without_drain = λ h. elim (h.entries 1 (omega arith)) [
    | inl b ↦ (let is : 257 ≡ 258 = only 257 258 b.0 in omega (arith, is))
    | inr off ↦ off
  ];
  links_a_tombstone = λ h.
      let free : ◌≡◌ {A = PageKind} (kinds.Tombstone 257) (kinds.Free 257) =
      h.spared.free 258 (begins_free (link_free 258 drained) 258 h.spares (omega arith) h.spared.linked) in
      absurd cc;
  depth_lowered_below_a_bucket = λ h. (
      let is : 1 ≤ 0 = h.chained.shallow 257 (contains_head 257 (258 ∷ [])) in
      omega (arith, is));
}
