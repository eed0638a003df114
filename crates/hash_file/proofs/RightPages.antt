-- Where the right page of a merge leads; and all that is well formed of a file.
use Rattle.std.proofs.Common.{ℕ, ◌≡◌, ◌≤◌, ◌<◌, ◌↔◌, ◌⊎◌, [], ◌∷◌, ◌++◌, false, refl, sym, ap, subst, inl, inr, arith}
use Rattle.std.specs.List.{Contains}
use Rattle.std.proofs.lemmas.List.Elements.{All-contains}
use Rattle.directory.specs.declared.pseudokey.TheConstants.{POSITIONS, PSEUDOKEY_BITS}
use Rattle.directory.specs.declared.range.Range.{Range}
use Rattle.directory.specs.Positions.{position_of}
use Rattle.directory.specs.Ranges.{IsRange, Covers, start_of, stop_of, upper_half_of}
use Rattle.directory.specs.Tiles.{Tiles}
use Rattle.directory.proofs.MemberLaws.{contains_cases, contains_head}
use Rattle.directory.proofs.RangeLaws.{range_has, range_covers, range_has_start, upper_half_start, upper_half_stop, upper_half_valid}
use Rattle.directory.proofs.TileLaws.{tiles_cut, tiles_within}
use Rattle.bucket_page.specs.declared.record_key.RecordKey.{RecordKey}
use Rattle.bucket_page.specs.declared.page.PageKind.{PageKind}
use Rattle.bucket_page.specs.Records.{Pair}
use Rattle.hash_file.specs.Store.{Store, is_bucket, bucket_of, has_bucket, range_at, records_at, next_at}
use Rattle.hash_file.specs.Chain.{chain}
use Rattle.hash_file.specs.Change.{Change, Absorbed, Buried, Drained, aside}
use Rattle.hash_file.specs.Search.{reach, PageLeads}
use Rattle.hash_file.specs.Sound.{IsSoundFile}
use Rattle.hash_file.specs.Words.{IsWellFormedFile, StandsAtOrBefore, StandsBehind, RightPageLeads}
use Rattle.hash_file.proofs.Chains.{chain_valid, has_position}
use Rattle.hash_file.proofs.Contents.{contents_are_pairs}
use Rattle.hash_file.proofs.Ties.{chain_well_formed, leading_is_before, roles_are_one}

pub files_are_well_formed : (hash : RecordKey → ℕ) (s : Store) (c : Change) → IsSoundFile hash s c →
    IsWellFormedFile hash s c
files_are_well_formed hash s c h =
    let roles = roles_are_one hash s c h in
    record {
      chained = (chain_well_formed s).0 h.chained;
      spares = roles.0;
      spared = roles.1;
      roles = roles.2;
      placed = λ n p on stands. All-contains (λ (q : Pair). Covers (range_at s n) (hash q.key)) (records_at s n) p
          (h.placed n on).within stands;
      distinct = (contents_are_pairs hash s c h).distinct;
    }

-- ---- a tombstone leads where its link does

module _ (hash : RecordKey → ℕ) (s : Store) (c : Change) (left right : ℕ) (h : IsSoundFile hash s c)
    (on : Contains (chain s) left) (off : Contains (aside c) right) (dead : has_bucket s right ≡ false)
    (link : next_at s right ≡ left) where
  same_reach : reach s right ≡ reach s left
  same_reach = rw (dead, h.chained.buckets left on, link) refl

  pub leads_as_left : (k : ℕ) → PageLeads s c right k ↔ PageLeads s c left k
  leads_as_left k = (
    λ l. record { stands = inl on; reaches = subst (λ (p : ℕ). p ≤ position_of k) same_reach l.reaches },
    λ l. record { stands = inr off; reaches = subst (λ (p : ℕ). p ≤ position_of k) (sym same_reach) l.reaches },
  )

-- ---- between WriteLeft and Tombstone

module _ (hash : RecordKey → ℕ) (s : Store) (left right : ℕ) (whole : Range) (k : ℕ)
    (h : IsSoundFile hash s (Absorbed left right whole)) where
  abbrev c : Change
  c = Absorbed left right whole

  valid : IsRange whole
  valid = subst IsRange h.phase.joined (chain_valid s (chain s) left h.chained h.phase.left_on)

  shallow : whole.depth < PSEUDOKEY_BITS
  shallow = omega (arith, h.phase.shallow, h.layout.depth, h.layout.greatest)

  reach_right : reach s right ≡ start_of (upper_half_of whole)
  reach_right = rw (h.phase.stands) (ap start_of h.phase.upper)

  reach_left : reach s left ≡ start_of whole
  reach_left = rw (h.chained.buckets left h.phase.left_on) (ap start_of h.phase.joined)

  starts : start_of whole ≤ start_of (upper_half_of whole)
  starts = omega (arith, upper_half_start whole valid shallow)

  own_range : Covers (range_at s left) k → start_of (upper_half_of whole) ≤ position_of k → Covers (range_at s right) k
  own_range covers low =
      let has = range_has whole k valid (subst (λ (r : Range). Covers r k) h.phase.joined covers) in
      let high : position_of k < stop_of (upper_half_of whole) =
      omega (arith, has.1, upper_half_stop whole valid shallow) in
      subst (λ (r : Range). Covers r k) (sym h.phase.upper)
      (range_covers (upper_half_of whole) k (upper_half_valid whole valid shallow) (low, high))

  to : PageLeads s c right k → Covers (range_at s right) k ⊎ StandsBehind s left k
  to l = by_place ((leading_is_before hash s c left k h h.phase.left_on).0
      (record { stands = inl h.phase.left_on; reaches = omega (arith, reach_left, starts, low) }))
    where
      low : start_of (upper_half_of whole) ≤ position_of k
      low = subst (λ (p : ℕ). p ≤ position_of k) reach_right l.reaches

      by_place : StandsAtOrBefore s left k → Covers (range_at s right) k ⊎ StandsBehind s left k
      by_place (front, back, m, same, stands, b) = elim (contains_cases left m back stands) [
        | inl is ↦ inl (own_range (subst (λ (n : ℕ). Covers (range_at s n) k) (sym is) b.1) low)
        | inr behind ↦ inr (front, back, m, same, behind, b)
      ]

  from : Covers (range_at s right) k ⊎ StandsBehind s left k → PageLeads s c right k
  from leads = record { stands = inr (contains_head right []); reaches = low leads }
    where
      low : Covers (range_at s right) k ⊎ StandsBehind s left k → reach s right ≤ position_of k
      low (inl covers) =
          let upper = subst (λ (r : Range). Covers r k) h.phase.upper covers in
          let has = range_has (upper_half_of whole) k (upper_half_valid whole valid shallow) upper in
          omega (arith, reach_right, has.0)
      low (inr (front, back, m, same, behind, b)) =
          let tiled : Tiles (range_at s) 0 (front ++ left ∷ back) POSITIONS = rw same at h.chained.tiled in
          let cut = tiles_cut (range_at s) front left back 0 POSITIONS tiled in
          let w = tiles_within (range_at s) back (stop_of (range_at s left)) POSITIONS m cut.after behind in
          let has = has_position s (chain s) k m h.chained b in
          let ends : stop_of (range_at s left) ≡ stop_of whole = ap stop_of h.phase.joined in
          omega (
            arith,
            reach_right,
            w.from,
            has.0,
            ends,
            upper_half_stop whole valid shallow,
            (range_has_start (upper_half_of whole)).1,
          )

pub right_pages_lead : (hash : RecordKey → ℕ) (s : Store) (left right : ℕ) → RightPageLeads hash s left right
right_pages_lead hash s left right = record {
  absorbed = λ whole k h. (to hash s left right whole k h, from hash s left right whole k h);
  buried = λ whole k h. leads_as_left hash s (Buried left right whole) left right h h.phase.left_on
      (contains_head right []) (ap is_bucket h.phase.tombstone)
      (ap (λ (p : PageKind). (bucket_of p).next) h.phase.tombstone) k;
  drained = λ k h. leads_as_left hash s (Drained left right) left right h h.phase.left_on
      (contains_head right []) (ap is_bucket h.phase.tombstone)
      (ap (λ (p : PageKind). (bucket_of p).next) h.phase.tombstone) k;
}
