-- Hops lead on, looks answer, and a stale depth leads still.
use Rattle.std.proofs.Common.{ℕ, ◌≡◌, ◌<◌, ◌≤◌, ◌%◌, ◌^◌, List, [], ◌∷◌, true, false, arith, refl, sym, ap, ◌∙◌, ◌⊎◌, inl, inr}
use Rattle.std.specs.List.{Contains}
use Rattle.hash_file.proofs.Names.{Covers, HasPosition, IsRange, POSITIONS, PSEUDOKEY_BITS, Range, position_of, start_of, stop_of, upper_half_of}
use Rattle.directory.proofs.MemberLaws.{contains_head, contains_cases, contains_none}
use Rattle.directory.proofs.PositionLaws.{position_below, position_truncated}
use Rattle.directory.proofs.RangeLaws.{range_has, range_has_start, range_passed, upper_half_valid, upper_half_start, upper_half_stop, half_in_range, halved_valid, halves_apart}
use Rattle.directory.proofs.CountLaws.{begun_rises, begun_next, begun_inside}
use Rattle.directory.proofs.WalkLaws.{tiles_next}
use Rattle.bucket_page.specs.declared.record_key.RecordKey.{RecordKey}
use Rattle.bucket_page.specs.declared.page.PageKind.{PageKind}
use Rattle.bucket_page.specs.Records.{lookup}
use Rattle.hash_file.specs.Store.{Store, page_at, has_bucket, is_bucket, bucket_of, range_at, records_at, next_at}
use Rattle.hash_file.specs.Chain.{IsChain, IsBucketOn, pairs_on}
use Rattle.hash_file.specs.Change.{Change, Quiet, Taken, Filled, Linked, Absorbed, Buried, Drained, Freed, aside, TakesDetour}
use Rattle.hash_file.specs.Search.{reach, PageLeadsOn, PageLeads, distance_on, IsNearer}
use Rattle.hash_file.specs.Phases.{IsLinked, IsAbsorbed, IsBuried, IsDrained}
use Rattle.hash_file.specs.Sound.{IsSoundOn}
use Rattle.hash_file.specs.Looks.{Answers}
use Rattle.hash_file.proofs.Chains.{chain_valid, has_position}
use Rattle.hash_file.proofs.Lookups.{look_at}
use Rattle.std.proofs.lemmas.Bool.{both_ways}
use Rattle.std.proofs.Common.{subst}
use Rattle.bucket_page.specs.declared.page.PageKind.TheVariants as kinds

-- a hop from a bucket n that goes on as page m of the chain does
lands : (s : Store) (c : Change) (ns : List ℕ) (n m k : ℕ) → IsChain s ns → Contains ns m →
    next_at s n ≡ next_at s m → has_bucket s n ≡ true → HasPosition (range_at s m) (start_of (range_at s n)) →
    stop_of (range_at s m) ≤ position_of k → IsNearer s c ns n k
lands s c ns n m k h on same live has far =
    let short : stop_of (range_at s m) < POSITIONS = omega (arith, position_below k) in
    let step = tiles_next (range_at s) (next_at s) ns 0 POSITIONS s.layout.root 0 m h.tiled h.linked on short in
    let next_live = h.buckets (next_at s m) step.0 in
    let more = begun_next (range_at s) ns 0 POSITIONS m (start_of (range_at s n)) h.tiled on has short in
    let rises = begun_rises (range_at s) ns (stop_of (range_at s m)) (position_of k) far in
    record {
      leads = record { stands = rw same (inl step.0); reaches = rw (same, next_live) (omega (arith, step.1)) };
      nearer = rw (same, live, next_live, step.1) (omega (arith, more, rises));
    }

-- a hop from a tombstone that names a page of the chain
falls : (s : Store) (c : Change) (ns : List ℕ) (left right k : ℕ) → IsChain s ns → Contains ns left →
    has_bucket s right ≡ false → next_at s right ≡ left → reach s right ≤ position_of k → IsNearer s c ns right k
falls s c ns left right k h on dead link low =
    let live = h.buckets left on in
    let low' = rw (dead, link) at low in
    record {
      leads = record { stands = rw link (inl on); reaches = rw (link, live) low' };
      nearer = rw (dead, link, live) (omega arith);
    }

-- a hop from the right page, which still leads on as the left one
absorbed_leads : (hash : RecordKey → ℕ) (s : Store) (c : Change) (ns : List ℕ) (left right k : ℕ) (whole : Range) →
    IsChain s ns → s.header.depth ≤ PSEUDOKEY_BITS → IsAbsorbed hash s ns left right whole →
    reach s right ≤ position_of k → (Answers s right k → ⊥) → IsNearer s c ns right k
absorbed_leads hash s c ns left right k whole h deep a low out =
    let valid : IsRange whole = rw (a.joined) at (chain_valid s ns left h a.left_on) in
    let shallow : whole.depth < PSEUDOKEY_BITS = omega (arith, a.shallow, deep) in
    let low' = rw (a.stands) at low in
    let upper_valid : IsRange (range_at s right) = rw (a.upper) (upper_half_valid whole valid shallow) in
    let far = range_passed (range_at s right) k upper_valid low' (λ covers. out (a.stands, covers)) in
    let stops : stop_of (range_at s right) ≡ stop_of (range_at s left) =
    ap stop_of a.upper ∙ upper_half_stop whole valid shallow ∙ sym (ap stop_of a.joined) in
    let starts : start_of (range_at s left) ≤ start_of (range_at s right) =
    omega (arith, ap start_of a.upper, ap start_of a.joined, upper_half_start whole valid shallow) in
    let inside = range_has_start (range_at s right) in
    lands s c ns right left k h a.left_on a.next a.stands (starts, omega (arith, inside.1, stops))
    (omega (arith, far, stops))

pub hops_lead_on : (hash : RecordKey → ℕ) (s : Store) (c : Change) (ns : List ℕ) (n k : ℕ) → IsSoundOn hash s c ns →
    PageLeadsOn s c ns n k → (Answers s n k → ⊥) → IsNearer s c ns n k
hops_lead_on hash s c ns n k h l out = elim l.stands [ inl on ↦ from_chain on | inr off ↦ off_chain c refl off ]
  where
    from_chain : Contains ns n → IsNearer s c ns n k
    from_chain on =
        let live = h.chained.buckets n on in
        let low = rw live at l.reaches in
        let far = range_passed (range_at s n) k (chain_valid s ns n h.chained on) low (λ covers. out (live, covers)) in
        lands s c ns n n k h.chained on refl live (range_has_start (range_at s n)) far

    deep : s.header.depth ≤ PSEUDOKEY_BITS
    deep = omega (arith, h.layout.depth, h.layout.greatest)

    one : (right : ℕ) → Contains (right ∷ []) n → right ≡ n
    one right off = elim (contains_cases right n [] off) [ inl same ↦ same | inr d ↦ absurd (contains_none n d) ]

    off_chain : (d : Change) → c ≡ d → Contains (aside c) n → IsNearer s c ns n k
    off_chain Quiet is off = absurd (contains_none n (rw is at off))
    off_chain (Taken new) is off = absurd (contains_none n (rw is at off))
    off_chain (Filled old new) is off = absurd (contains_none n (rw is at off))
    off_chain (Linked old new whole) is off = absurd (contains_none n (rw is at off))
    off_chain (Absorbed left right whole) is off =
        let same = one right (rw is at off) in
        let a : IsAbsorbed hash s ns left right whole = rw is at h.phase in
        let low = rw (← same) at l.reaches in
        let out' = rw (← same) at out in
        rw (← same) (absorbed_leads hash s c ns left right k whole h.chained deep a low out')
    off_chain (Buried left right whole) is off =
        let same = one right (rw is at off) in
        let b : IsBuried s ns left right whole = rw is at h.phase in
        rw (← same) (falls s c ns left right k h.chained b.left_on (ap is_bucket b.tombstone)
        (ap (λ (p : PageKind). (bucket_of p).next) b.tombstone) (rw (← same) at l.reaches))
    off_chain (Drained left right) is off =
        let same = one right (rw is at off) in
        let b : IsDrained s ns left right = rw is at h.phase in
        rw (← same) (falls s c ns left right k h.chained b.left_on (ap is_bucket b.tombstone)
        (ap (λ (p : PageKind). (bucket_of p).next) b.tombstone) (rw (← same) at l.reaches))
    off_chain (Freed right) is off = absurd (contains_none n (rw is at off))

-- a page that leads to a key and answers for it has of that key what the file holds
pub looks_answer : (hash : RecordKey → ℕ) (s : Store) (c : Change) (ns : List ℕ) (n : ℕ) (key : RecordKey) →
    IsSoundOn hash s c ns → PageLeadsOn s c ns n (hash key) → Answers s n (hash key) →
    lookup key (pairs_on s ns) ≡ lookup key (records_at s n)
looks_answer hash s c ns n key h l answers =
    elim l.stands [
      | inl on ↦ look_at hash s key ns n h.chained h.placed (on, answers.1)
      | inr off ↦ off_chain c refl off
    ]
  where
    Answer : Type 0
    Answer = lookup key (pairs_on s ns) ≡ lookup key (records_at s n)

    one : (right : ℕ) → Contains (right ∷ []) n → right ≡ n
    one right off = elim (contains_cases right n [] off) [ inl same ↦ same | inr d ↦ absurd (contains_none n d) ]

    dead : (left right : ℕ) → right ≡ n → page_at s right ≡ kinds.Tombstone left → Answer
    dead left right same is =
        let live : has_bucket s right ≡ true = rw (← same) at answers.0 in
        absurd (both_ways (has_bucket s right) (ap is_bucket is) live)

    off_chain : (d : Change) → c ≡ d → Contains (aside c) n → Answer
    off_chain Quiet is off = absurd (contains_none n (rw is at off))
    off_chain (Taken new) is off = absurd (contains_none n (rw is at off))
    off_chain (Filled old new) is off = absurd (contains_none n (rw is at off))
    off_chain (Linked old new whole) is off = absurd (contains_none n (rw is at off))
    off_chain (Absorbed left right whole) is off =
        let same = one right (rw is at off) in
        let a : IsAbsorbed hash s ns left right whole = rw is at h.phase in
        let valid : IsRange whole = rw (a.joined) at (chain_valid s ns left h.chained a.left_on) in
        let shallow : whole.depth < PSEUDOKEY_BITS = omega (arith, a.shallow, h.layout.depth, h.layout.greatest) in
        let covers : Covers (range_at s right) (hash key) = rw (← same) at answers.1 in
        let upper : Covers (upper_half_of whole) (hash key) =
        subst (λ (r : Range). Covers r (hash key)) a.upper covers in
        let in_left : Covers (range_at s left) (hash key) =
        subst (λ (r : Range). Covers r (hash key)) (sym a.joined)
        (half_in_range whole (hash key) valid shallow (inr upper)) in
        look_at hash s key ns left h.chained h.placed (a.left_on, in_left) ∙ sym (a.same key upper)
        ∙ ap (λ (m : ℕ). lookup key (records_at s m)) same
    off_chain (Buried left right whole) is off =
        let b : IsBuried s ns left right whole = rw is at h.phase in
        dead left right (one right (rw is at off)) b.tombstone
    off_chain (Drained left right) is off =
        let b : IsDrained s ns left right = rw is at h.phase in
        dead left right (one right (rw is at off)) b.tombstone
    off_chain (Freed right) is off = absurd (contains_none n (rw is at off))

pub stale_depths_lead : (s : Store) (c : Change) (n k depth : ℕ) → PageLeads s c n (k % 2 ^ depth) → PageLeads s c n k
stale_depths_lead s c n k depth l =
    record { stands = l.stands; reaches = omega (arith, l.reaches, position_truncated depth k) }

-- the bucket of a pseudokey leads to it with no hop
pub bucket_leads : (s : Store) (c : Change) (ns : List ℕ) (n k : ℕ) → IsChain s ns → IsBucketOn s ns k n →
    PageLeadsOn s c ns n k × (distance_on s ns n k ≡ 0)
bucket_leads s c ns n k h b =
    let has = has_position s ns k n h b in
    let live = h.buckets n b.0 in (
      record { stands = inl b.0; reaches = rw live has.0 },
      rw (live, begun_inside (range_at s) ns 0 POSITIONS n (position_of k) h.tiled b.0 has) (omega arith),
    )

-- and so with one hop a page whose next page is its bucket
one_hop : (s : Store) (c : Change) (ns : List ℕ) (n k : ℕ) → IsChain s ns → IsNearer s c ns n k →
    IsBucketOn s ns k (next_at s n) → distance_on s ns n k ≤ 1
one_hop s c ns n k h near b = omega (arith, near.nearer, (bucket_leads s c ns (next_at s n) k h b).1)

-- what an entry owes a search
pub record EntryLeadsOn (s : Store) (c : Change) (ns : List ℕ) (n i : ℕ) : Type 0 where
  pub leads : PageLeadsOn s c ns n i
  pub near : distance_on s ns n i ≤ 1

-- the position of a pseudokey in the upper half of a range
upper_has : (whole : Range) (i : ℕ) → IsRange whole → whole.depth < PSEUDOKEY_BITS → Covers (upper_half_of whole) i →
    HasPosition (upper_half_of whole) (position_of i) × (start_of whole ≤ start_of (upper_half_of whole))
upper_has whole i valid shallow covers = (
  range_has (upper_half_of whole) i (upper_half_valid whole valid shallow) covers,
  omega (arith, upper_half_start whole valid shallow),
)

pub entries_lead : (hash : RecordKey → ℕ) (s : Store) (c : Change) (ns : List ℕ) (n i : ℕ) → IsSoundOn hash s c ns →
    IsBucketOn s ns i n ⊎ TakesDetour c i n → EntryLeadsOn s c ns n i
entries_lead hash s c ns n i h (inl b) =
    let l = bucket_leads s c ns n i h.chained b in record { leads = l.0; near = omega (arith, l.1) }
entries_lead hash s c ns n i h (inr detour) = on_detour c refl detour
  where
    deep : s.header.depth ≤ PSEUDOKEY_BITS
    deep = omega (arith, h.layout.depth, h.layout.greatest)

    on_detour : (d : Change) → c ≡ d → TakesDetour d i n → EntryLeadsOn s c ns n i
    on_detour Quiet is off = absurd off
    on_detour (Taken new) is off = absurd off
    on_detour (Filled old new) is off = absurd off
    on_detour (Drained left right) is off = absurd off
    on_detour (Freed right) is off = absurd off
    on_detour (Linked old new whole) is (same, covers) =
        let p : IsLinked s ns old new whole = rw is at h.phase in
        let new_valid : IsRange (upper_half_of whole) =
        rw (p.halves.upper) at (chain_valid s ns new h.chained p.new_on) in
        let valid = halved_valid whole new_valid in
        let has = upper_has whole i valid.0 valid.1 covers in
        let live = h.chained.buckets old p.old_on in
        let low : start_of (range_at s old) ≤ position_of i =
        omega (arith, ap start_of p.halves.lower, has.1, has.0.0) in
        let in_new : IsBucketOn s ns i new =
        (p.new_on, subst (λ (r : Range). Covers r i) (sym p.halves.upper) covers) in
        let leads : PageLeadsOn s c ns old i = record { stands = inl p.old_on; reaches = rw live low } in
        let near = hops_lead_on hash s c ns old i h leads (λ answers. halves_apart whole i valid.0 valid.1
        (subst (λ (r : Range). Covers r i) p.halves.lower answers.1) covers) in
        rw same (record { leads = leads; near = one_hop s c ns old i h.chained near (rw (p.next) in_new) })
    on_detour (Absorbed left right whole) is (same, covers) =
        let p : IsAbsorbed hash s ns left right whole = rw is at h.phase in
        let valid : IsRange whole = rw (p.joined) at (chain_valid s ns left h.chained p.left_on) in
        let shallow : whole.depth < PSEUDOKEY_BITS = omega (arith, p.shallow, deep) in
        let has = upper_has whole i valid shallow covers in
        let ends = upper_half_stop whole valid shallow in
        let inside = range_has_start (upper_half_of whole) in
        let starts : start_of (range_at s right) ≡ start_of (upper_half_of whole) = ap start_of p.upper in
        let left_starts : start_of (range_at s left) ≡ start_of whole = ap start_of p.joined in
        let left_stops : stop_of (range_at s left) ≡ stop_of whole = ap stop_of p.joined in
        let here = begun_inside (range_at s) ns 0 POSITIONS left (position_of i) h.chained.tiled p.left_on
        (omega (arith, has.0.0, has.1, left_starts), omega (arith, has.0.1, ends, left_stops)) in
        let there = begun_inside (range_at s) ns 0 POSITIONS left (start_of (range_at s right)) h.chained.tiled
        p.left_on
        (omega (arith, starts, has.1, left_starts), omega (arith, starts, inside.1, ends, left_stops)) in
        rw same (record {
          leads = record {
            stands = inr (rw is (contains_head right []));
            reaches = rw (p.stands) (omega (arith, starts, has.0.0));
          };
          near = rw (p.stands, here, there) (omega arith);
        })
    on_detour (Buried left right whole) is (same, covers) =
        let p : IsBuried s ns left right whole = rw is at h.phase in
        let valid : IsRange whole = rw (p.joined) at (chain_valid s ns left h.chained p.left_on) in
        let shallow : whole.depth < PSEUDOKEY_BITS = omega (arith, p.shallow, deep) in
        let has = upper_has whole i valid shallow covers in
        let dead : has_bucket s right ≡ false = ap is_bucket p.tombstone in
        let link : next_at s right ≡ left = ap (λ (q : PageKind). (bucket_of q).next) p.tombstone in
        let low : reach s right ≤ position_of i =
        rw (dead, link) (omega (arith, ap start_of p.joined, has.1, has.0.0)) in
        let in_left : IsBucketOn s ns i left = (
          p.left_on,
          subst (λ (r : Range). Covers r i) (sym p.joined) (half_in_range whole i valid shallow (inr covers)),
        ) in
        let near = falls s c ns left right i h.chained p.left_on dead link low in
        rw same (record {
          leads = record { stands = inr (rw is (contains_head right [])); reaches = low };
          near = one_hop s c ns right i h.chained near (rw link in_left);
        })
