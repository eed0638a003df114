-- How far an entry is from the bucket of a pseudokey, that was found by a depth read before.
use Rattle.std.proofs.Common.{subst, ◌≡◌, ◌≤◌, ◌+◌, ◌-◌, ◌%◌, ◌^◌, ℕ, suc, Bool, if◌then◌else◌, ap, ◌∙◌, inl, arith}
use Rattle.step_rules.proofs.Names.{POSITIONS, begun, position_of, start_of}
use Rattle.directory.proofs.CountLaws.{begun_rises, begun_inside}
use Rattle.directory.proofs.PositionLaws.{position_truncated}
use Rattle.directory.proofs.RangeLaws.{covers_truncated}
use Rattle.bucket_page.specs.declared.record_key.RecordKey.{RecordKey}
use Rattle.hash_file.specs.Store.{Store, entry_at, has_bucket, range_at, next_at}
use Rattle.hash_file.specs.Chain.{chain, IsChain, IsBucketOn}
use Rattle.hash_file.specs.Search.{reach, PageLeads, distance}
use Rattle.hash_file.specs.Change.{Quiet}
use Rattle.hash_file.specs.Sound.{IsSoundFile}
use Rattle.hash_file.specs.Looks.{Answers}
use Rattle.hash_file.proofs.Chains.{bucket_found, has_position}
use Rattle.hash_file.proofs.Ties.{quiet_exact}
use Rattle.hash_file.proofs.Searches.{bucket_leads, entries_lead, stale_depths_lead, hops_lead_on}
use Rattle.step_rules.specs.declared.kind.Kind.{Kind}
use Rattle.step_rules.specs.World.{World}
use Rattle.step_rules.specs.Sound.{IsSoundWorld}
use Rattle.step_rules.specs.Known.{Deep, IsKnown}
use Rattle.step_rules.specs.Ways.{hops_added, hops_between, KindParts}
use Rattle.step_rules.proofs.KindLemmas.{kind_keeps}
use Rattle.step_rules.proofs.OwnLemmas.{low_bits_below}
use Rattle.step_rules.proofs.WayLemmas.{kind_lengthens}

-- how many live buckets have begun at a position
abbrev begun_at : Store → ℕ → ℕ
begun_at s p = begun (range_at s) (chain s) p

-- none begins in a bucket behind its start
begun_in : (s : Store) (n k : ℕ) → IsChain s (chain s) → IsBucketOn s (chain s) k n →
    begun_at s (position_of k) ≡ begun_at s (start_of (range_at s n))
begun_in s n k chained b = begun_inside (range_at s) (chain s) 0 POSITIONS n (position_of k) chained.tiled b.0
    (has_position s (chain s) k n chained b)

pub depth_is_exact : (hash : RecordKey → ℕ) (w : World) (k : ℕ) → IsSoundWorld hash w →
    hops_between w.store w.store.header.depth k ≡ 0
depth_is_exact hash w k sound = at_bucket (bucket_found s (chain s) i sound.file.chained)
  where
    s : Store
    s = w.store

    i : ℕ
    i = k % 2 ^ w.store.header.depth

    at_bucket : (n : ℕ) × IsBucketOn w.store (chain w.store) (k % 2 ^ w.store.header.depth) n →
        hops_between w.store w.store.header.depth k ≡ 0
    at_bucket (n, b) =
        let covers =
        (covers_truncated (range_at w.store n) w.store.header.depth k (sound.file.chained.shallow n b.0)).0 b.1 in
        omega (
          arith,
          begun_in w.store n (k % 2 ^ w.store.header.depth) sound.file.chained b,
          begun_in w.store n k sound.file.chained (b.0, covers),
        )

-- the way from the bucket of the low bits
way_from : (s : Store) (n i k : ℕ) → IsChain s (chain s) → IsBucketOn s (chain s) i n →
    distance s n k ≡ begun_at s (position_of k) - begun_at s (position_of i)
way_from s n i k chained b =
    let live = chained.buckets n b.0 in
    let from : ℕ = begun_at s (position_of k) in
    ap (λ (x : Bool). from - begun_at s (if x then start_of (range_at s n) else start_of (range_at s (next_at s n)))
    + (if x then 0 else 1)) live
    ∙ rw (begun_in s n i chained b) (omega arith)

-- a page that leads to the low bits is no nearer
way_over : (s : Store) (n i k : ℕ) → reach s n ≤ position_of i →
    begun_at s (position_of k) - begun_at s (position_of i) ≤ distance s n k
way_over s n i k reaches =
    let rises = begun_rises (range_at s) (chain s) (reach s n) (position_of i) reaches in
    let last : ℕ = if has_bucket s n then 0 else 1 in
    let short : begun_at s (position_of k) - begun_at s (position_of i)
    ≤ begun_at s (position_of k) - begun_at s (reach s n) + last = omega (arith, rises) in
    short

pub kind_parts : (kind : Kind) → KindParts kind
kind_parts kind hash seat other old new d k sound does apart there =
    at_bucket (bucket_found old.store (chain old.store) (k % 2 ^ d) sound.file.chained)
  where
    at_bucket : (n : ℕ) × IsBucketOn old.store (chain old.store) (k % 2 ^ d) n →
        hops_between new.store d k ≤ hops_between old.store d k + hops_added kind
    at_bucket (n, b) =
        let low = (bucket_leads old.store old.change (chain old.store) n (k % 2 ^ d) sound.file.chained b).0 in
        let leads = stale_depths_lead old.store old.change n k d low in
        let longer = kind_lengthens kind hash seat other old new n k sound does apart (inl there) leads in
        let still =
        (kind_keeps kind hash seat old new sound does).leaves.leads other n (k % 2 ^ d) apart (inl there) low in
        omega (
          arith,
          longer,
          way_from old.store n (k % 2 ^ d) k sound.file.chained b,
          way_over new.store n (k % 2 ^ d) k still.reaches,
        )

pub entry_is_near : (hash : RecordKey → ℕ) (seat : ℕ) (w : World) (d k : ℕ) → IsSoundWorld hash w →
    IsKnown seat w (Deep d) → distance w.store (entry_at w.store (k % 2 ^ d)) k ≤ hops_between w.store d k + 1
entry_is_near hash seat w d k sound deep =
    let i : ℕ = k % 2 ^ d in
    let e : ℕ = entry_at w.store i in
    let entry = entries_lead hash w.store w.change (chain w.store) e i sound.file
    (sound.file.entries i (low_bits_below k d w.store.header.depth deep.1)) in
    let last : ℕ = if has_bucket w.store e then 0 else 1 in
    let near : begun_at w.store (position_of i) - begun_at w.store (reach w.store e) + last ≤ 1 = entry.near in
    let first = begun_rises (range_at w.store) (chain w.store) (reach w.store e) (position_of i) entry.leads.reaches in
    let further =
    begun_rises (range_at w.store) (chain w.store) (position_of i) (position_of k) (position_truncated d k) in
    let whole : begun_at w.store (position_of k) - begun_at w.store (reach w.store e) + last
    ≤ begun_at w.store (position_of k) - begun_at w.store (position_of i) + 1 = omega (arith, near, first, further) in
    whole

-- while no change is under way the entry is the bucket of the low bits
pub entry_is_there : (hash : RecordKey → ℕ) (seat : ℕ) (w : World) (d k : ℕ) → IsSoundWorld hash w →
    IsKnown seat w (Deep d) → w.change ≡ Quiet →
    distance w.store (entry_at w.store (k % 2 ^ d)) k ≤ hops_between w.store d k
entry_is_there hash seat w d k sound deep quiet =
    let i : ℕ = k % 2 ^ d in
    let exact = quiet_exact hash w.store (subst (IsSoundFile hash w.store) quiet sound.file) in
    let named = exact.entries i (low_bits_below k d w.store.header.depth deep.1) in
    omega (arith, way_from w.store (entry_at w.store i) i k sound.file.chained named)

pub hop_is_nearer : (hash : RecordKey → ℕ) (w : World) (page k : ℕ) → IsSoundWorld hash w →
    PageLeads w.store w.change page k → (Answers w.store page k → ⊥) →
    distance w.store page k ≡ suc (distance w.store (next_at w.store page) k)
hop_is_nearer hash w page k sound leads other =
    (hops_lead_on hash w.store w.change (chain w.store) page k sound.file leads other).nearer
