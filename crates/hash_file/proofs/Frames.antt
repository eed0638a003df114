-- What a change of pages leaves as it was, and how the law of a change is closed.
use Rattle.std.proofs.Common.{ℕ, ◌≡◌, ◌≢◌, ◌+◌, ◌==◌, ◌<◌, ◌≤◌, List, Bool, true, false, length, arith, refl, sym, ap, subst, ◌∙◌, inl, inr}
use Rattle.std.specs.List.{Contains}
use Rattle.std.proofs.lemmas.List.{get_or-set_same, get_or-set_other}
use Rattle.directory.specs.declared.range.Range.{Range}
use Rattle.directory.specs.Positions.{position_of}
use Rattle.directory.specs.Ranges.{Covers, start_of}
use Rattle.directory.specs.Tiles.{begun}
use Rattle.directory.proofs.CountLaws.{begun_same}
use Rattle.directory.proofs.TileLaws.{tiles_same}
use Rattle.directory.proofs.WalkLaws.{links_same}
use Rattle.directory.specs.declared.pseudokey.TheConstants.{POSITIONS}
use Rattle.bucket_page.specs.declared.record_key.RecordKey.{RecordKey}
use Rattle.bucket_page.specs.declared.page.PageKind.{PageKind}
use Rattle.bucket_page.specs.declared.page.PageKind.TheVariants as kinds
use Rattle.bucket_page.specs.Records.{lookup}
use Rattle.hash_file.specs.Store.{Store, page_at, is_bucket, bucket_of, bucket_at, range_of, has_bucket, range_at, next_at, entry_at}
use Rattle.hash_file.specs.Chain.{contents, pairs_on, IsChain, IsBucketOn, number_on}
use Rattle.hash_file.specs.Change.{Change}
use Rattle.hash_file.specs.Search.{reach, PageLeads, PageLeadsOn, distance, distance_on}
use Rattle.hash_file.specs.Sound.{IsSoundOn, IsSoundFile, HasLayout, HasEntry, IsFreeList, is_numbered}
use Rattle.hash_file.specs.Changes.{with_page}
use Rattle.hash_file.specs.Kept.{HasShapeOf, KeepsFile, LengthensWays}
use Rattle.hash_file.proofs.Chains.{chain_is}
use Rattle.hash_file.proofs.Lists.{how_many_same}

-- ---- closing

pub sound_by : (hash : RecordKey → ℕ) (t : Store) (d : Change) (ms : List ℕ) → IsSoundOn hash t d ms → IsSoundFile
    hash t d
sound_by hash t d ms h =
    subst (λ (ns : List ℕ). IsSoundOn hash t d ns) (sym (chain_is t ms h.layout h.chained)) h

-- what is shown of a list that is sound is so of the chain
pub keeps_by : (hash : RecordKey → ℕ) (s : Store) (c : Change) (t : Store) (d : Change) (ms : List ℕ) →
    IsSoundOn hash t d ms → ((key : RecordKey) → lookup key (pairs_on t ms) ≡ contents s key) →
    ((n k : ℕ) → PageLeads s c n k → PageLeadsOn t d ms n k) → KeepsFile hash s c t d
keeps_by hash s c t d ms h same leads =
    let is = chain_is t ms h.layout h.chained in
    record {
      sound = sound_by hash t d ms h;
      contents = λ key. ap (λ (ns : List ℕ). lookup key (pairs_on t ns)) is ∙ same key;
      leads = λ n k l. subst (λ (ns : List ℕ). PageLeadsOn t d ns n k) (sym is) (leads n k l);
    }

-- likewise of ways
pub ways_by : (hops : ℕ) (s : Store) (c : Change) (t : Store) (ms : List ℕ) → HasLayout t → IsChain t ms →
    ((n k : ℕ) → PageLeads s c n k → distance_on t ms n k ≤ distance s n k + hops) → LengthensWays hops s c t
ways_by hops s c t ms layout h near n k l =
    subst (λ (ns : List ℕ). distance_on t ns n k ≤ distance s n k + hops) (sym (chain_is t ms layout h)) (near n k l)

-- ---- pages

-- a page is written, and no other
pub page_other : (s : Store) (n m : ℕ) (page : PageKind) → m ≢ n → page_at (with_page n page s) m ≡ page_at s m
page_other s n m page other = get_or-set_other s.pages n m page (kinds.Free 0) other

pub page_same : (s : Store) (n : ℕ) (page : PageKind) → n < length s.pages → page_at (with_page n page s) n ≡ page
page_same s n page within = get_or-set_same s.pages n page (kinds.Free 0) within

pub shape_of_page : (s t : Store) (n : ℕ) → page_at t n ≡ page_at s n → HasShapeOf s t n
shape_of_page s t n same = record {
  live = ap is_bucket same;
  range = ap (λ (p : PageKind). range_of (bucket_of p)) same;
  next = ap (λ (p : PageKind). (bucket_of p).next) same;
}

-- a page reaches what it reached where it and the page that it names have their shapes
pub reach_same : (s t : Store) (n : ℕ) → HasShapeOf s t n → (has_bucket s n ≡ false → HasShapeOf s t (next_at s n)) →
    reach t n ≡ reach s n
reach_same s t n here there = by_test (has_bucket s n) refl
  where
    by_test : (b : Bool) → has_bucket s n ≡ b → reach t n ≡ reach s n
    by_test true live =
        let live' = here.live ∙ live in
        rw (live, live') (ap (λ (r : Range). position_of r.pattern) here.range)
    by_test false dead =
        let dead' = here.live ∙ dead in
        rw (dead, dead', here.next) (ap (λ (r : Range). position_of r.pattern) (there dead).range)

-- ---- a file whose pages alone have changed

abbrev pub repaged : Store → List PageKind → Store
repaged s pages = record s { pages = pages }

module _ (s : Store) (pages : List PageKind) where
  abbrev t : Store
  t = repaged s pages

  pub covers_shaped : (ns : List ℕ) (k n : ℕ) → HasShapeOf s t n → IsBucketOn s ns k n → IsBucketOn t ns k n
  covers_shaped ns k n same b = (b.0, subst (λ (r : Range). Covers r k) (sym same.range) b.1)

  pub chain_shaped : (ns : List ℕ) → ((n : ℕ) → Contains ns n → HasShapeOf s t n) → IsChain s ns → IsChain t ns
  chain_shaped ns same h = record {
    linked = links_same (next_at s) (next_at t) ns s.layout.root 0 (λ n c. (same n c).next) h.linked;
    tiled = tiles_same (range_at s) (range_at t) ns 0 POSITIONS (λ n c. (same n c).range) h.tiled;
    buckets = λ n c. (same n c).live ∙ h.buckets n c;
    shallow = λ n c. omega (arith, h.shallow n c, ap (λ (r : Range). r.depth) (same n c).range);
  }

  pub entry_shaped : (c : Change) (ns : List ℕ) (i : ℕ) → ((n : ℕ) → Contains ns n → HasShapeOf s t n) →
      HasEntry s c ns i → HasEntry t c ns i
  entry_shaped c ns i same (inl b) = inl (covers_shaped ns i (entry_at s i) (same (entry_at s i) b.0) b)
  entry_shaped c ns i same (inr detour) = inr detour

  pub number_shaped : (ns : List ℕ) (depth : ℕ) → ((n : ℕ) → Contains ns n → HasShapeOf s t n) →
      number_on t ns depth ≡ number_on s ns depth
  number_shaped ns depth same =
      how_many_same (λ (n : ℕ). (bucket_at s n).depth == depth) (λ (n : ℕ). (bucket_at t n).depth == depth) ns
      (λ n c. ap (λ (r : Range). r.depth == depth) (same n c).range)

  pub spared_same : (spares : List ℕ) → ((n : ℕ) → Contains spares n → page_at t n ≡ page_at s n) →
      IsFreeList s spares → IsFreeList t spares
  spared_same spares same f = record {
    linked = links_same (next_at s) (next_at t) spares s.header.first_free 0
        (λ n c. ap (λ (p : PageKind). (bucket_of p).next) (same n c)) f.linked;
    free = λ n c. same n c ∙ f.free n c
        ∙ sym (ap (λ (p : PageKind). kinds.Free (bucket_of p).next) (same n c));
  }

  pub numbered_same : length pages ≡ length s.pages → (n : ℕ) → is_numbered t n ≡ is_numbered s n
  numbered_same same n = rw same refl

  pub layout_same : length pages ≡ length s.pages → has_bucket t 0 ≡ has_bucket s 0 → HasLayout s → HasLayout t
  layout_same same header l = record {
    root = l.root;
    greatest = l.greatest;
    depth = l.depth;
    entries = l.entries;
    counts = l.counts;
    pages = same ∙ l.pages;
    header = header ∙ l.header;
  }

  -- where pages of the chain have their shapes, as many begin on the way
  pub begun_shaped : (ns : List ℕ) (p : ℕ) → ((n : ℕ) → Contains ns n → HasShapeOf s t n) →
      begun (range_at t) ns p ≡ begun (range_at s) ns p
  begun_shaped ns p same = begun_same (range_at s) (range_at t) ns p (λ n c. ap start_of (same n c).range)

  -- and a page that reaches what it reached is as far off
  pub distance_shaped : (ns : List ℕ) (n k : ℕ) → ((m : ℕ) → Contains ns m → HasShapeOf s t m) →
      reach t n ≡ reach s n → has_bucket t n ≡ has_bucket s n → distance_on t ns n k ≡ distance_on s ns n k
  distance_shaped ns n k same reaches live =
      rw (reaches, live, begun_shaped ns (position_of k) same, begun_shaped ns (reach s n) same) refl
