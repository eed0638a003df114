-- A quiet file is what it is where its entries and its pages are listed in another way, that says the same of each.
use Rattle.std.proofs.Common.{ℕ, ◌≡◌, ◌<◌, ◌≤◌, ◌+◌, ◌^◌, ◌==◌, ◌&&◌, nat_le, nat_lt, List, ◌++◌, length, slice_index_or, if◌then◌else◌, sym, ap, subst, ◌∙◌, inl, inr, lit<, arith}
use Rattle.std.specs.List.{Contains, flat_map}
use Rattle.std.proofs.Math.Nat.{pow-le-pow_right}
use Rattle.std.proofs.Math.Path.{fun_ext}
use Rattle.std.proofs.lemmas.List.{append-nil}
use Rattle.directory.specs.declared.pseudokey.TheConstants.{POSITIONS}
use Rattle.directory.specs.declared.range.Range.{Range}
use Rattle.directory.specs.Links.{Links, met_from}
use Rattle.directory.specs.Ranges.{Covers}
use Rattle.directory.specs.Tiles.{Tiles}
use Rattle.directory.proofs.PartitionLaws.{tiles_partition}
use Rattle.bucket_page.specs.declared.record_key.RecordKey.{RecordKey}
use Rattle.bucket_page.specs.declared.page.PageKind.{PageKind}
use Rattle.bucket_page.specs.declared.page.PageKind.TheVariants as kinds
use Rattle.bucket_page.specs.Bucket.{Bucket}
use Rattle.bucket_page.specs.Records.{lookup}
use Rattle.hash_file.specs.Store.{Store, bucket_at, bucket_of, entry_at, has_bucket, is_bucket, next_at, page_at, range_at, range_of}
use Rattle.hash_file.specs.Chain.{IsPlaced, chain, contents, how_many, number_on, times}
use Rattle.hash_file.specs.Change.{Quiet, lost}
use Rattle.hash_file.specs.Sound.{HasEntry, IsSoundFile, IsSoundOn}
use Rattle.hash_file.proofs.Frames.{sound_by}
use Rattle.hash_file.proofs.Roles.{numbered}
use Rattle.hash_file.proofs.Ties.{quiet_exact}
use Rattle.file_walk.specs.Walks.{HasRightSpares, IsRightChain, IsRightDirectory}

-- these entries and pages say what the file has
pub record SaysTheSame (s : Store) (es : List ℕ) (ps : List PageKind) : Type 0 where
  pub entries : (i : ℕ) → i < 2 ^ s.layout.greatest → slice_index_or es i 0 ≡ entry_at s i
  pub many : length ps ≡ length s.pages
  pub buckets : (n : ℕ) → bucket_of (slice_index_or ps n (kinds.Free 0)) ≡ bucket_at s n
  pub live : (n : ℕ) → is_bucket (slice_index_or ps n (kinds.Free 0)) ≡ has_bucket s n
  -- nothing is asked of those below the root
  pub pages : (n : ℕ) → s.layout.root ≤ n → slice_index_or ps n (kinds.Free 0) ≡ page_at s n

module _ (s : Store) (es : List ℕ) (ps : List PageKind) (same : SaysTheSame s es ps) where
  abbrev t : Store
  t = record s { entries = es; pages = ps }

  bucket_same : bucket_at t ≡ bucket_at s
  bucket_same = fun_ext same.buckets

  live_same : has_bucket t ≡ has_bucket s
  live_same = fun_ext same.live

  next_same : next_at t ≡ next_at s
  next_same = λ i n. (bucket_same i n).next

  range_same : range_at t ≡ range_at s
  range_same = λ i n. range_of (bucket_same i n)

  pub chain_same : chain t ≡ chain s
  unfolding chain
  chain_same = λ i. met_from (live_same i) (next_same i) (2 ^ s.layout.greatest) s.layout.root

  pub contents_same : (key : RecordKey) → contents t key ≡ contents s key
  contents_same key = λ i. lookup key (flat_map (λ (n : ℕ). (bucket_same i n).records) (chain_same i))

  number_same : (ns : List ℕ) (depth : ℕ) → number_on t ns depth ≡ number_on s ns depth
  number_same ns depth = λ i. how_many (λ (n : ℕ). (bucket_same i n).depth == depth) ns

  module _ (hash : RecordKey → ℕ) where
    -- the file is sound in the other way, where there is room for the deepest directory
    module _ (h : IsSoundFile hash s Quiet) (room : 2 ^ s.layout.greatest ≤ length es) where
      deepest : 2 ^ s.header.depth ≤ 2 ^ s.layout.greatest
      deepest = pow-le-pow_right {n = 2} (lit< tt) h.layout.depth

      entry : (i : ℕ) → i < 2 ^ s.header.depth → HasEntry s Quiet (chain s) i → HasEntry t Quiet (chain s) i
      entry i small (inl on) =
          let is : entry_at t i ≡ entry_at s i = same.entries i (omega (arith, small, deepest)) in
          inl (subst (λ n. Contains (chain s) n × Covers (range_at t n) i) (sym is)
          (on.0, subst (λ (r : ℕ → Range). Covers (r (entry_at s i)) i) (sym range_same) on.1))
      entry i small (inr off) = absurd off

      sound_on : IsSoundOn hash t Quiet (chain s)
      sound_on = record {
        layout = record {
          root = h.layout.root;
          greatest = h.layout.greatest;
          depth = h.layout.depth;
          entries = room;
          counts = h.layout.counts;
          pages = same.many ∙ h.layout.pages;
          header = same.live 0 ∙ h.layout.header;
        };
        chained = record {
          linked = subst (λ (f : ℕ → ℕ). Links f s.layout.root (chain s) 0) (sym next_same) h.chained.linked;
          tiled = subst (λ (r : ℕ → Range). Tiles r 0 (chain s) POSITIONS) (sym range_same) h.chained.tiled;
          buckets = λ n on. same.live n ∙ h.chained.buckets n on;
          shallow = λ n on. subst (λ (b : Bucket). b.depth ≤ s.header.depth) (sym (same.buckets n))
              (h.chained.shallow n on);
        };
        placed = λ n on. subst (IsPlaced hash) (sym (same.buckets n)) (h.placed n on);
        spares = h.spares;
        spared = record {
          linked = subst (λ (f : ℕ → ℕ). Links f s.header.first_free h.spares 0) (sym next_same) h.spared.linked;
          free = λ n on.
              same.pages n (numbered hash s Quiet (chain s) h n (inr (inl on))).0 ∙ h.spared.free n on
              ∙ ap (λ (b : Bucket). kinds.Free b.next) (sym (same.buckets n));
        };
        roles = λ n. h.roles n ∙ ap (λ k. if nat_le s.layout.root n && nat_lt n k then 1 else 0) (sym same.many);
        entries = λ i small. entry i small (h.entries i small);
        counts = λ depth small. h.counts depth small
            ∙ ap (λ k. lost Quiet depth + k) (sym (number_same (chain s) depth));
        phase = tt;
      }

      pub sound_same : IsSoundFile hash t Quiet
      sound_same = sound_by hash t Quiet (chain s) sound_on

    -- ---- and back: where it is sound in the other way, its structure is right

    module _ (h : IsSoundFile hash t Quiet) where
      pub placed_back : (n : ℕ) → Contains (chain t) n → IsPlaced hash (bucket_at s n)
      placed_back n on = subst (IsPlaced hash) (same.buckets n) (h.placed n on)

      pub chain_back : IsRightChain s (chain t)
      chain_back = record {
        linked = subst (λ (f : ℕ → ℕ). Links f s.layout.root (chain t) 0) next_same h.chained.linked;
        partition = tiles_partition (range_at s) (chain t)
            (subst (λ (r : ℕ → Range). Tiles r 0 (chain t) POSITIONS) range_same h.chained.tiled);
        buckets = λ n on. sym (same.live n) ∙ h.chained.buckets n on;
      }

      pub spares_back : HasRightSpares s (chain t)
      spares_back = (
        h.spares,
        record {
          spared = record {
            linked = subst (λ (f : ℕ → ℕ). Links f s.header.first_free h.spares 0) next_same h.spared.linked;
            free = λ n on.
                sym (same.pages n (numbered hash t Quiet (chain t) h n (inr (inl on))).0) ∙ h.spared.free n on
                ∙ ap (λ (b : Bucket). kinds.Free b.next) (same.buckets n);
          };
          roles = λ n.
              sym (ap (λ (xs : List ℕ). times n (chain t ++ xs)) (append-nil h.spares)) ∙ h.roles n
              ∙ ap (λ k. if nat_le s.layout.root n && nat_lt n k then 1 else 0) same.many;
        },
      )

      deep : 2 ^ s.header.depth ≤ 2 ^ s.layout.greatest
      deep = pow-le-pow_right {n = 2} (lit< tt) h.layout.depth

      pub index_back : IsRightDirectory s (chain t)
      index_back = record {
        shallow = λ n on. subst (λ (b : Bucket). b.depth ≤ s.header.depth) (same.buckets n) (h.chained.shallow n on);
        entries = λ i small.
            let on = (quiet_exact hash t h).entries i small in
            subst (λ n. Contains (chain t) n × Covers (range_at s n) i)
            (same.entries i (omega (arith, small, deep)))
            (on.0, subst (λ (r : ℕ → Range). Covers (r (entry_at t i)) i) range_same on.1);
        counts = λ depth small. (quiet_exact hash t h).counts depth small ∙ number_same (chain t) depth;
      }
