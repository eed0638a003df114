-- A chain is walked: what each page adds, where it breaks, and that a broken one is no chain.
use Rattle.std.proofs.Common.{ℕ, ◌≡◌, ◌≢◌, ◌<◌, List, [], ◌∷◌, ◌++◌, true, refl, sym, ap, subst, ◌∙◌, inl, inr, arith}
use Rattle.std.specs.List.{Contains}
use Rattle.std.proofs.lemmas.List.Elements.{Contains-append_cases}
use Rattle.directory.specs.declared.pseudokey.TheConstants.{POSITIONS}
use Rattle.directory.specs.declared.range.Range.{Range}
use Rattle.directory.specs.Links.{Links}
use Rattle.directory.specs.Ranges.{stop_of}
use Rattle.directory.specs.Tiles.{IsTileAt, Tiles}
use Rattle.directory.proofs.MemberLaws.{contains_cases, contains_none, contains_head, contains_tail}
use Rattle.directory.proofs.PartitionLaws.{partition_tiles, tiles_partition}
use Rattle.directory.proofs.PositionLaws.{position_below, width_positive}
use Rattle.directory.proofs.TileLaws.{tiles_push}
use Rattle.directory.proofs.WalkLaws.{links_join}
use Rattle.hash_file.specs.Store.{Store, has_bucket, range_at, next_at}
use Rattle.hash_file.specs.declared.page.Shape.{Shape}
use Rattle.file_walk.specs.Outlines.{IsBucketAt}
use Rattle.file_walk.specs.Walks.{IsRightChain, IsChainSoFar, ContinuesAt, EndsAt, BreaksAt}

-- no range begins behind all positions
pub no_tile_behind : (r : Range) → IsTileAt r POSITIONS → ⊥
no_tile_behind r t = let low = position_below r.pattern in let begins = t.begins in omega arith

pub further : (r : Range) (reached : ℕ) → IsTileAt r reached → reached < stop_of r
further r reached t = let wide = width_positive r.depth in let begins = t.begins in omega arith

module _ (s : Store) where
  pub chain_begun : IsChainSoFar s [] 0 s.layout.root
  chain_begun = record { linked = refl; tiled = refl; buckets = λ n on. absurd (contains_none n on) }

  -- one page more
  pub chain_goes_on : (ns : List ℕ) (reached n : ℕ) (shape : Shape) → IsChainSoFar s ns reached n →
      IsBucketAt s n shape → IsTileAt shape.range reached
      → IsChainSoFar s (ns ++ n ∷ []) (stop_of shape.range) shape.next
  chain_goes_on ns reached n shape h b t =
      let tile : IsTileAt (range_at s n) reached =
      subst (λ (x : Shape). IsTileAt x.range reached) b.shaped t in
      record {
        linked = links_join (next_at s) ns (n ∷ []) s.layout.root n shape.next h.linked
            (refl, sym (ap (λ (x : Shape). x.next) b.shaped));
        tiled = subst (λ (x : Shape). Tiles (range_at s) 0 (ns ++ n ∷ []) (stop_of x.range)) (sym b.shaped)
            (tiles_push (range_at s) ns n 0 reached h.tiled tile);
        buckets = λ m on. elim (Contains-append_cases ns (n ∷ []) m on) [
          | inl was ↦ h.buckets m was
          | inr now ↦ elim (contains_cases n m [] now) [
            | inl same ↦ subst (λ k. has_bucket s k ≡ true) same b.live
            | inr none ↦ absurd (contains_none m none)
          ]
        ];
      }

  pub chain_whole : (ns : List ℕ) (reached n : ℕ) → IsChainSoFar s ns reached n → reached ≡ POSITIONS → n ≡ 0 →
      IsRightChain s ns
  chain_whole ns reached n h all last = record {
    linked = subst (Links (next_at s) s.layout.root ns) last h.linked;
    partition = tiles_partition (range_at s) ns (subst (Tiles (range_at s) 0 ns) all h.tiled);
    buckets = h.buckets;
  }

  -- and where it goes on behind the last position
  pub breaks_behind : (ns : List ℕ) (reached n : ℕ) → IsChainSoFar s ns reached n → reached ≡ POSITIONS → n ≢ 0 →
      BreaksAt s n
  breaks_behind ns reached n h all other = record {
    so_far = ns;
    reached = reached;
    right = h;
    goes_on = λ c. no_tile_behind (range_at s n) (subst (IsTileAt (range_at s n)) all c.tile);
    ends = λ e. other e.last;
  }

  -- a chain that breaks has no end in order
  broken_from : (ns xs : List ℕ) (x y p reached n : ℕ) → x ≡ y → Links (next_at s) x ns n
      → Tiles (range_at s) p ns reached →
      Links (next_at s) y xs 0 → Tiles (range_at s) p xs POSITIONS → ((m : ℕ) → Contains xs m → has_bucket s m ≡ true) →
      (ContinuesAt s n reached → ⊥) → (EndsAt n reached → ⊥) → ⊥
  broken_from [] [] x y p reached n same l t k u live goes ends =
      ends (record { all = sym t ∙ u; last = sym l ∙ same ∙ k })
  broken_from [] (z ∷ zs) x y p reached n same l t k u live goes ends =
      let is : z ≡ n = sym k.0 ∙ sym same ∙ l in
      goes (record {
        live = subst (λ m. has_bucket s m ≡ true) is (live z (contains_head z zs));
        tile = subst (λ m. IsTileAt (range_at s m) reached) is (subst (IsTileAt (range_at s z)) t u.0);
      })
  broken_from (w ∷ ws) [] x y p reached n same l t k u live goes ends =
      no_tile_behind (range_at s w) (subst (IsTileAt (range_at s w)) u t.0)
  broken_from (w ∷ ws) (z ∷ zs) x y p reached n same l t k u live goes ends =
      let is : w ≡ z = sym l.0 ∙ same ∙ k.0 in
      broken_from ws zs (next_at s w) (next_at s z) (stop_of (range_at s w)) reached n (ap (next_at s) is) l.1 t.1 k.1
      (subst (λ m. Tiles (range_at s) (stop_of (range_at s m)) zs POSITIONS) (sym is) u.1)
      (λ m on. live m (contains_tail z m zs on)) goes ends

  pub broken_is_no_chain : (n : ℕ) (xs : List ℕ) → BreaksAt s n → IsRightChain s xs → ⊥
  broken_is_no_chain n xs b c =
      broken_from b.so_far xs s.layout.root s.layout.root 0 b.reached n refl b.right.linked b.right.tiled c.linked
      (partition_tiles (range_at s) xs c.partition) c.buckets b.goes_on b.ends
