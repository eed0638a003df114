-- A file and its outline have the same chain, free pages and directory.
use Rattle.std.proofs.Common.{ℕ, ◌≡◌, ◌<◌, ◌≤◌, ◌⊎◌, ◌^◌, nat_lt, ◌&&◌, nat_le, ◌==◌, Bool, List, length, refl, sym, ap, subst, ◌∙◌, inl, inr, get_or-take, Err, if◌then◌else◌}
use Rattle.std.proofs.Math.ListN.{get_or-map}
use Rattle.std.proofs.Math.Path.{fun_ext}
use Rattle.std.proofs.lemmas.List.{length-map}
use Rattle.directory.specs.declared.range.Range.{Range}
use Rattle.directory.specs.Links.{Links}
use Rattle.directory.specs.Partition.{IsPartition}
use Rattle.directory.specs.Ranges.{Covers}
use Rattle.directory.specs.Tiles.{IsTileAt, Tiles}
use Rattle.bucket_page.specs.declared.page.PageKind.{PageKind}
use Rattle.bucket_page.specs.declared.page.PageKind.TheVariants as kinds
use Rattle.hash_file.specs.Store.{Store, page_at, bucket_of, is_bucket, range_of, has_bucket, bucket_at, range_at, next_at, entry_at, IsFreePage}
use Rattle.hash_file.specs.Chain.{IsBucketOn, number_on, how_many}
use Rattle.hash_file.specs.Sound.{is_numbered}
use Rattle.file_walk.specs.declared.fault.StructureFault.{StructureFault}
use Rattle.file_walk.specs.declared.fault.StructureFault.TheVariants as faults
use Rattle.file_walk.specs.Outlines.{outlined, bare}
use Rattle.file_walk.specs.Order.{LacksMemory, IsOfMachine, HasReadCause}
use Rattle.file_walk.specs.Walks.{IsRightChain, IsChainSoFar, BreaksAt, AreSparesSoFar, HasRightSpares, IsRightDirectory, IsChainFault, IsSparesFault, IsDirectoryFault}

bare_next : (p : PageKind) → (bucket_of (bare p)).next ≡ (bucket_of p).next
bare_next (kinds.Bucket b) = refl
bare_next (kinds.Directory es) = refl
bare_next (kinds.Tombstone link) = refl
bare_next (kinds.Free next) = refl

bare_range : (p : PageKind) → range_of (bucket_of (bare p)) ≡ range_of (bucket_of p)
bare_range (kinds.Bucket b) = refl
bare_range (kinds.Directory es) = refl
bare_range (kinds.Tombstone link) = refl
bare_range (kinds.Free next) = refl

bare_live : (p : PageKind) → is_bucket (bare p) ≡ is_bucket p
bare_live (kinds.Bucket b) = refl
bare_live (kinds.Directory es) = refl
bare_live (kinds.Tombstone link) = refl
bare_live (kinds.Free next) = refl

bare_free : (p : PageKind) (m : ℕ) → bare p ≡ kinds.Free m → p ≡ kinds.Free m
bare_free (kinds.Bucket b) m e = absurd cc
bare_free (kinds.Directory es) m e = absurd cc
bare_free (kinds.Tombstone link) m e = absurd cc
bare_free (kinds.Free next) m e = e

module _ (s : Store) where
  page_same : (n : ℕ) → page_at (outlined s) n ≡ bare (page_at s n)
  page_same n = get_or-map bare s.pages n (kinds.Free 0)

  next_same : next_at (outlined s) ≡ next_at s
  next_same = fun_ext (λ n. ap (λ (p : PageKind). (bucket_of p).next) (page_same n) ∙ bare_next (page_at s n))

  range_same : range_at (outlined s) ≡ range_at s
  range_same = fun_ext (λ n. ap (λ (p : PageKind). range_of (bucket_of p)) (page_same n) ∙ bare_range (page_at s n))

  live_same : (n : ℕ) → has_bucket (outlined s) n ≡ has_bucket s n
  live_same n = ap is_bucket (page_same n) ∙ bare_live (page_at s n)

  depth_same : (n : ℕ) → (bucket_at (outlined s) n).depth ≡ (bucket_at s n).depth
  depth_same n = ap (λ (r : ℕ → Range). (r n).depth) range_same

  length_same : length (outlined s).pages ≡ length s.pages
  length_same = length-map s.pages bare

  free_same : (n : ℕ) → IsFreePage (outlined s) n → IsFreePage s n
  free_same n free =
      bare_free (page_at s n) (next_at s n)
      (sym (page_same n) ∙ free ∙ ap (λ (f : ℕ → ℕ). kinds.Free (f n)) next_same)

  free_kept : (n : ℕ) → IsFreePage s n → IsFreePage (outlined s) n
  free_kept n free =
      page_same n ∙ ap bare free ∙ ap (λ (f : ℕ → ℕ). kinds.Free (f n)) (sym next_same)

  numbered_same : (n : ℕ) → is_numbered (outlined s) n ≡ is_numbered s n
  numbered_same n = ap (λ k. nat_le s.layout.root n && nat_lt n k) length_same

  number_same : (ns : List ℕ) (depth : ℕ) → number_on (outlined s) ns depth ≡ number_on s ns depth
  number_same ns depth =
      ap (λ (f : ℕ → Bool). how_many f ns) (fun_ext (λ n. ap (λ d. d == depth) (depth_same n)))

  entry_same : (i : ℕ) → i < 2 ^ s.header.depth → entry_at (outlined s) i ≡ entry_at s i
  entry_same i small = get_or-take (2 ^ s.header.depth) s.entries i 0 small

  -- ---- the chain

  pub chain_of_file : (ns : List ℕ) → IsRightChain (outlined s) ns → IsRightChain s ns
  chain_of_file ns c = record {
    linked = subst (λ (f : ℕ → ℕ). Links f s.layout.root ns 0) next_same c.linked;
    partition = subst (λ (r : ℕ → Range). IsPartition r ns) range_same c.partition;
    buckets = λ n on. sym (live_same n) ∙ c.buckets n on;
  }

  so_far_same : (ns : List ℕ) (reached n : ℕ) → IsChainSoFar (outlined s) ns reached n → IsChainSoFar s ns reached n
  so_far_same ns reached n c = record {
    linked = subst (λ (f : ℕ → ℕ). Links f s.layout.root ns n) next_same c.linked;
    tiled = subst (λ (r : ℕ → Range). Tiles r 0 ns reached) range_same c.tiled;
    buckets = λ m on. sym (live_same m) ∙ c.buckets m on;
  }

  breaks_same : (n : ℕ) → BreaksAt (outlined s) n → BreaksAt s n
  breaks_same n b = record {
    so_far = b.so_far;
    reached = b.reached;
    right = so_far_same b.so_far b.reached n b.right;
    goes_on = λ c. b.goes_on (record {
      live = live_same n ∙ c.live;
      tile = subst (λ (r : ℕ → Range). IsTileAt (r n) b.reached) (sym range_same) c.tile;
    });
    ends = b.ends;
  }

  pub chain_fault : (fault : StructureFault) → IsChainFault (outlined s) fault → IsChainFault s fault
  chain_fault (faults.ChainBroken page) h = breaks_same page h
  chain_fault fault h = absurd h

  -- ---- the free pages

  pub spares_of_file : (ns : List ℕ) → HasRightSpares (outlined s) ns → HasRightSpares s ns
  spares_of_file ns h = (
    h.0,
    record {
      spared = record {
        linked = subst (λ (f : ℕ → ℕ). Links f s.header.first_free h.0 0) next_same h.1.spared.linked;
        free = λ n on. free_same n (h.1.spared.free n on);
      };
      roles = λ n. h.1.roles n ∙ ap (λ (b : Bool). if b then 1 else 0) (numbered_same n);
    },
  )

  spares_same : (ns spares : List ℕ) (n : ℕ) → AreSparesSoFar (outlined s) ns spares n → AreSparesSoFar s ns spares n
  spares_same ns spares n h = record {
    linked = subst (λ (f : ℕ → ℕ). Links f s.header.first_free spares n) next_same h.linked;
    free = λ m on. (free_same m (h.free m on).0, subst (λ k. m < k) length_same (h.free m on).1, (h.free m on).2);
    once = h.once;
  }

  pub spares_fault : (ns : List ℕ) (fault : StructureFault) → IsSparesFault (outlined s) ns fault
      → IsSparesFault s ns fault
  spares_fault ns (faults.NotFree page) h = record {
    so_far = h.so_far;
    right = spares_same ns h.so_far page h.right;
    goes_on = h.goes_on;
    wrong = elim h.wrong [
      | inl other ↦ inl (λ free. other (free_kept page free.0, subst (λ k. page < k) (sym length_same) free.1))
      | inr met ↦ inr met
    ];
  }
  spares_fault ns (faults.PageLost page) h = record {
    spares = h.spares;
    right = spares_same ns h.spares 0 h.right;
    numbered = sym (numbered_same page) ∙ h.numbered;
    nowhere = h.nowhere;
  }
  spares_fault ns fault h = absurd h

  -- ---- the directory

  on_same : (ns : List ℕ) (i n m : ℕ) → n ≡ m → IsBucketOn (outlined s) ns i n → IsBucketOn s ns i m
  on_same ns i n m e on =
      subst (IsBucketOn s ns i) e (on.0, subst (λ (r : ℕ → Range). Covers (r n) i) range_same on.1)

  on_kept : (ns : List ℕ) (i n m : ℕ) → n ≡ m → IsBucketOn s ns i m → IsBucketOn (outlined s) ns i n
  on_kept ns i n m e on =
      subst (IsBucketOn (outlined s) ns i) (sym e) (
        on.0,
        subst (λ (r : ℕ → Range). Covers (r m) i) (sym range_same)
            on.1,
      )

  pub directory_of_file : (ns : List ℕ) → IsRightDirectory (outlined s) ns → IsRightDirectory s ns
  directory_of_file ns d = record {
    shallow = λ n on. subst (λ k. k ≤ s.header.depth) (depth_same n) (d.shallow n on);
    entries = λ i small. on_same ns i _ _ (entry_same i small) (d.entries i small);
    counts = λ depth small. d.counts depth small ∙ number_same ns depth;
  }

  pub directory_fault : (ns : List ℕ) (fault : StructureFault) → IsDirectoryFault (outlined s) ns fault →
      IsDirectoryFault s ns fault
  directory_fault ns (faults.TooDeep page) h = (h.0, subst (λ k. s.header.depth < k) (depth_same page) h.1)
  directory_fault ns (faults.WrongEntry entry) h =
      (h.0, λ on. h.1 (on_kept ns entry _ _ (entry_same entry h.0) on))
  directory_fault ns (faults.WrongCount depth) h = (h.0, λ same. h.1 (same ∙ sym (number_same ns depth)))
  directory_fault ns fault h = absurd h

-- ---- what the machine lacks

pub of_machine : (fault : StructureFault) → LacksMemory fault → IsOfMachine fault
of_machine faults.NoMemory h = h
of_machine fault h = absurd h

-- a walk makes no transfer
pub no_transfer : {T : Type 0} (P : StructureFault → Type 0) (old new : ℕ) (fault : StructureFault) → old ≤ new →
    LacksMemory fault ⊎ P fault → (P faults.Device → ⊥) → HasReadCause {T = T} old new (Err fault)
no_transfer P old new fault later h never = record {
  later = later;
  failed = λ device. let is : fault ≡ faults.Device = cc in absurd (neither (subst (λ f. LacksMemory f ⊎ P f) is h));
}
  where
    neither : LacksMemory faults.Device ⊎ P faults.Device → ⊥
    neither (inl memory) = memory
    neither (inr fault) = never fault
