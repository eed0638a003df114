-- A file whose header and directory alone have changed: its chain and its records are what they were.
use Rattle.std.proofs.Common.{ℕ, zero, suc, ◌≡◌, ◌+◌, ◌<◌, ◌≤◌, List, [], ◌∷◌, length, slice_index_or, arith, refl, sym, ap, ◌∙◌, inl, inr}
use Rattle.std.specs.List.{Contains}
use Rattle.bucket_page.specs.declared.record_key.RecordKey.{RecordKey}
use Rattle.bucket_page.specs.directory.declared.header.Header.{Header}
use Rattle.hash_file.specs.Store.{Store, bucket_at}
use Rattle.hash_file.specs.Chain.{chain, IsChain}
use Rattle.hash_file.specs.Change.{Change, aside}
use Rattle.hash_file.specs.Sound.{IsSoundOn, HasLayout, IsFreeList}
use Rattle.hash_file.specs.Changes.{mapped_from}
use Rattle.hash_file.specs.Kept.{KeepsFile}
use Rattle.hash_file.proofs.Frames.{keeps_by}

abbrev pub headed : Store → Header → List ℕ → Store
headed s head entries = record s { header = head; entries = entries }

-- a header with room for the same
pub record HasRoomOf (s : Store) (head : Header) (entries : List ℕ) : Type 0 where
  pub depth : head.depth ≤ s.layout.greatest
  pub slots : length entries ≡ length s.entries
  pub counts : length head.counts ≡ length s.header.counts
  pub pages : head.pages ≡ s.header.pages

module _ (s : Store) (head : Header) (entries : List ℕ) where
  pub layout_headed : HasRoomOf s head entries → HasLayout s → HasLayout (headed s head entries)
  layout_headed room l = record {
    root = l.root;
    greatest = l.greatest;
    depth = room.depth;
    entries = omega (arith, l.entries, room.slots);
    counts = omega (arith, room.counts, l.counts);
    pages = l.pages ∙ sym room.pages;
    header = l.header;
  }

  pub chain_headed : (ns : List ℕ) → ((n : ℕ) → Contains ns n → (bucket_at s n).depth ≤ head.depth) → IsChain s ns →
      IsChain (headed s head entries) ns
  chain_headed ns shallow h =
      record { linked = h.linked; tiled = h.tiled; buckets = h.buckets; shallow = shallow }

  pub spared_headed : (spares : List ℕ) → head.first_free ≡ s.header.first_free → IsFreeList s spares →
      IsFreeList (headed s head entries) spares
  spared_headed spares same f = record { linked = rw same (f.linked); free = f.free }

  -- so what is sound of it keeps what the file holds, and where pages lead
  pub keeps_headed : (hash : RecordKey → ℕ) (c d : Change) → IsSoundOn hash (headed s head entries) d (chain s) →
      ((n : ℕ) → Contains (aside c) n → Contains (aside d) n) → KeepsFile hash s c (headed s head entries) d
  keeps_headed hash c d h beside = keeps_by hash s c (headed s head entries) d (chain s) h (λ key. refl)
      (λ n k l. record {
        stands = elim l.stands [ inl on ↦ inl on | inr off ↦ inr (beside n off) ];
        reaches = l.reaches;
      })

-- ---- entries

pub length-mapped : (change : ℕ → ℕ → ℕ) (i : ℕ) (es : List ℕ) → length (mapped_from i change es) ≡ length es
length-mapped change i [] = refl
length-mapped change i (e ∷ es) = ap suc (length-mapped change (suc i) es)

pub mapped_at : (change : ℕ → ℕ → ℕ) (i k : ℕ) (es : List ℕ) → k < length es →
    slice_index_or (mapped_from i change es) k 0 ≡ change (i + k) (slice_index_or es k 0)
mapped_at change i k [] within = absurd (omega arith)
mapped_at change i zero (e ∷ es) within = ap (λ j. change j e) (omega arith)
mapped_at change i (suc k) (e ∷ es) within =
    mapped_at change (suc i) k es (omega arith)
    ∙ ap (λ j. change j (slice_index_or es k 0)) (omega arith)

pub mapped_first : (change : ℕ → ℕ → ℕ) (k : ℕ) (es : List ℕ) → k < length es →
    slice_index_or (mapped_from 0 change es) k 0 ≡ change k (slice_index_or es k 0)
mapped_first change k es within =
    mapped_at change 0 k es within ∙ ap (λ j. change j (slice_index_or es k 0)) (omega arith)
