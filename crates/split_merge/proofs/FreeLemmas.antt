-- The first free page, and what was taken of the list.
use Rattle.std.proofs.Common.{◌≡◌, ◌≢◌, subst, ℕ, ◌≤◌, ◌<◌, List, [], ◌∷◌, length, inl, inr, arith}
use Rattle.std.specs.List.{Contains}
use Rattle.directory.proofs.MemberLaws.{contains_head}
use Rattle.directory.specs.Links.{Links}
use Rattle.hash_file.specs.Store.{Store, next_at, IsFreePage}
use Rattle.hash_file.specs.Sound.{IsSoundFile}
use Rattle.hash_file.specs.Change.{Quiet}
use Rattle.hash_file.specs.Chain.{chain}
use Rattle.hash_file.proofs.Roles.{numbered}
use Rattle.stale_search.specs.file_pages.Headers.{HasFreePage}
use Rattle.split_merge.specs.Words.{RecordKey, ROOT_PAGE}

-- of a sound file it is one of the file's pages, and free
pub first_free_is_there : (hash : RecordKey → ℕ) (s : Store) → IsSoundFile hash s Quiet → s.layout.root ≡ ROOT_PAGE →
    s.header.first_free ≢ 0 → HasFreePage s
first_free_is_there hash s h root some =
    from_list h.spares h.spared.linked (λ n on. h.spared.free n on)
    (λ n on. numbered hash s Quiet (chain s) h n (inr (inl on)))
  where
    from_list : (spares : List ℕ) → Links (next_at s) s.header.first_free spares 0 →
        ((n : ℕ) → Contains spares n → IsFreePage s n) →
        ((n : ℕ) → Contains spares n → (s.layout.root ≤ n) × (n < length s.pages)) → HasFreePage s
    from_list [] linked free there = absurd (some linked)
    from_list (m ∷ spares) linked free there =
        let on = contains_head m spares in
        let is = linked.0 in
        let has = there m on in
        record {
          behind = omega (arith, has.0, root, is);
          within = omega (arith, has.1, is);
          free = subst (IsFreePage s) (let same : m ≡ s.header.first_free = omega (arith, is) in same) (free m on);
        }
