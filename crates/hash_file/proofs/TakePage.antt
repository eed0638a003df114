-- The first free page is taken off the free list, and a page is put on it.
use Rattle.std.proofs.Common.{ℕ, ◌≡◌, ◌≢◌, List, [], ◌∷◌, ◌++◌, if◌then◌else◌, arith, refl, sym, ap, subst, ◌∙◌, inl, inr}
use Rattle.std.specs.List.{Contains}
use Rattle.directory.specs.Links.{Links}
use Rattle.directory.proofs.MemberLaws.{contains_head, contains_tail, contains_cases}
use Rattle.bucket_page.specs.declared.record_key.RecordKey.{RecordKey}
use Rattle.bucket_page.specs.declared.page.PageKind.{PageKind}
use Rattle.bucket_page.specs.declared.page.PageKind.TheVariants as kinds
use Rattle.hash_file.specs.Store.{Store, bucket_of, next_at, IsFreePage}
use Rattle.hash_file.specs.Chain.{chain, times}
use Rattle.hash_file.specs.Change.{Quiet, Taken, Freed}
use Rattle.hash_file.specs.Sound.{IsSoundFile, is_numbered}
use Rattle.hash_file.specs.Changes.{take_page, link_free}
use Rattle.hash_file.specs.Kept.{KeepsFile}
use Rattle.hash_file.proofs.Headed.{layout_headed, chain_headed, keeps_headed}
use Rattle.hash_file.proofs.Roles.{thrice}
use Rattle.hash_file.proofs.Lists.{times_append}

-- a page goes from the free list to those owned
moves : (n m : ℕ) (ns spares : List ℕ) → times n (ns ++ (spares ++ m ∷ [])) ≡ times n (ns ++ ((m ∷ spares) ++ []))
moves n m ns spares = omega (
  arith,
  thrice n ns spares (m ∷ []),
  thrice n ns (m ∷ spares) [],
  times_append n (m ∷ []) spares,
)

pub take_page_keeps : (hash : RecordKey → ℕ) (s : Store) → IsSoundFile hash s Quiet → s.header.first_free ≢ 0 →
    KeepsFile hash s Quiet (take_page s) (Taken s.header.first_free)
take_page_keeps hash s h some = from_list h.spares h.spared.linked h.spared.free h.roles
  where
    from_list : (spares : List ℕ) → Links (next_at s) s.header.first_free spares 0 →
        ((n : ℕ) → Contains spares n → IsFreePage s n) →
        ((n : ℕ) → times n (chain s ++ (spares ++ [])) ≡ (if is_numbered s n then 1 else 0)) →
        KeepsFile hash s Quiet (take_page s) (Taken s.header.first_free)
    from_list [] linked free roles = absurd (some linked)
    from_list (m ∷ spares) (is, linked) free roles =
        keeps_headed s (take_page s).header s.entries hash Quiet (Taken s.header.first_free) (record {
          layout = layout_headed s (take_page s).header s.entries
              (record { depth = h.layout.depth; slots = refl; counts = refl; pages = refl }) h.layout;
          chained = chain_headed s (take_page s).header s.entries (chain s) h.chained.shallow h.chained;
          placed = h.placed;
          spares = spares;
          spared = record {
            linked = rw is linked;
            free = λ n c. free n (contains_tail m n spares c);
          };
          roles = λ n. ap (λ x. times n (chain s ++ (spares ++ x ∷ []))) is ∙ moves n m (chain s) spares ∙ roles n;
          entries = h.entries;
          counts = h.counts;
          phase = rw is (free m (contains_head m spares));
        }) (λ n off. off)

pub link_free_keeps : (hash : RecordKey → ℕ) (s : Store) (right : ℕ) → IsSoundFile hash s (Freed right) →
    KeepsFile hash s (Freed right) (link_free right s) Quiet
link_free_keeps hash s right h =
    keeps_headed s (link_free right s).header s.entries hash (Freed right) Quiet (record {
      layout = layout_headed s (link_free right s).header s.entries
          (record { depth = h.layout.depth; slots = refl; counts = refl; pages = refl }) h.layout;
      chained = chain_headed s (link_free right s).header s.entries (chain s) h.chained.shallow h.chained;
      placed = h.placed;
      spares = right ∷ h.spares;
      spared = record { linked = (refl, rw next (h.spared.linked)); free = free };
      roles = λ n. sym (moves n right (chain s) h.spares) ∙ h.roles n;
      entries = h.entries;
      counts = h.counts;
      phase = tt;
    }) (λ n off. off)
  where
    next : next_at s right ≡ s.header.first_free
    next = ap (λ (p : PageKind). (bucket_of p).next) h.phase

    free : (n : ℕ) → Contains (right ∷ h.spares) n → IsFreePage s n
    free n c = elim (contains_cases right n h.spares c) [
      | inl same ↦ subst (IsFreePage s) same (h.phase ∙ sym (ap kinds.Free next))
      | inr d ↦ h.spared.free n d
    ]
