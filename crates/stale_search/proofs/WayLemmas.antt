-- A page that leads is one of the file, and a bucket or a tombstone.
use Rattle.std.proofs.Common.{◌≡◌, sym, subst, ℕ, ◌≤◌, ◌<◌, true, List, [], length, inl, inr}
use Rattle.std.specs.List.{Contains}
use Rattle.step_rules.specs.Words.{Store, chain, Change, Quiet, Taken, Filled, Linked, Absorbed, Buried, Drained, Freed, owned, PageLeads, IsSoundFile}
use Rattle.stale_search.specs.Words.{RecordKey, store_of, IsOnWay}
use Rattle.directory.proofs.MemberLaws.{contains_cases, contains_none}
use Rattle.file_pages.specs.bucket_page.declared.page.PageKind.{PageKind}
use Rattle.file_pages.specs.bucket_page.declared.page.PageKind.TheVariants as kinds
use Rattle.file_pages.specs.directory.declared.layout.TheConstants.{ROOT_PAGE}
use Rattle.file_pages.specs.hash_file.Store.{is_bucket, page_at}
use Rattle.file_pages.specs.hash_file.Change.{aside}
use Rattle.file_pages.specs.hash_file.Phases.{HasPhase}
use Rattle.file_pages.proofs.of_hash_file.Roles.{numbered}
use Rattle.file_pages.proofs.StoreLemmas.{layout_is, pages_are}

bucket_on_way : (p : PageKind) → is_bucket p ≡ true → IsOnWay p
bucket_on_way (kinds.Bucket b) is = tt
bucket_on_way (kinds.Directory es) is = absurd cc
bucket_on_way (kinds.Tombstone link) is = absurd cc
bucket_on_way (kinds.Free link) is = absurd cc

tombstone_on_way : (p : PageKind) (left : ℕ) → p ≡ kinds.Tombstone left → IsOnWay p
tombstone_on_way p left is = subst IsOnWay (sym is) tt

module _ (hash : RecordKey → ℕ) (s : Store) (n : ℕ) where
  off : (c : Change) → HasPhase hash s (chain s) c → Contains (aside c) n → IsOnWay (page_at s n) × Contains (owned c) n
  off Quiet p there = absurd (contains_none n there)
  off (Taken new) p there = absurd (contains_none n there)
  off (Filled old new) p there = absurd (contains_none n there)
  off (Linked old new whole) p there = absurd (contains_none n there)
  off (Absorbed left right whole) p there = elim (contains_cases right n [] there) [
    | inl same ↦ (subst (λ (m : ℕ). IsOnWay (page_at s m)) same (bucket_on_way (page_at s right) p.stands), there)
    | inr none ↦ absurd (contains_none n none)
  ]
  off (Buried left right whole) p there = elim (contains_cases right n [] there) [
    | inl same ↦ (
      subst (λ (m : ℕ). IsOnWay (page_at s m)) same
          (tombstone_on_way (page_at s right) left p.tombstone),
      there,
    )
    | inr none ↦ absurd (contains_none n none)
  ]
  off (Drained left right) p there = elim (contains_cases right n [] there) [
    | inl same ↦ (
      subst (λ (m : ℕ). IsOnWay (page_at s m)) same
          (tombstone_on_way (page_at s right) left p.tombstone),
      there,
    )
    | inr none ↦ absurd (contains_none n none)
  ]
  off (Freed right) p there = absurd (contains_none n there)

  pub record IsOfFile : Type 0 where
    pub behind : s.layout.root ≤ n
    pub within : n < length s.pages
    pub on_way : IsOnWay (page_at s n)

  pub leads_on_way : (c : Change) (k : ℕ) → IsSoundFile hash s c → PageLeads s c n k → IsOfFile
  leads_on_way c k sound leads = elim leads.stands [
    | inl on ↦
        let has = numbered hash s c (chain s) sound n (inl on) in
        record { behind = has.0; within = has.1; on_way = bucket_on_way (page_at s n) (sound.chained.buckets n on) }
    | inr there ↦
        let both = off c sound.phase there in
        let has = numbered hash s c (chain s) sound n (inr (inr both.1)) in
        record { behind = has.0; within = has.1; on_way = both.0 }
  ]

pub record IsInFile (images : List (List ℕ)) (n : ℕ) : Type 0 where
  pub behind : ROOT_PAGE ≤ n
  pub within : n < length images
  pub on_way : IsOnWay (page_at (store_of images) n)

pub leads_in_file : (hash : RecordKey → ℕ) (images : List (List ℕ)) (n : ℕ) (c : Change) (k : ℕ) →
    IsSoundFile hash (store_of images) c → PageLeads (store_of images) c n k → IsInFile images n
leads_in_file hash images n c k sound leads =
    let way = leads_on_way hash (store_of images) n c k sound leads in
    record {
      behind = rw (layout_is images) at way.behind;
      within = rw (pages_are images) at way.within;
      on_way = way.on_way;
    }
