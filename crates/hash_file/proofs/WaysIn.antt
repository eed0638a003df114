-- No entry and no next link names a page that is drained.
use Rattle.std.proofs.Common.{ℕ, ◌≡◌, ◌≢◌, List, [], ◌∷◌, sym, subst, ◌∙◌, ◌⊎◌, inl, inr, refl}
use Rattle.std.specs.List.{Contains}
use Rattle.directory.specs.Links.{Links}
use Rattle.directory.proofs.MemberLaws.{contains_head, contains_tail, contains_cases, contains_none}
use Rattle.bucket_page.specs.declared.record_key.RecordKey.{RecordKey}
use Rattle.hash_file.specs.Store.{Store, entry_at, next_at}
use Rattle.hash_file.specs.Chain.{chain}
use Rattle.hash_file.specs.Change.{Change, Drained, owned, aside}
use Rattle.hash_file.specs.Search.{PageLeads}
use Rattle.hash_file.specs.Sound.{IsSoundFile, HasEntry}
use Rattle.hash_file.specs.Looks.{HasNoWayIn}
use Rattle.hash_file.proofs.Roles.{live_not_owned, numbered_positive}

-- the next of each linked item is linked, or the end
links_on : (next : ℕ → ℕ) (xs : List ℕ) (x e y : ℕ) → Links next x xs e → Contains xs y →
    Contains xs (next y) ⊎ (next y ≡ e)
links_on next [] x e y l c = absurd (contains_none y c)
links_on next (z ∷ zs) x e y l c = elim (contains_cases z y zs c) [
  | inl same ↦ subst (λ w. Contains (z ∷ zs) (next w) ⊎ (next w ≡ e)) same (at_head zs l.1)
  | inr d ↦ elim (links_on next zs (next z) e y l.1 d) [
    | inl on ↦ inl (contains_tail z (next y) zs on)
    | inr ends ↦ inr ends
  ]
]
  where
    at_head : (ys : List ℕ) → Links next (next z) ys e → Contains (z ∷ ys) (next z) ⊎ (next z ≡ e)
    at_head [] k = inr k
    at_head (w ∷ ys) k = inl (subst (Contains (z ∷ w ∷ ys)) (sym k.0) (contains_tail z w (w ∷ ys) (contains_head w ys)))

pub no_way_in : (hash : RecordKey → ℕ) (s : Store) (left right : ℕ) → IsSoundFile hash s (Drained left right) →
    HasNoWayIn s right
no_way_in hash s left right h = record {
  entries = λ i within. named i (h.entries i within);
  links = λ m on same. elim (links_on (next_at s) (chain s) s.layout.root 0 m h.chained.linked on) [
    | inl next ↦ live (next_at s m) next same
    | inr ends ↦ numbered_positive hash s (Drained left right) (chain s) h right (inr (inr (contains_head right [])))
        (sym ends ∙ same)
  ];
}
  where
    live : (n : ℕ) → Contains (chain s) n → n ≢ right
    live n on = live_not_owned hash s (Drained left right) (chain s) h n right on (contains_head right [])

    named : (i : ℕ) → HasEntry s (Drained left right) (chain s) i → entry_at s i ≢ right
    named i (inl b) = live (entry_at s i) b.0
    named i (inr off) = absurd off

pub owned_leads_nowhere : (hash : RecordKey → ℕ) (s : Store) (c : Change) (n k : ℕ) → IsSoundFile hash s c →
    Contains (owned c) n → (Contains (aside c) n → ⊥) → PageLeads s c n k → ⊥
owned_leads_nowhere hash s c n k h own out l = elim l.stands [
  | inl on ↦ live_not_owned hash s c (chain s) h n n on own refl
  | inr off ↦ out off
]
