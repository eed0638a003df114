-- Where a record has no room it can't be put, nor room be made for it; where a merge is turned away from none is made.
use Rattle.std.proofs.Common.{◌≡◌, ◌<◌, ◌≤◌, ◌+◌, ◌-◌, ◌^◌, ◌⊎◌, ℕ, suc, List, [], ◌∷◌, Option, Some, length, refl, sym, ap, ◌∙◌, subst, inl, inr, arith}
use Rattle.std.specs.List.{Contains}
use Rattle.directory.specs.declared.range.Range.{Range}
use Rattle.directory.specs.Ranges.{IsRange, Covers, lower_half_of, upper_half_of, buddy_of}
use Rattle.directory.proofs.MemberLaws.{contains_head, contains_none}
use Rattle.directory.proofs.RangeLaws.{halved_valid}
use Rattle.std.proofs.lemmas.Bool.{lt-ltb, le-ltb}
use Rattle.std.proofs.Math.Nat.{mod-eq_of_lt}
use Rattle.bucket_page.specs.declared.layout.TheConstants.{ROOM_BYTES}
use Rattle.bucket_page.specs.declared.record_key.RecordKey.{RecordKey}
use Rattle.bucket_page.specs.Records.{Pair}
use Rattle.hash_file.specs.Changes.{RecordWrite, Put, Remove, key_of}
use Rattle.hash_file.specs.Words.{HasOneRole, IsOneOf, First, Second, Third}
use Rattle.hash_file.proofs.Chains.{chain_valid, bucket_unique}
use Rattle.hash_file.proofs.Ties.{roles_are_one}
use Rattle.step_rules.specs.Words.{Store, bucket_at, range_at, chain, IsBucketOf, owned, IsFreeList}
use Rattle.step_rules.specs.declared.kind.Kind.TheVariants.{WriteRecord, TakePage, WriteLeft}
use Rattle.step_rules.specs.World.{World}
use Rattle.step_rules.specs.Sound.{IsSoundWorld}
use Rattle.step_rules.specs.Structure.{BucketOf, HasFirstFree}
use Rattle.step_rules.specs.Pages.{Lacking, Using, used_on, size_of}
use Rattle.step_rules.specs.Known.{OnPage, Built, IsKnown}
use Rattle.step_rules.specs.PageSteps.{Suits, TakesPage, WritesLeft}
use Rattle.step_rules.specs.Turns.{Turn, DoesTied, WritesAsked, WritesJust, SplitsAsked, SplitsFor, MergesAsked}
use Rattle.step_rules.specs.Rooms.{HasNoRoom, TurnsAway, IsWhole, IsLarge, Differs, AreLarge}

pub no_room_is_seen : (hash : RecordKey → ℕ) (seat : ℕ) (p : Pair) (page used : ℕ) (w : World) →
    IsKnown seat w (Built (BucketOf (hash p.key) page)) → IsKnown seat w (OnPage page (Lacking p.key)) →
    IsKnown seat w (OnPage page (Using used)) → ROOM_BYTES < used + size_of p →
    IsKnown seat w (Built (HasFirstFree 0)) ⊎ ((range_at w.store page).depth ≡ w.store.layout.greatest) →
    HasNoRoom hash p w
no_room_is_seen hash seat p page used w home lacks uses full stuck = record {
  page = page;
  lacks = record { home = home.1; absent = lacks.1; full = omega (arith, full, uses.1) };
  stuck = elim stuck [ inl none ↦ inl none.1 | inr deep ↦ inr deep ];
}

module _ (hash : RecordKey → ℕ) (seat : ℕ) (p : Pair) (old new : World) (sound : IsSoundWorld hash old)
    (no_room : HasNoRoom hash p old) where
  same_page : (page : ℕ) → IsBucketOf old.store (hash p.key) page → page ≡ no_room.page
  same_page page home = bucket_unique old.store (chain old.store) (hash p.key) page no_room.page sound.file.chained home
      no_room.lacks.home

  no_write : WritesJust hash (Put p) seat old new → ⊥
  no_write does =
      let w = does.writes in
      let is : w.page ≡ no_room.page = same_page w.page
      (subst (λ (x : RecordWrite). IsBucketOf old.store (hash (key_of x)) w.page) does.write_is w.home) in
      let room : used_on old.store w.page + size_of p ≤ ROOM_BYTES =
      subst (λ (x : RecordWrite). Suits x (bucket_at old.store w.page)) does.write_is w.suits in
      omega (arith, room, no_room.lacks.full, ap (used_on old.store) is)

  no_split : TakesPage seat old new → SplitsFor hash p seat old (λ page. Unit {0}) → ⊥
  no_split takes splits =
      let is = same_page splits.page splits.lacks.home in
      elim no_room.stuck [
        | inl none ↦ takes.some_free none
        | inr deep ↦ omega (arith, splits.shallow, deep, ap (λ (n : ℕ). (range_at old.store n).depth) is)
      ]

  pub no_room_is_stuck : (turn : Turn) → turn.write ≡ Some (Put p) →
      DoesTied hash turn WriteRecord seat old new ⊎ DoesTied hash turn TakePage seat old new → ⊥
  no_room_is_stuck turn is (inl does) =
      no_write (subst (λ (x : Option RecordWrite). WritesAsked hash x seat old new) is does)
  no_room_is_stuck turn is (inr (takes, splits)) = no_split takes
      (subst (λ (x : Option RecordWrite). SplitsAsked hash x seat old (λ page. Unit {0})) is splits)

-- ---- an empty list of free pages

module _ (hash : RecordKey → ℕ) (w : World) (sound : IsSoundWorld hash w) (none : w.store.header.first_free ≡ 0) where
  no_spare : (n : ℕ) (spares : List ℕ) → IsFreeList w.store spares → HasOneRole w.store w.change spares →
      Contains spares n → ⊥
  no_spare n [] spared role there = contains_none n there
  no_spare n (m ∷ ms) spared role there =
      let low : w.store.layout.root ≤ m = (role.only m (inr (inl (contains_head m ms)))).0 in
      omega (arith, low, sound.file.layout.root, spared.linked.0, none)

  pub no_page_is_free : (n : ℕ) → w.store.layout.root ≤ n → n < length w.store.pages →
      Contains (chain w.store) n ⊎ Contains (owned w.change) n
  no_page_is_free n low high = by roles.0 roles.1 roles.2 (roles.2.each n low high)
    where
      roles : (spares : List ℕ) × IsFreeList w.store spares × HasOneRole w.store w.change spares
      roles = roles_are_one hash w.store w.change sound.file

      by : (spares : List ℕ) → IsFreeList w.store spares → HasOneRole w.store w.change spares →
          IsOneOf (Contains (chain w.store) n) (Contains spares n) (Contains (owned w.change) n) →
          Contains (chain w.store) n ⊎ Contains (owned w.change) n
      by spares spared role (First on a b) = inl on
      by spares spared role (Second there a b) = absurd (no_spare n spares spared role there)
      by spares spared role (Third own a b) = inr own

-- ---- merges

-- the halves of a range are each other's buddies
buddy_of_lower : (r : Range) → IsRange r → (buddy_of (lower_half_of r)).pattern ≡ (upper_half_of r).pattern
buddy_of_lower r h =
    let less : suc r.depth - 1 ≡ r.depth = omega arith in
    rw (less, lt-ltb r.pattern (2 ^ r.depth) h.below) refl

buddy_of_upper : (r : Range) → IsRange r → (buddy_of (upper_half_of r)).pattern ≡ (lower_half_of r).pattern
buddy_of_upper r h =
    let less : suc r.depth - 1 ≡ r.depth = omega arith in
    rw (less, le-ltb (r.pattern + 2 ^ r.depth) (2 ^ r.depth) (omega arith)) (omega arith)

covers_own : (r : Range) → IsRange r → Covers r r.pattern
covers_own r h = mod-eq_of_lt h.below

module _ (hash : RecordKey → ℕ) (key : RecordKey) (seat : ℕ) (old new : World) (sound : IsSoundWorld hash old)
    (does : WritesLeft seat old new) (home : ℕ) (is_home : IsBucketOf old.store (hash key) home)
    (either : (home ≡ does.left) ⊎ (home ≡ does.right)) where
  abbrev s : Store
  s = old.store

  unique : (k m n : ℕ) → IsBucketOf s k m → IsBucketOf s k n → m ≡ n
  unique k m n a b = bucket_unique s (chain s) k m n sound.file.chained a b

  valid_left : IsRange (range_at s does.left)
  valid_left = chain_valid s (chain s) does.left sound.file.chained does.left_on

  valid_right : IsRange (range_at s does.right)
  valid_right = chain_valid s (chain s) does.right sound.file.chained does.right_on

  valid : IsRange does.whole
  valid = (halved_valid does.whole (subst IsRange does.halves.upper valid_right)).0

  depth_left : (range_at s does.left).depth ≡ suc does.whole.depth
  depth_left = ap (λ (r : Range). r.depth) does.halves.lower

  depth_right : (range_at s does.right).depth ≡ suc does.whole.depth
  depth_right = ap (λ (r : Range). r.depth) does.halves.upper

  depth_home : (range_at s home).depth ≡ suc does.whole.depth
  depth_home = elim either [
    | inl is ↦ ap (λ (n : ℕ). (range_at s n).depth) is ∙ depth_left
    | inr is ↦ ap (λ (n : ℕ). (range_at s n).depth) is ∙ depth_right
  ]

  used_home : used_on s home ≤ used_on s does.left + used_on s does.right
  used_home = elim either [
    | inl is ↦ omega (arith, ap (used_on s) is)
    | inr is ↦ omega (arith, ap (used_on s) is)
  ]

  -- the bucket that has the turned pattern is the other one
  other : (buddy : ℕ) → IsBucketOf s (buddy_of (range_at s home)).pattern buddy →
      ((home ≡ does.left) × (buddy ≡ does.right)) ⊎ ((home ≡ does.right) × (buddy ≡ does.left))
  other buddy found = elim either [
    | inl is ↦ inl (
      is,
      unique (buddy_of (range_at s home)).pattern buddy does.right found
          (does.right_on, right_covers is),
    )
    | inr is ↦ inr (
      is,
      unique (buddy_of (range_at s home)).pattern buddy does.left found
          (does.left_on, left_covers is),
    )
  ]
    where
      right_covers : home ≡ does.left → Covers (range_at s does.right) (buddy_of (range_at s home)).pattern
      right_covers is = subst (λ (r : Range). Covers (range_at s does.right) (buddy_of r).pattern)
          (sym (ap (range_at s) is ∙ does.halves.lower))
          (subst (Covers (range_at s does.right)) (sym (buddy_of_lower does.whole valid))
          (subst (λ (r : Range). Covers r (upper_half_of does.whole).pattern) (sym does.halves.upper)
          (covers_own (upper_half_of does.whole) (subst IsRange does.halves.upper valid_right))))

      left_covers : home ≡ does.right → Covers (range_at s does.left) (buddy_of (range_at s home)).pattern
      left_covers is = subst (λ (r : Range). Covers (range_at s does.left) (buddy_of r).pattern)
          (sym (ap (range_at s) is ∙ does.halves.upper))
          (subst (Covers (range_at s does.left)) (sym (buddy_of_upper does.whole valid))
          (subst (λ (r : Range). Covers r (lower_half_of does.whole).pattern) (sym does.halves.lower)
          (covers_own (lower_half_of does.whole) (subst IsRange does.halves.lower valid_left))))

  pub stuck : TurnsAway hash key seat old → ⊥
  stuck (IsWhole page at flat) =
      omega (arith, flat, depth_home, ap (λ (n : ℕ). (range_at s n).depth) (unique (hash key) page home at is_home))
  stuck (IsLarge page at large) =
      omega (arith, large, used_home, does.small, ap (used_on s) (unique (hash key) page home at is_home))
  stuck (Differs page buddy holds apart) =
      let same = unique (hash key) page home holds.home is_home in
      let found = subst (λ (n : ℕ). IsBucketOf s (buddy_of (range_at s n)).pattern buddy) same holds.found in
      apart (ap (λ (n : ℕ). (range_at s n).depth) same ∙ depth_home ∙ sym (elim (other buddy found) [
        | inl is ↦ ap (λ (n : ℕ). (range_at s n).depth) is.1 ∙ depth_right
        | inr is ↦ ap (λ (n : ℕ). (range_at s n).depth) is.1 ∙ depth_left
      ]))
  stuck (AreLarge page buddy holds large) =
      let same = unique (hash key) page home holds.home is_home in
      let found = subst (λ (n : ℕ). IsBucketOf s (buddy_of (range_at s n)).pattern buddy) same holds.found in
      let mine = ap (used_on s) same in
      elim (other buddy found) [
        | inl is ↦ omega (arith, large, mine, ap (used_on s) is.0, ap (used_on s) is.1, does.small)
        | inr is ↦ omega (arith, large, mine, ap (used_on s) is.0, ap (used_on s) is.1, does.small)
      ]

pub turned_away_is_stuck : (hash : RecordKey → ℕ) (key : RecordKey) (seat : ℕ) (turn : Turn) (old new : World) →
    IsSoundWorld hash old → TurnsAway hash key seat old → turn.write ≡ Some (Remove key) →
    DoesTied hash turn WriteLeft seat old new → ⊥
turned_away_is_stuck hash key seat turn old new sound away is (does, merges) =
    let found : (page : ℕ) × IsBucketOf old.store (hash key) page × ((page ≡ does.left) ⊎ (page ≡ does.right)) =
    subst (λ (x : Option RecordWrite). MergesAsked hash x old (λ page. (page ≡ does.left) ⊎ (page ≡ does.right))) is
    merges in
    stuck hash key seat old new sound does found.0 found.1 found.2 away
