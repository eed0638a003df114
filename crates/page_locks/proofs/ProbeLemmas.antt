-- What keeps a table of slots in order: a name put in the first free slot, a slot that becomes empty, and later names
-- that move back over it.
use Rattle.std.proofs.Common.{arith, ◌≡◌, ◌≢◌, ◌⊎◌, ℕ, ◌+◌, ◌-◌, ◌<◌, ◌≤◌, Bool, true, false, not}
use Rattle.std.proofs.Common.{List, length, set, subst, refl, sym, ap, ◌∙◌, inl, inr, get_or-set_same, get_or-set_other}
use Rattle.std.proofs.lemmas.Bool.{cases_Bool, cases_lt, cases_eq, cases_order, both_ways}
use Rattle.std.proofs.lemmas.List.{length-set}
use Rattle.page_locks.specs.declared.lock.LockName.{LockName}
use Rattle.page_locks.specs.declared.lock.LockName.TheVariants.{Key, Counter, Queue, Directory, Page}
use Rattle.page_locks.specs.declared.slot.Slot.{Slot}
use Rattle.page_locks.specs.declared.slot.TheConstants.{SLOTS}
use Rattle.page_locks.specs.Holding.{nobody, is_nobody}
use Rattle.page_locks.specs.Probing.{home, after, gap, way, free_slot, slot_at, name_at, is_taken, has_name, holders_of}
use Rattle.page_locks.specs.Probing.{IsProbed, IsOpened, ChangesName}
use Rattle.page_locks.proofs.CircleLemmas.{after-gap, gap-lt, gap-after, after-after, gap-on_way, gap-steps_up, gap-steps_round, gap-back}
use Rattle.page_locks.proofs.SlotLemmas.{HasNamesOnce, within, stands-parts, holders_of-none, holders_of-alike}

pub home-lt : (name : LockName) → home name < SLOTS
home-lt (Key n) = omega arith
home-lt Counter = omega arith
home-lt (Queue n) = omega arith
home-lt Directory = omega arith
home-lt (Page n) = omega arith

abbrev pub taken_by : Slot → Bool
taken_by slot = not (is_nobody slot.holders)

-- one slot of a table was written
pub record IsWritten (old new : List Slot) (place : ℕ) (slot : Slot) : Type 0 where
  pub as_many : length new ≡ length old
  pub here : slot_at new place ≡ slot
  pub others : (k : ℕ) → k ≢ place → slot_at new k ≡ slot_at old k

pub IsWritten-set : (slots : List Slot) (place : ℕ) (slot : Slot) → place < length slots →
    IsWritten slots (set slots place slot) place slot
IsWritten-set slots place slot lt = record {
  as_many = length-set slots place slot;
  here = get_or-set_same slots place slot free_slot lt;
  others = λ k apart. get_or-set_other slots place k slot free_slot apart;
}

-- ---- a slot is emptied
module _ (old new : List Slot) (place : ℕ) (written : IsWritten old new place free_slot) where
  emptied : is_taken new place ≡ false
  emptied = ap taken_by written.here

  -- what is taken was taken
  was : (k : ℕ) → is_taken new k ≡ true → slot_at new k ≡ slot_at old k
  was k taken = written.others k (λ same. both_ways (is_taken new k) (ap (is_taken new) same ∙ emptied) taken)

  once-emptied : HasNamesOnce old → HasNamesOnce new
  once-emptied once i j ti tj same =
      let at_i = was i ti in
      let at_j = was j tj in
      once i j (sym (ap taken_by at_i) ∙ ti) (sym (ap taken_by at_j) ∙ tj)
      (sym (ap (λ (s : Slot). s.name) at_i) ∙ same ∙ ap (λ (s : Slot). s.name) at_j)

  pub IsOpened-emptied : IsProbed old → place < SLOTS → IsOpened new place
  IsOpened-emptied probed lt = record {
    as_many = written.as_many ∙ probed.as_many;
    inside = lt;
    free = emptied;
    once = once-emptied probed.once;
    reached = λ k steps k_lt taken on_way.
        let at_k = was k taken in
        let named = ap (λ (s : Slot). s.name) at_k in
        let before : steps < way old k = subst (λ (n : LockName). steps < gap (home n) k) named on_way in
        let there = probed.reached k steps k_lt (sym (ap taken_by at_k) ∙ taken) before in
        elim (cases_eq (after (home (name_at new k)) steps) place) [
          | inl at ↦ inl at
          | inr apart ↦
              inr (ap taken_by (written.others (after (home (name_at new k)) steps) apart) ∙
              ap (λ (n : LockName). is_taken old (after (home n) steps)) named ∙ there)
        ];
  }

  -- the name that stood there is held by nobody, and every other as it was
  pub ChangesName-emptied : IsProbed old → is_taken old place ≡ true → ChangesName (name_at old place) nobody old new
  ChangesName-emptied probed taken = record {
    own = holders_of-none new (name_at old place)
        (λ k. elim (cases_Bool (has_name (name_at old place) (slot_at new k))) [
          | inl has ↦
              let parts = stands-parts new (name_at old place) k has in
              let at_k = was k parts.0 in
              let same : k ≡ place =
              probed.once k place (sym (ap taken_by at_k) ∙ parts.0) taken
              (sym (ap (λ (s : Slot). s.name) at_k) ∙ parts.1)
              in
              absurd (both_ways (is_taken new k) (ap (is_taken new) same ∙ emptied) parts.0)
          | inr has_not ↦ has_not
        ]);
    others = λ other apart. holders_of-alike old new other probed.once (once-emptied probed.once)
        (λ k has. (
          k,
          written.others k (λ same.
              apart (sym (stands-parts old other k has).1 ∙ ap (name_at old) same)),
        ))
        (λ k has. (k, sym (was k (stands-parts new other k has).0)));
  }

-- ---- a name moves back to the hole
-- the slot that moves leaves a hole
pub record IsMoved (old new : List Slot) (hole place : ℕ) : Type 0 where
  pub as_many : length new ≡ length old
  pub here : slot_at new hole ≡ slot_at old place
  pub left : slot_at new place ≡ free_slot
  pub others : (k : ℕ) → k ≢ hole → k ≢ place → slot_at new k ≡ slot_at old k

pub IsMoved-set : (slots : List Slot) (hole place : ℕ) (slot : Slot) → hole < length slots → place < length slots →
    hole ≢ place → slot ≡ slot_at slots place → IsMoved slots (set (set slots hole slot) place free_slot) hole place
IsMoved-set slots hole place slot h p apart is =
    let first = IsWritten-set slots hole slot h in
    let then = IsWritten-set (set slots hole slot) place free_slot (omega (arith, first.as_many)) in
    record {
      as_many = then.as_many ∙ first.as_many;
      here = then.others hole apart ∙ first.here ∙ is;
      left = then.here;
      others = λ k k_hole k_place. then.others k k_place ∙ first.others k k_hole;
    }

module _ (old new : List Slot) (hole place : ℕ) (moved : IsMoved old new hole place) (opened : IsOpened old hole)
    (taken_last : is_taken old place ≡ true) where
  left_free : is_taken new place ≡ false
  left_free = ap taken_by moved.left

  -- where a slot that is taken was before
  abbrev From : ℕ → ℕ → Type 0
  From k j = (slot_at new k ≡ slot_at old j) × (((k ≡ hole) × (j ≡ place)) ⊎ ((k ≢ hole) × (j ≡ k) × (k ≢ place)))

  from : (k : ℕ) → is_taken new k ≡ true → (j : ℕ) × From k j
  from k taken = elim (cases_eq k hole) [
    | inl at ↦ (place, (ap (slot_at new) at ∙ moved.here, inl (at, refl)))
    | inr not ↦
        let other : k ≢ place = λ same. both_ways (is_taken new k) (ap (is_taken new) same ∙ left_free) taken in
        (k, (moved.others k not other, inr (not, refl, other)))
  ]

  one_from : (i j i' j' : ℕ) → From i i' → From j j' → i' ≡ j' → i ≡ j
  one_from i j i' j' a b same = elim (a.1) [
    | inl x ↦ elim (b.1) [
      | inl y ↦ x.0 ∙ sym y.0
      | inr y ↦ absurd (y.2 (sym y.1 ∙ sym same ∙ x.1))
    ]
    | inr x ↦ elim (b.1) [
      | inl y ↦ absurd (x.2 (sym x.1 ∙ same ∙ y.1))
      | inr y ↦ sym x.1 ∙ same ∙ y.1
    ]
  ]

  once-moved : HasNamesOnce new
  once-moved i j ti tj same =
      let i' = from i ti in
      let j' = from j tj in
      one_from i j i'.0 j'.0 i'.1 j'.1
      (opened.once i'.0 j'.0 (sym (ap taken_by i'.1.0) ∙ ti) (sym (ap taken_by j'.1.0) ∙ tj)
      (sym (ap (λ (s : Slot). s.name) i'.1.0) ∙ same ∙ ap (λ (s : Slot). s.name) j'.1.0))

  -- each name is held as it was
  pub holders_of-moved : (name : LockName) → holders_of new name ≡ holders_of old name
  holders_of-moved name = holders_of-alike old new name opened.once once-moved to back
    where
      to : (k : ℕ) → has_name name (slot_at old k) ≡ true → (j : ℕ) × (slot_at new j ≡ slot_at old k)
      to k has = elim (cases_eq k place) [
        | inl at ↦ (hole, moved.here ∙ ap (slot_at old) (sym at))
        | inr not ↦
            let taken = (stands-parts old name k has).0 in
            (k, moved.others k (λ same. both_ways (is_taken old k) (ap (is_taken old) same ∙ opened.free) taken) not)
      ]

      back : (k : ℕ) → has_name name (slot_at new k) ≡ true → (j : ℕ) × (slot_at old j ≡ slot_at new k)
      back k has = let j = from k (stands-parts new name k has).0 in (j.0, sym j.1.0)

  -- a slot that was taken is taken, or is the new hole
  still : (k : ℕ) → is_taken old k ≡ true → (k ≡ place) ⊎ (is_taken new k ≡ true)
  still k taken = elim (cases_eq k place) [
    | inl at ↦ inl at
    | inr not ↦
        let other : k ≢ hole = λ same. both_ways (is_taken old k) (ap (is_taken old) same ∙ opened.free) taken in
        inr (ap taken_by (moved.others k other not) ∙ taken)
  ]

  filled : is_taken new hole ≡ true
  filled = ap taken_by moved.here ∙ taken_last

  module _ (start a b : ℕ) (s_lt : start < SLOTS) (hole_is : after start a ≡ hole) (place_is : after start b ≡ place)
      (below : a < b) (b_lt : b < SLOTS) (far : b ≤ way old place + a) where
    -- the way of the name that moved is the beginning of its old one
    moved_way : gap (home (name_at old place)) hole + b ≡ way old place + a
    moved_way =
        let k = home (name_at old place) in
        let back = gap-back k start a b (home-lt (name_at old place)) s_lt below b_lt in
        subst (λ (x : ℕ). gap k x + b ≡ way old place + a) hole_is
        (subst (λ (x : ℕ). b ≤ gap k x + a → gap k (after start a) + b ≡ gap k x + a) place_is back far)

    reached-hole : (steps : ℕ) → steps < gap (home (name_at old place)) hole →
        (after (home (name_at old place)) steps ≡ place) ⊎
        (is_taken new (after (home (name_at old place)) steps) ≡ true)
    reached-hole steps on_way =
        let k = home (name_at old place) in
        let k_lt = home-lt (name_at old place) in
        let p_lt : place < SLOTS = omega (arith, within old place taken_last, opened.as_many) in
        elim (opened.reached place steps p_lt taken_last (omega (arith, moved_way))) [
          | inl at ↦
              let there : gap k hole ≡ steps =
              sym (ap (gap k) at) ∙ gap-after k steps k_lt (omega (arith, gap-lt k hole))
              in
              absurd (omega (arith, there))
          | inr taken ↦ still (after k steps) taken
        ]

    reached-other : (p j steps : ℕ) → p < SLOTS → is_taken old p ≡ true → steps < way old p →
        (after (home (name_at old p)) steps ≡ place) ⊎ (is_taken new (after (home (name_at old p)) steps) ≡ true)
    reached-other p j steps p_lt taken on_way = elim (opened.reached p steps p_lt taken on_way) [
      | inl at ↦ inr (ap (is_taken new) at ∙ filled)
      | inr there ↦ still (after (home (name_at old p)) steps) there
    ]

    pub IsOpened-moved : IsOpened new place
    IsOpened-moved = record {
      as_many = moved.as_many ∙ opened.as_many;
      inside = omega (arith, within old place taken_last, opened.as_many);
      free = left_free;
      once = once-moved;
      reached = λ p steps p_lt taken on_way. elim (cases_eq p hole) [
        | inl at ↦
            let named : name_at new p ≡ name_at old place =
            ap (name_at new) at ∙ ap (λ (s : Slot). s.name) moved.here
            in
            let before : steps < gap (home (name_at old place)) hole =
            subst (λ (x : ℕ). steps < gap (home (name_at old place)) x) at
            (subst (λ (n : LockName). steps < gap (home n) p) named on_way)
            in
            subst (λ (n : LockName). (after (home n) steps ≡ place) ⊎ (is_taken new (after (home n) steps) ≡ true))
            (sym named) (reached-hole steps before)
        | inr not ↦
            let other : p ≢ place = λ same. both_ways (is_taken new p) (ap (is_taken new) same ∙ left_free) taken in
            let at_p = moved.others p not other in
            let named : name_at new p ≡ name_at old p = ap (λ (s : Slot). s.name) at_p in
            let before : steps < way old p = subst (λ (n : LockName). steps < gap (home n) p) named on_way in
            subst (λ (n : LockName). (after (home n) steps ≡ place) ⊎ (is_taken new (after (home n) steps) ≡ true))
            (sym named) (reached-other p p steps p_lt (sym (ap taken_by at_p) ∙ taken) before)
      ];
    }

-- ---- the hole closes where the next slot is empty
-- the names between have their homes behind the hole
abbrev pub StayBehind : List Slot → ℕ → ℕ → ℕ → Type 0
StayBehind slots start a b =
    (u : ℕ) → a < u → u < b → (is_taken slots (after start u) ≡ true) × (way slots (after start u) + a < u)

module _ (slots : List Slot) (start a b : ℕ) (s_lt : start < SLOTS) (opened : IsOpened slots (after start a))
    (below : a < b) (b_lt : b < SLOTS) (behind : StayBehind slots start a b)
    (empty : is_taken slots (after start b) ≡ false) where
  -- no name's way leads over the hole
  no_way_over : (place steps : ℕ) → place < SLOTS → is_taken slots place ≡ true → steps < way slots place →
      after (home (name_at slots place)) steps ≢ after start a
  no_way_over place steps p_lt taken on_way at =
      let k = home (name_at slots place) in
      let k_lt = home-lt (name_at slots place) in
      let v = gap start place in
      let v_lt = gap-lt start place in
      let place_is : after start v ≡ place = after-gap start place s_lt p_lt in
      let rest = gap-on_way k (after start a) place steps k_lt p_lt at on_way in
      let r = gap (after start a) place in
      -- the first empty slot would be on the way
      let short : r ≤ b - a = not_past place steps p_lt taken on_way at in
      elim (cases_order v b) [
        | inl v_b ↦
            both_ways (is_taken slots place) (ap (is_taken slots) (sym place_is ∙ ap (after start) v_b) ∙ empty) taken
        | inr other ↦ elim other [
          | inl v_below ↦ elim (cases_order v a) [
            | inl v_a ↦
                both_ways (is_taken slots place)
                (ap (is_taken slots) (sym place_is ∙ ap (after start) v_a) ∙ opened.free) taken
            | inr v_not ↦ elim v_not [
              | inl v_before ↦
                  let round = gap-steps_round start a v s_lt (omega arith) v_before in
                  let r_is : r + a ≡ v + SLOTS =
                  subst (λ (x : ℕ). gap (after start a) x + a ≡ v + SLOTS) place_is round
                  in
                  omega (arith, r_is, short)
              | inr v_between ↦
                  let up = gap-steps_up start a v s_lt v_lt (omega arith) in
                  let r_is : r + a ≡ v = subst (λ (x : ℕ). gap (after start a) x + a ≡ v) place_is up in
                  let stays : way slots place + a < v =
                  subst (λ (x : ℕ). way slots x + a < v) place_is (behind v v_between v_below).1
                  in
                  omega (arith, r_is, stays, rest)
            ]
          ]
          | inr v_above ↦
              let up = gap-steps_up start a v s_lt v_lt (omega arith) in
              let r_is : r + a ≡ v = subst (λ (x : ℕ). gap (after start a) x + a ≡ v) place_is up in
              omega (arith, r_is, short)
        ]
      ]
    where
      not_past : (place steps : ℕ) → place < SLOTS → is_taken slots place ≡ true → steps < way slots place →
          after (home (name_at slots place)) steps ≡ after start a → gap (after start a) place ≤ b - a
      not_past place steps p_lt taken on_way at = elim (cases_lt (b - a) (gap (after start a) place)) [
        | inl past ↦
            let k = home (name_at slots place) in
            let rest = gap-on_way k (after start a) place steps (home-lt (name_at slots place)) p_lt at on_way in
            let there : after k (steps + (b - a)) ≡ after start b =
            sym (after-after k steps (b - a)) ∙ ap (λ (x : ℕ). after x (b - a)) at ∙ after-after start a (b - a) ∙
            ap (after start) (omega arith)
            in
            elim (opened.reached place (steps + (b - a)) p_lt taken (omega (arith, rest, past))) [
              | inl hole ↦
                  let same : b ≡ a =
                  sym (gap-after start b s_lt b_lt) ∙ ap (gap start) (sym there ∙ hole) ∙
                  gap-after start a s_lt (omega arith)
                  in
                  absurd (omega (arith, same))
              | inr is ↦
                  absurd (both_ways (is_taken slots (after start b)) empty (ap (is_taken slots) (sym there) ∙ is))
            ]
        | inr le ↦ le
      ]

  pub IsProbed-closed : IsProbed slots
  IsProbed-closed = record {
    as_many = opened.as_many;
    once = opened.once;
    reached = λ place steps p_lt taken on_way. elim (opened.reached place steps p_lt taken on_way) [
      | inl at ↦ absurd (no_way_over place steps p_lt taken on_way at)
      | inr there ↦ there
    ];
  }
