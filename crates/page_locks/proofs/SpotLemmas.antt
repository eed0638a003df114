-- Where a search for a name ends, and what a name put there leaves in order.
use Rattle.std.proofs.Common.{arith, ◌≡◌, ◌≢◌, ℕ, zero, suc, ◌-◌, ◌<◌, ◌≤◌, true, false, not}
use Rattle.std.proofs.Common.{List, length, map, get_or, subst, refl, sym, ap, ◌∙◌, inl, inr}
use Rattle.std.specs.Cmp.{IsEquivalence}
use Rattle.std.specs.List.{list_any}
use Rattle.std.proofs.lemmas.Bool.{cases_Bool, cases_lt, cases_eq, cases_order, or_cases, or_parts, not-true, not-false, not_from_true, not_from_false, both_ways}
use Rattle.std.proofs.lemmas.List.{length-map, get_or-map}
use Rattle.std.proofs.lemmas.List.Folds.{list_any_none}
use Rattle.std.proofs.lemmas.Map.Keys.{IsDistinct-from_apart}
use Rattle.std.proofs.lemmas.Map.Made.{length-le_from_is_member}
use Rattle.page_locks.specs.declared.lock.LockName.{LockName}
use Rattle.page_locks.specs.declared.slot.Slot.{Slot}
use Rattle.page_locks.specs.declared.slot.TheConstants.{SLOTS}
use Rattle.page_locks.specs.Holding.{is_nobody}
use Rattle.page_locks.specs.Locks.{is_same}
use Rattle.page_locks.specs.Probing.{home, after, gap, way, free_slot, slot_at, name_at, is_taken, has_name, holders_of, is_open}
use Rattle.page_locks.specs.Probing.{IsProbed, IsSpot, ChangesName, HasFewNames, HasFree, IsWanted, HasHomesApart}
use Rattle.page_locks.proofs.CircleLemmas.{after-lt, after-gap, gap-lt, gap-after, after-none, after-over, gap-between}
use Rattle.page_locks.proofs.HolderLemmas.{nobody-is}
use Rattle.page_locks.proofs.NameLemmas.{is_same-itself, is_same-true, is_same-false}
use Rattle.page_locks.proofs.ProbeLemmas.{home-lt, taken_by, IsWritten}
use Rattle.page_locks.proofs.SlotLemmas.{HasNamesOnce, passes, within, stands, stands-parts, holders_of-at, holders_of-none, holders_of-alike}

-- ---- the spot of a name
module _ (slots : List Slot) (name : LockName) (place : ℕ) (probed : IsProbed slots)
    (spot : IsSpot slots name place) where
  taken_lt : (k : ℕ) → is_taken slots k ≡ true → k < SLOTS
  taken_lt k taken = omega (arith, within slots k taken, probed.as_many)

  -- the name stands nowhere else
  pub only_here : (k : ℕ) → is_taken slots k ≡ true → name_at slots k ≡ name → k ≡ place
  only_here k taken named = elim (cases_order (gap (home name) k) (gap (home name) place)) [
    | inl same ↦
        sym (after-gap (home name) k (home-lt name) (taken_lt k taken)) ∙ ap (after (home name)) same ∙
        after-gap (home name) place (home-lt name) spot.within
    | inr other ↦ elim other [
      | inl before ↦
          let at = after-gap (home name) k (home-lt name) (taken_lt k taken) in
          absurd (spot.others (gap (home name) k) before (ap (name_at slots) at ∙ named))
      | inr past ↦
          let on_way : gap (home name) place < way slots k =
          subst (λ (n : LockName). gap (home name) place < gap (home n) k) (sym named) past
          in
          let there = probed.reached k (gap (home name) place) (taken_lt k taken) taken on_way in
          let at : after (home (name_at slots k)) (gap (home name) place) ≡ place =
          ap (λ (n : LockName). after (home n) (gap (home name) place)) named ∙
          after-gap (home name) place (home-lt name) spot.within
          in
          let here : is_taken slots place ≡ true = ap (is_taken slots) (sym at) ∙ there in
          probed.once k place taken here (named ∙ sym (spot.its here))
    ]
  ]

  -- its holders stand there
  pub spot-holders : (slot_at slots place).holders ≡ holders_of slots name
  spot-holders = elim (cases_Bool (is_taken slots place)) [
    | inl taken ↦ sym (holders_of-at slots name place probed.once (stands slots name place taken (spot.its taken)))
    | inr free ↦
        nobody-is (slot_at slots place).holders (not-false (is_nobody (slot_at slots place).holders) free) ∙
        sym (holders_of-none slots name (λ k. elim (cases_Bool (has_name name (slot_at slots k))) [
          | inl has ↦
              let parts = stands-parts slots name k has in
              let same = only_here k parts.0 parts.1 in
              absurd (both_ways (is_taken slots place) free (ap (is_taken slots) (sym same) ∙ parts.0))
          | inr has_not ↦ has_not
        ]))
  ]

  -- ---- the name is put there
  module _ (new : List Slot) (slot : Slot) (written : IsWritten slots new place slot) (named : slot.name ≡ name)
      (held : taken_by slot ≡ true) where
    now : is_taken new place ≡ true
    now = ap taken_by written.here ∙ held

    now_named : name_at new place ≡ name
    now_named = ap (λ (s : Slot). s.name) written.here ∙ named

    still : (k : ℕ) → is_taken slots k ≡ true → is_taken new k ≡ true
    still k taken = elim (cases_eq k place) [
      | inl at ↦ ap (is_taken new) at ∙ now
      | inr not ↦ ap taken_by (written.others k not) ∙ taken
    ]

    -- a name that stands elsewhere is another
    elsewhere : (k : ℕ) → k ≢ place → is_taken new k ≡ true → name_at new k ≢ name
    elsewhere k apart taken same =
        let at_k = written.others k apart in
        apart (only_here k (sym (ap taken_by at_k) ∙ taken) (sym (ap (λ (s : Slot). s.name) at_k) ∙ same))

    once-put : HasNamesOnce new
    once-put i j ti tj same = elim (cases_eq i place) [
      | inl at_i ↦ elim (cases_eq j place) [
        | inl at_j ↦ at_i ∙ sym at_j
        | inr not_j ↦ absurd (elsewhere j not_j tj (sym same ∙ ap (name_at new) at_i ∙ now_named))
      ]
      | inr not_i ↦ elim (cases_eq j place) [
        | inl at_j ↦ absurd (elsewhere i not_i ti (same ∙ ap (name_at new) at_j ∙ now_named))
        | inr not_j ↦
            let i_is = written.others i not_i in
            let j_is = written.others j not_j in
            probed.once i j (sym (ap taken_by i_is) ∙ ti) (sym (ap taken_by j_is) ∙ tj)
            (sym (ap (λ (s : Slot). s.name) i_is) ∙ same ∙ ap (λ (s : Slot). s.name) j_is)
      ]
    ]

    pub IsProbed-put : IsProbed new
    IsProbed-put = record {
      as_many = written.as_many ∙ probed.as_many;
      once = once-put;
      reached = λ k steps k_lt taken on_way. elim (cases_eq k place) [
        | inl at ↦
            let named_k : name_at new k ≡ name = ap (name_at new) at ∙ now_named in
            let before : steps < gap (home name) place =
            subst (λ (x : ℕ). steps < gap (home name) x) at
            (subst (λ (n : LockName). steps < gap (home n) k) named_k on_way)
            in
            ap (λ (n : LockName). is_taken new (after (home n) steps)) named_k ∙
            still (after (home name) steps) (spot.taken steps before)
        | inr not ↦
            let at_k = written.others k not in
            let named_k : name_at new k ≡ name_at slots k = ap (λ (s : Slot). s.name) at_k in
            let before : steps < way slots k = subst (λ (n : LockName). steps < gap (home n) k) named_k on_way in
            ap (λ (n : LockName). is_taken new (after (home n) steps)) named_k ∙
            still (after (home (name_at slots k)) steps)
            (probed.reached k steps k_lt (sym (ap taken_by at_k) ∙ taken) before)
      ];
    }

    pub ChangesName-put : ChangesName name slot.holders slots new
    ChangesName-put = record {
      own = holders_of-at new name place once-put (stands new name place now now_named) ∙
          ap (λ (s : Slot). s.holders) written.here;
      others = λ other apart. holders_of-alike slots new other probed.once once-put
          (λ k has.
          let parts = stands-parts slots other k has in (
            k,
            written.others k (λ same.
                apart (sym parts.1 ∙ ap (name_at slots) same ∙ spot.its (ap (is_taken slots) (sym same) ∙ parts.0))),
          ))
          (λ k has.
          let parts = stands-parts new other k has in
          (k, sym (written.others k (λ same. apart (sym parts.1 ∙ ap (name_at new) same ∙ now_named)))));
    }

-- ---- the search
pub IsSpot-found : (slots : List Slot) (name : LockName) (steps : ℕ) → steps < SLOTS →
    ((u : ℕ) → u < steps → is_open name (slot_at slots (after (home name) u)) ≡ false) →
    is_open name (slot_at slots (after (home name) steps)) ≡ true → IsSpot slots name (after (home name) steps)
IsSpot-found slots name steps lt passed open_here =
    let gap_is = gap-after (home name) steps (home-lt name) lt in
    record {
      within = after-lt (home name) steps;
      its = λ taken. its_own (slot_at slots (after (home name) steps)) taken open_here;
      taken = λ u before. (closed (slot_at slots (after (home name) u)) (passed u (omega (arith, before, gap_is)))).0;
      others = λ u before. (closed (slot_at slots (after (home name) u)) (passed u (omega (arith, before, gap_is)))).1;
    }
  where
    its_own : (s : Slot) → not (is_nobody s.holders) ≡ true → is_open name s ≡ true → s.name ≡ name
    its_own s taken is = elim (or_cases (is_nobody s.holders) (is_same s.name name) is) [
      | inl free ↦ absurd (both_ways (is_nobody s.holders) (not-true (is_nobody s.holders) taken) free)
      | inr same ↦ is_same-true s.name name same
    ]

    closed : (s : Slot) → is_open name s ≡ false → (not (is_nobody s.holders) ≡ true) × (s.name ≢ name)
    closed s is =
        let parts = or_parts (is_nobody s.holders) (is_same s.name name) is in (
          not_from_false (is_nobody s.holders) parts.0,
          λ same.
              both_ways (is_same s.name name) parts.1
              (ap (λ (n : LockName). is_same n name) same ∙ is_same-itself name),
        )

-- a free slot would be open
pub open_somewhere : (slots : List Slot) (name : LockName) → HasFree slots →
    ((u : ℕ) → u < SLOTS → is_open name (slot_at slots (after (home name) u)) ≡ false) → ⊥
open_somewhere slots name free passed =
    let at = after-gap (home name) free.0 (home-lt name) free.1 in
    let shut : is_open name (slot_at slots free.0) ≡ false =
    ap (λ (k : ℕ). is_open name (slot_at slots k)) (sym at) ∙
    passed (gap (home name) free.0) (gap-lt (home name) free.0)
    in
    let s = slot_at slots free.0 in
    both_ways (is_nobody s.holders) (or_parts (is_nobody s.holders) (is_same s.name name) shut).0
    (not-false (is_nobody s.holders) free.2)

-- ---- a slot is free
is_same-laws : IsEquivalence is_same
is_same-laws = record {
  refl = is_same-itself;
  symm = λ a b. symm a b;
  congr = λ a b c same. ap (λ (n : LockName). is_same n c) (is_same-true a b same);
}
  where
    symm : (a b : LockName) → is_same a b ≡ is_same b a
    symm a b = elim (cases_Bool (is_same a b)) [
      | inl same ↦
          let e = is_same-true a b same in
          same ∙ sym (ap (λ (n : LockName). is_same b n) e ∙ is_same-itself b)
      | inr other ↦
          other ∙
          sym (is_same-false b a (λ e. both_ways (is_same a b) other (ap (is_same a) e ∙ is_same-itself a)))
    ]

module _ (slots : List Slot) (probed : IsProbed slots) where
  abbrev names : List LockName
  names = map (λ (s : Slot). s.name) slots

  named : (k : ℕ) (d : LockName) → k < length slots → get_or names k d ≡ name_at slots k
  named k d lt = get_or-map (λ (s : Slot). s.name) slots k free_slot d lt

  many : length names ≡ length slots
  many = length-map slots (λ (s : Slot). s.name)

  -- a name on the list is that of a slot
  of_slot : (q : LockName) → list_any (is_same q) names ≡ true → (k : ℕ) × (k < length slots) × (name_at slots k ≡ q)
  of_slot q listed = elim (passes (is_same q) names q) [
    | inl there ↦
        let lt : there.0 < length slots = omega (arith, there.1, many) in
        (there.0, lt, sym (named there.0 q lt) ∙ sym (is_same-true q (get_or names there.0 q) there.2))
    | inr none ↦
        let nowhere = list_any_none (is_same q) names (λ k d lt.
        let k_lt : k < length slots = omega (arith, lt, many) in
        ap (is_same q) (named k d k_lt ∙ sym (named k q k_lt)) ∙ none k lt)
        in
        absurd (both_ways (list_any (is_same q) names) nowhere listed)
  ]

  -- where each slot is taken there are as many names as slots
  pub length-le_taken : (others : List LockName) → ((k : ℕ) → k < length slots → is_taken slots k ≡ true) →
      ((q : LockName) → is_nobody (holders_of slots q) ≡ false → list_any (is_same q) others ≡ true) →
      length slots ≤ length others
  length-le_taken others taken all =
      let distinct = IsDistinct-from_apart is_same names (λ i j d below lt.
      is_same-false (get_or names i d) (get_or names j d) (λ same.
      let i_lt : i < length slots = omega (arith, below, lt, many) in
      let j_lt : j < length slots = omega (arith, lt, many) in
      let one : i ≡ j =
      probed.once i j (taken i i_lt) (taken j j_lt) (sym (named i d i_lt) ∙ same ∙ named j d j_lt)
      in
      omega (arith, one, below)))
      in
      let le = length-le_from_is_member is_same-laws names others distinct (λ q listed.
      let at = of_slot q listed in
      let here = taken at.0 at.1 in
      let mine = holders_of-at slots q at.0 probed.once (stands slots q at.0 here at.2) in
      all q (ap is_nobody mine ∙ not-true (is_nobody (slot_at slots at.0).holders) here))
      in
      omega (arith, le, many)

  pub HasFree-few : HasFewNames slots → HasFree slots
  HasFree-few few = elim (passes (λ (s : Slot). is_nobody s.holders) slots free_slot) [
    | inl there ↦ (
      there.0,
      omega (arith, there.1, probed.as_many),
      not_from_true (is_nobody (slot_at slots there.0).holders) there.2,
    )
    | inr none ↦
        let le = length-le_taken few.names
        (λ k lt. not_from_false (is_nobody (slot_at slots k).holders) (none k lt)) few.all
        in
        absurd (omega (arith, le, few.few, probed.as_many))
  ]

-- ---- where no two names have one home
module _ (slots : List Slot) (probed : IsProbed slots) (free : HasFree slots) (name : LockName)
    (apart : HasHomesApart slots name) where
  wanted : (k : ℕ) → is_taken slots k ≡ true → IsWanted slots name (name_at slots k)
  wanted k taken =
      let mine = holders_of-at slots (name_at slots k) k probed.once (stands slots (name_at slots k) k taken refl) in
      inr (ap is_nobody mine ∙ not-true (is_nobody (slot_at slots k).holders) taken)

  -- every name stands at its home
  at_home : (fuel place : ℕ) → gap free.0 place < fuel → is_taken slots place ≡ true → way slots place ≡ 0
  at_home zero place few taken = absurd (omega (arith, few))
  at_home (suc fuel) place few taken = elim (cases_eq (way slots place) 0) [
    | inl none ↦ none
    | inr some ↦
        let k = home (name_at slots place) in
        let k_lt = home-lt (name_at slots place) in
        let p_lt : place < SLOTS = omega (arith, within slots place taken, probed.as_many) in
        let there : is_taken slots k ≡ true =
        ap (is_taken slots) (sym (after-none k k_lt)) ∙ probed.reached place 0 p_lt taken (omega (arith, some))
        in
        let nearer = gap-between free.0 k place free.1 k_lt p_lt (before_free place p_lt taken) in
        let settled : way slots k ≡ 0 = at_home fuel k (omega (arith, nearer, few, some)) there in
        let h = home (name_at slots k) in
        let h_lt = home-lt (name_at slots k) in
        let home_is : h ≡ k =
        sym (after-none h h_lt) ∙ ap (after h) (sym settled) ∙ after-gap h k h_lt k_lt
        in
        let same = apart (name_at slots k) (name_at slots place) (wanted k there) (wanted place taken) home_is in
        let at : k ≡ place = probed.once k place there taken same in
        ap (λ (n : LockName). gap (home n) place) (sym same) ∙ ap (gap h) (sym at) ∙ settled
  ]
    where
      before_free : (p : ℕ) → p < SLOTS → is_taken slots p ≡ true → way slots p < gap free.0 p
      before_free p p_lt taken = elim (cases_lt (way slots p) (gap free.0 p)) [
        | inl lt ↦ lt
        | inr le ↦
            let k = home (name_at slots p) in
            let over = after-over k free.0 p (home-lt (name_at slots p)) free.1 p_lt le in
            elim (cases_eq (gap free.0 p) 0) [
              | inl none ↦
                  let at : free.0 ≡ p =
                  sym (after-none free.0 free.1) ∙ ap (after free.0) (sym none) ∙ after-gap free.0 p free.1 p_lt
                  in
                  absurd (both_ways (is_taken slots p) (ap (is_taken slots) (sym at) ∙ free.2) taken)
              | inr some ↦
                  let there = probed.reached p (gap k p - gap free.0 p) p_lt taken (omega (arith, some, le)) in
                  absurd (both_ways (is_taken slots free.0) free.2 (ap (is_taken slots) (sym over) ∙ there))
            ]
      ]

  pub looked_once : (place : ℕ) → IsSpot slots name place → gap (home name) place ≡ 0
  looked_once place spot = elim (cases_eq (gap (home name) place) 0) [
    | inl none ↦ none
    | inr some ↦
        let k = home name in
        let at = after-none k (home-lt name) in
        let there : is_taken slots k ≡ true = ap (is_taken slots) (sym at) ∙ spot.taken 0 (omega (arith, some)) in
        let other : name_at slots k ≢ name =
        λ same. spot.others 0 (omega (arith, some)) (ap (name_at slots) at ∙ same)
        in
        let settled : way slots k ≡ 0 = at_home SLOTS k (gap-lt free.0 k) there in
        let h = home (name_at slots k) in
        let h_lt = home-lt (name_at slots k) in
        let home_is : h ≡ k =
        sym (after-none h h_lt) ∙ ap (after h) (sym settled) ∙ after-gap h k h_lt (home-lt name)
        in
        absurd (other (apart (name_at slots k) name (wanted k there) (inl refl) home_is))
  ]
