-- What pins and pages that come and go leave true of a table.
use Rattle.std.proofs.Common.{rules, ◌≡◌, ◌∙◌, refl, sym, ap, subst, ℕ, zero, suc, ◌+◌, ◌<◌, ◌≤◌, false, List, length}
use Rattle.std.proofs.Common.{arith, ◌⊎◌, inl, inr, Option, Some, None, IsSome, slice_index_or, slice_set, cond}
use Rattle.std.proofs.Math.ListN.{get_or-eq_default}
use Rattle.std.proofs.lemmas.Bool.{cases_eq, cases_lt}
use Rattle.std.proofs.lemmas.List.{get_or-set_same, get_or-set_other, length-set}
use Rattle.std.proofs.lemmas.List.Sums.{sum_by-set}
use Rattle.buffer_pool.specs.Table.{Held, IsWhole, IsFree, IsTaken, place_of, page_of, pins_of, count_pinned}
use Rattle.buffer_pool.specs.Table.{is_pinned, with_pins, moved_in, without}

-- what is found in a list is within it
pub within_if_found : (xs : List (Option ℕ)) (i x : ℕ) → slice_index_or xs i None ≡ Some x → i < length xs
within_if_found xs i x found = at (cases_lt i (length xs))
  where
    at : (i < length xs) ⊎ (length xs ≤ i) → i < length xs
    at (inl within) = within
    at (inr past) = let none = get_or-eq_default xs None past in absurd cc

pub some_place : (o : Option ℕ) → IsSome o → (frame : ℕ) × (o ≡ Some frame)
some_place (Some frame) is = (frame, refl)
some_place None is = absurd cc

-- a page that loses its frame is in none, and the others stay where they are
without_loses : (o : Option ℕ) (places : List (Option ℕ)) (j g : ℕ) → slice_index_or (without o places) j None ≡ Some g
    → (slice_index_or places j None ≡ Some g) × (o ≡ Some j → ⊥)
without_loses None places j g here = (here, λ is. absurd cc)
without_loses (Some m) places j g here = at (cases_eq j m)
  where
    at : (j ≡ m) ⊎ (j ≡ m → ⊥) → (slice_index_or places j None ≡ Some g) × (Some m ≡ Some j → ⊥)
    at (inl same) =
        let within = within_if_found (slice_set places m None) j g here in
        let lost = get_or-set_same places m None None
        (subst (λ i. i < length places) same (subst (λ n. j < n) (length-set places m None) within)) in
        absurd cc
    at (inr other) = (sym (get_or-set_other places m j None None other) ∙ here, λ is. other cc)

pub without_keeps : (o : Option ℕ) (places : List (Option ℕ)) (j : ℕ) → (o ≡ Some j → ⊥)
    → slice_index_or (without o places) j None ≡ slice_index_or places j None
without_keeps None places j other = refl
without_keeps (Some m) places j other = get_or-set_other places m j None None (λ same. other (ap Some (sym same)))

pub without_goes : (o : Option ℕ) (places : List (Option ℕ)) (j : ℕ) → o ≡ Some j → j < length places
    → slice_index_or (without o places) j None ≡ None
without_goes None places j is within = absurd cc
without_goes (Some m) places j is within =
    let same : m ≡ j = cc in
    subst (λ k. slice_index_or (slice_set places k None) j None ≡ None) (sym same)
    (get_or-set_same places j None None within)

pub length-without : (o : Option ℕ) (places : List (Option ℕ)) → length (without o places) ≡ length places
length-without None places = refl
length-without (Some m) places = length-set places m None

-- how much a page that is pinned so often adds to the count
abbrev pub one_if_pinned : ℕ → ℕ
one_if_pinned m = cond (is_pinned m) 1 0

one_if_some : (x : ℕ) → 0 < x → one_if_pinned x ≡ 1
one_if_some zero some = absurd (omega arith)
one_if_some (suc x) some = refl

module _ (t : Held) (whole : IsWhole t) where
  pub count_pinned-first : (page n : ℕ) → page < length t.pins → pins_of t page ≡ 0
      → count_pinned (slice_set t.pins page (n + 1)) ≡ count_pinned t.pins + 1
  count_pinned-first page n within none =
      let counts : count_pinned (slice_set t.pins page (n + 1)) + one_if_pinned
      (pins_of t page) ≡ count_pinned t.pins + one_if_pinned (n + 1)
      = sum_by-set one_if_pinned t.pins page (n + 1) 0 within in
      let none_before : one_if_pinned (pins_of t page) ≡ 0 = ap one_if_pinned none in
      let one_after : one_if_pinned (n + 1) ≡ 1 = one_if_some (n + 1) (omega arith) in
      counted _ _ _ _ counts none_before one_after
    where
      counted : (a b x y : ℕ) → a + x ≡ b + y → x ≡ 0 → y ≡ 1 → a ≡ b + 1
      counted a b x y sums none one = omega arith

  pub IsWhole-with_pins : (page n : ℕ) → ((frame : ℕ) × (place_of t page ≡ Some frame)) → IsWhole (with_pins page n t)
  IsWhole-with_pins page n place = record {
    even_pins = length-set t.pins page n ∙ whole.even_pins;
    even_changed = whole.even_changed;
    even_payloads = whole.even_payloads;
    in_frame = whole.in_frame;
    at_place = whole.at_place;
    stays = λ j some. at j some (cases_eq j page);
  }
    where
      at : (j : ℕ) → 0 < slice_index_or (slice_set t.pins page n) j 0 → (j ≡ page) ⊎ (j ≡ page → ⊥)
          → (frame : ℕ) × (place_of t j ≡ Some frame)
      at j some (inl same) = (place.0, ap (place_of t) same ∙ place.1)
      at j some (inr other) = whole.stays j (subst (λ m. 0 < m) (get_or-set_other t.pins page j n 0 other) some)

  module _ (frame page : ℕ) (payload : List ℕ) (in_range : frame < length t.pages) (free : IsFree t frame)
      (on_device : page < length t.places)
      (outside : place_of t page ≡ None) where
    abbrev gone : List (Option ℕ)
    gone = without (page_of t frame) t.places

    placed : slice_index_or (slice_set gone page (Some frame)) page None ≡ Some frame
    placed = get_or-set_same gone page (Some frame) None
        (subst (λ n. page < n) (sym (length-without (page_of t frame) t.places)) on_device)

    put : slice_index_or (slice_set t.pages frame (Some page)) frame None ≡ Some page
    put = get_or-set_same t.pages frame (Some page) None in_range

    -- a page that was in another frame stays there
    stays_placed : (j g : ℕ) → place_of t j ≡ Some g → (page_of t frame ≡ Some j → ⊥)
        → slice_index_or (slice_set gone page (Some frame)) j None ≡ Some g
    stays_placed j g at_g elsewhere =
        get_or-set_other gone page j (Some frame) None (λ same. let there = ap (place_of t) same in absurd cc)
        ∙ without_keeps (page_of t frame) t.places j elsewhere ∙ at_g

    pub IsWhole-moved_in : IsWhole (moved_in frame page payload t)
    IsWhole-moved_in = record {
      even_pins = whole.even_pins ∙ sym (length-set gone page (Some frame) ∙ length-without (page_of t frame) t.places);
      even_changed = length-set t.changed frame false ∙ whole.even_changed ∙ sym (length-set t.pages frame (Some page));
      even_payloads = length-set t.payloads frame payload ∙ whole.even_payloads
          ∙ sym (length-set t.pages frame (Some page));
      in_frame = λ j g here. find_frame j g here (cases_eq j page);
      at_place = λ j g here. find_place j g here (cases_eq g frame);
      stays = λ j some. still j some (whole.stays j some);
    }
      where
        find_frame : (j g : ℕ) → slice_index_or (slice_set gone page (Some frame)) j None ≡ Some g
            → (j ≡ page) ⊎ (j ≡ page → ⊥)
            → slice_index_or (slice_set t.pages frame (Some page)) g None ≡ Some j
        find_frame j g here (inl same) = let there = placed in let back = put in cc
        find_frame j g here (inr other) =
            let old = without_loses (page_of t frame) t.places j g
            (sym (get_or-set_other gone page j (Some frame) None other) ∙ here) in
            let in_g = whole.in_frame j g old.0 in
            get_or-set_other t.pages frame g (Some page) None (λ same. old.1 (ap (page_of t) (sym same) ∙ in_g)) ∙ in_g

        find_place : (j g : ℕ) → slice_index_or (slice_set t.pages frame (Some page)) g None ≡ Some j
            → (g ≡ frame) ⊎ (g ≡ frame → ⊥)
            → slice_index_or (slice_set gone page (Some frame)) j None ≡ Some g
        find_place j g here (inl same) = let there = placed in let back = put in cc
        find_place j g here (inr other) =
            let at_g = whole.at_place j g (sym (get_or-set_other t.pages frame g (Some page) None other) ∙ here) in
            stays_placed j g at_g (λ is. let at_frame = whole.at_place j frame is in other cc)

        still : (j : ℕ) → 0 < pins_of t j → (f : ℕ) × (place_of t j ≡ Some f)
            → (f : ℕ) × (slice_index_or (slice_set gone page (Some frame)) j None ≡ Some f)
        still j some place = (place.0, stays_placed j place.0 place.1 (λ is. let no_pin = free j is in omega arith))

-- so many different pages that are pinned are counted
pub crowd : (n : ℕ) (pins : List ℕ) (page : ℕ → ℕ) → ((f : ℕ) → f < n → 0 < slice_index_or pins (page f) 0)
    → ((f g : ℕ) → f < n → g < n → page f ≡ page g → f ≡ g) → n ≤ count_pinned pins
crowd zero pins page all apart = omega arith
crowd (suc n) pins page all apart =
    let last = all n (omega arith) in
    let within = found_within pins (page n) last in
    let counts : count_pinned (slice_set pins (page n) 0) + one_if_pinned
    (slice_index_or pins (page n) 0) ≡ count_pinned pins + one_if_pinned 0
    = sum_by-set one_if_pinned pins (page n) 0 0 within in
    let rest = crowd n (slice_set pins (page n) 0) page
    (λ f below. subst (λ m. 0 < m)
    (sym (get_or-set_other pins (page n) (page f) 0 0
    (λ same. let now = apart f n (omega arith) (omega arith) same in omega arith))) (all f (omega arith)))
    (λ f g f_below g_below same. apart f g (omega arith) (omega arith) same) in
    counted _ _ _ _ _ rest counts (one_if_some _ last) refl
  where
    found_within : (pins : List ℕ) (p : ℕ) → 0 < slice_index_or pins p 0 → p < length pins
    found_within pins p some = at (cases_lt p (length pins))
      where
        at : (p < length pins) ⊎ (length pins ≤ p) → p < length pins
        at (inl inside) = inside
        at (inr past) = let none = get_or-eq_default pins 0 past in absurd (omega arith)

    counted : (n a b x y : ℕ) → n ≤ a → a + x ≡ b + y → x ≡ 1 → y ≡ 0 → suc n ≤ b
    counted n a b x y rest sums one none = omega arith

abbrev pub number_of : Option ℕ → ℕ
number_of None = 0
number_of (Some page) = page

-- where each frame holds a pinned page, there are as many such pages as frames
pub all_taken : (t : Held) → IsWhole t → ((frame : ℕ) → frame < length t.pages → IsTaken t frame)
    → length t.pages ≤ count_pinned t.pins
all_taken t whole taken = crowd (length t.pages) t.pins (λ f. number_of (page_of t f)) pinned apart
  where
    pinned : (f : ℕ) → f < length t.pages → 0 < slice_index_or t.pins (number_of (page_of t f)) 0
    pinned f within = let is = taken f within in subst (λ o. 0 < slice_index_or t.pins (number_of o) 0) (sym is.1) is.2

    apart : (f g : ℕ) → f < length t.pages → g < length t.pages → number_of (page_of t f) ≡ number_of (page_of t g)
        → f ≡ g
    apart f g f_within g_within same =
        let at_f = taken f f_within in
        let at_g = taken g g_within in
        let numbers = sym (ap number_of at_f.1) ∙ same ∙ ap number_of at_g.1 in
        let f_place = whole.at_place at_f.0 f at_f.1 in
        let g_place = whole.at_place at_g.0 g at_g.1 in
        cc

-- a page that came into a frame is there, and there are as many places as before
pub some_if_placed : (t : Held) (frame page : ℕ) (payload : List ℕ) → page < length t.places
    → IsSome (place_of (moved_in frame page payload t) page)
some_if_placed t frame page payload within = is_some_if (place_of (moved_in frame page payload t) page) placed
  where
    gone : List (Option ℕ)
    gone = without (page_of t frame) t.places

    placed : place_of (moved_in frame page payload t) page ≡ Some frame
    placed = get_or-set_same gone page (Some frame) None
        (subst (λ n. page < n) (sym (length-without (page_of t frame) t.places)) within)

    is_some_if : (o : Option ℕ) → o ≡ Some frame → IsSome o
    is_some_if None is = absurd cc
    is_some_if (Some f) is = search rules

pub length-places : (t : Held) (frame page : ℕ) (payload : List ℕ)
    → length (moved_in frame page payload t).places ≡ length t.places
length-places t frame page payload = length-set (without (page_of t frame) t.places) page (Some frame)
    ∙ length-without (page_of t frame) t.places
