-- Frames that hold no page: which is filled next, and that there is one where there is a frame for each page.
use Rattle.std.proofs.Common.{rules, ◌≡◌, ◌∙◌, refl, sym, ap, subst, ℕ, ◌+◌, ◌<◌, ◌≤◌, List, length, arith, ◌⊎◌, inl, inr}
use Rattle.std.proofs.Common.{Bool, true, Option, Some, None, IsSome, replicate, slice_index_or, slice_set}
use Rattle.std.proofs.lemmas.Bool.{cases_eq, cases_lt}
use Rattle.std.proofs.lemmas.List.{get_or-replicate, get_or-set_same, get_or-set_other, length-replicate, length-set}
use Rattle.std.proofs.lemmas.List.Folds.{sum_by-replicate}
use Rattle.std.proofs.lemmas.List.Sums.{sum_by-set}
use Rattle.buffer_pool.specs.Pool.{IsSoundPool}
use Rattle.buffer_pool.specs.Table.{AreFilled, Held, IsFree, IsKept, IsNext, IsWhole, count_pinned, moved_in, page_of, place_of}
use Rattle.buffer_pool.proofs.TableLemmas.{IsWhole-moved_in, crowd, number_of, one_if_pinned, within_if_found}

one_each : (n : ℕ) → count_pinned (replicate n 1) ≡ n
one_each n = sum_by-replicate one_if_pinned n 1 ∙ omega arith

-- where there is a frame for each page, and one page is in none
module _ (t : Held) (whole : IsWhole t) (page : ℕ) (on_device : page < length t.places)
    (outside : place_of t page ≡ None) (roomy : length t.places ≤ length t.pages) where
  abbrev ones : List ℕ
  ones = slice_set (replicate (length t.places) 1) page 0

  -- the other pages are fewer than the frames
  short : length t.places ≡ count_pinned ones + 1
  short =
      let first = get_or-replicate (length t.places) page 1 0 on_device in
      let inside = subst (λ n. page < n) (sym (length-replicate (length t.places) 1)) on_device in
      let counts : count_pinned ones + one_if_pinned (slice_index_or (replicate (length t.places) 1) page 0)
      ≡ count_pinned (replicate (length t.places) 1) + one_if_pinned 0
      = sum_by-set one_if_pinned (replicate (length t.places) 1) page 0 0 inside in
      sums _ _ _ _ counts (ap one_if_pinned first) refl (one_each (length t.places))
    where
      sums : (a b x y : ℕ) → a + x ≡ b + y → x ≡ 1 → y ≡ 0 → b ≡ length t.places → length t.places ≡ a + 1
      sums a b x y counts one none all = omega arith

  -- so it can't be that each frame holds one
  module _ (held : (f : ℕ) → f < length t.pages → (q : ℕ) × (page_of t f ≡ Some q)) where
    counted : (f : ℕ) → f < length t.pages → 0 < slice_index_or ones (number_of (page_of t f)) 0
    counted f within =
        let q = held f within in
        let place = whole.at_place q.0 f q.1 in
        let other : q.0 ≡ page → ⊥ = λ same. let there = ap (place_of t) same in absurd cc in
        let one : slice_index_or ones q.0 0 ≡ 1 = get_or-set_other (replicate (length t.places) 1) page q.0 0 0 other
        ∙ get_or-replicate (length t.places) q.0 1 0 (within_if_found t.places q.0 f place) in
        subst (λ o. 0 < slice_index_or ones (number_of o) 0) (sym q.1) (omega (arith, one))

    apart : (f g : ℕ) → f < length t.pages → g < length t.pages → number_of (page_of t f) ≡ number_of (page_of t g)
        → f ≡ g
    apart f g f_within g_within same =
        let at_f = held f f_within in
        let at_g = held g g_within in
        let numbers = sym (ap number_of at_f.1) ∙ same ∙ ap number_of at_g.1 in
        let f_place = whole.at_place at_f.0 f at_f.1 in
        let g_place = whole.at_place at_g.0 g at_g.1 in
        cc

    never : ⊥
    never =
        let many = crowd (length t.pages) ones (λ f. number_of (page_of t f)) counted apart in
        let few = short in
        omega arith

  -- a frame that is filled next is empty
  pub next_is_empty : (frame : ℕ) → IsNext t.pages frame → page_of t frame ≡ None
  next_is_empty frame next = at (page_of t frame) refl
    where
      held : (p : ℕ) → page_of t frame ≡ Some p → (f : ℕ) → f < length t.pages → (o : Option ℕ) → page_of t f ≡ o
          → (q : ℕ) × (page_of t f ≡ Some q)
      held p here f within (Some q) is = (q, is)
      held p here f within None is = let none = next.empty f within is in absurd cc

      at : (o : Option ℕ) → page_of t frame ≡ o → page_of t frame ≡ None
      at None is = is
      at (Some p) is = absurd (never (λ f within. held p is f within (page_of t f) refl))

-- where nothing is written to the device as a page comes in
pub roomy_is_empty : (stored : List (List ℕ)) (honest : Bool) (t : Held) → IsSoundPool stored honest t
    → (frame page : ℕ) → IsNext t.pages frame → page < length t.places → place_of t page ≡ None
    → length stored ≤ length t.pages → (s : Held) → s ≡ t → page_of s frame ≡ None
roomy_is_empty stored honest t sound frame page next on_device outside roomy s same =
    let many = sound.as_many in
    subst (λ (u : Held). page_of u frame ≡ None) (sym same)
    (next_is_empty t sound.whole page on_device outside (omega (arith, many, roomy)) frame next)

-- ---- the frames that hold pages once one is filled

module _ (filled : ℕ) (pages : List (Option ℕ)) (frame page : ℕ) (are : AreFilled filled pages)
    (within : frame < length pages) where
  put : slice_index_or (slice_set pages frame (Some page)) frame None ≡ Some page
  put = get_or-set_same pages frame (Some page) None within

  put_other : (f : ℕ) → (f ≡ frame → ⊥)
      → slice_index_or (slice_set pages frame (Some page)) f None ≡ slice_index_or pages f None
  put_other f other = get_or-set_other pages frame f (Some page) None other

  holds_at : (f : ℕ) → (f ≡ frame) ⊎ (f ≡ frame → ⊥) → ((f < filled) ⊎ (f ≡ frame))
      → IsSome (slice_index_or (slice_set pages frame (Some page)) f None)
  holds_at f (inl same) where_it_is =
      subst IsSome (sym (ap (λ n. slice_index_or (slice_set pages frame (Some page)) n None) same ∙ put)) (search rules)
  holds_at f (inr other) (inl below) = subst IsSome (sym (put_other f other)) (are.below f below)
  holds_at f (inr other) (inr same) = absurd (other same)

  -- the next one
  pub filled_next : frame ≡ filled → AreFilled (filled + 1) (slice_set pages frame (Some page))
  filled_next next = record {
    below = λ f less. holds_at f (cases_eq f frame) (earlier f less (cases_eq f frame));
    behind = λ f past. put_other f (λ same. omega (arith, past, same, next)) ∙ are.behind f (omega (arith, past));
  }
    where
      earlier : (f : ℕ) → f < filled + 1 → (f ≡ frame) ⊎ (f ≡ frame → ⊥) → (f < filled) ⊎ (f ≡ frame)
      earlier f less (inl same) = inr same
      earlier f less (inr other) = inl (past_one f less (λ same. other (same ∙ sym next)))
        where
          past_one : (f : ℕ) → f < filled + 1 → (f ≡ filled → ⊥) → f < filled
          past_one f less other = omega arith

  -- or one that held a page
  pub is_earlier : IsNext pages frame → (frame ≡ filled → ⊥) → frame < filled
  is_earlier next other = at (cases_lt filled (length pages))
    where
      at : (filled < length pages) ⊎ (length pages ≤ filled) → frame < filled
      at (inl there) = let first = next.first filled there (are.behind filled (omega arith)) in omega arith
      at (inr past) = omega arith

  pub filled_again : frame < filled → AreFilled filled (slice_set pages frame (Some page))
  filled_again earlier = record {
    below = λ f less. holds_at f (cases_eq f frame) (inl less);
    behind = λ f past. put_other f (λ same. omega (arith, past, same, earlier)) ∙ are.behind f past;
  }

-- a table where a page came into a frame
pub IsKept-moved_in : (pinned filled now_filled room : ℕ) (used : List Bool) (t : Held) (frame page : ℕ)
    (payload : List ℕ) → IsKept pinned filled room used t → frame < length t.pages → IsFree t frame
    → page < length t.places → place_of t page ≡ None → AreFilled now_filled (slice_set t.pages frame (Some page))
    → IsKept pinned now_filled room (slice_set used frame true) (moved_in frame page payload t)
IsKept-moved_in pinned filled now_filled room used t frame page payload kept in_range free on_device outside holding =
    record {
      whole = IsWhole-moved_in t kept.whole frame page payload in_range free on_device outside;
      roomy = subst (λ n. n ≤ room) (sym (length-set t.pages frame (Some page))) kept.roomy;
      even_used = length-set used frame true ∙ kept.even_used ∙ sym (length-set t.pages frame (Some page));
      counted = kept.counted;
      holding = holding;
    }

-- ---- which is filled next

-- a frame that holds a page is none that holds no page
holds : (o : Option ℕ) → IsSome o → o ≡ None → ⊥
holds None some none = absurd cc
holds (Some page) some none = absurd cc

-- the first frame that holds no page is filled next, and where each holds one any is
pub first_next : (pages : List (Option ℕ)) (filled : ℕ) → AreFilled filled pages → IsNext pages filled
first_next pages filled are = record {
  empty = λ other within none. are.behind filled (omega arith);
  first = λ other within none. at other none (cases_lt other filled);
}
  where
    at : (other : ℕ) → slice_index_or pages other None ≡ None → (other < filled) ⊎ (filled ≤ other) → filled ≤ other
    at other none (inl below) = absurd (holds _ (are.below other below) none)
    at other none (inr behind) = behind

-- a frame that holds a page is one of the first
pub held_is_filled : (pages : List (Option ℕ)) (filled frame : ℕ) → AreFilled filled pages
    → IsSome (slice_index_or pages frame None) → frame < filled
held_is_filled pages filled frame are some = at (cases_lt frame filled)
  where
    at : (frame < filled) ⊎ (filled ≤ frame) → frame < filled
    at (inl below) = below
    at (inr behind) = absurd (holds _ some (are.behind frame behind))

pub any_next : (pages : List (Option ℕ)) (filled frame : ℕ) → AreFilled filled pages → length pages ≤ filled
    → IsNext pages frame
any_next pages filled frame are full = record {
  empty = λ other within none. absurd (holds _ (are.below other (omega arith)) none);
  first = λ other within none. absurd (holds _ (are.below other (omega arith)) none);
}
