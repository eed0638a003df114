-- Tiles that follow one another by next links: the tile of a position is found by walking.
use Rattle.std.proofs.Common.{ℕ, zero, suc, ◌≡◌, ◌+◌, ◌-◌, ◌^◌, ◌<◌, ◌≤◌, List, [], ◌∷◌, ◌++◌, length, Bool, true, false, arith, refl, ap, inl, inr}
use Rattle.std.specs.List.{Contains}
use Rattle.std.proofs.lemmas.Bool.{cases_lt}
use Rattle.directory.specs.declared.pseudokey.TheConstants.{PSEUDOKEY_BITS, POSITIONS}
use Rattle.directory.specs.declared.range.Range.{Range}
use Rattle.directory.specs.Ranges.{HasPosition, start_of, stop_of}
use Rattle.directory.specs.Tiles.{Tiles, AreNeighbours, begun}
use Rattle.directory.specs.Links.{Links, after_hops, met_from}
use Rattle.directory.proofs.MemberLaws.{contains_head, contains_tail, contains_cases, contains_none}
use Rattle.directory.proofs.TileLaws.{tiles_few}
use Rattle.directory.proofs.CountLaws.{begun_rises, begun_inside, begun_next}
use Rattle.directory.proofs.RangeLaws.{range_has_start}

module _ {X : Type 0} (next : X → X) where
  -- links to m and links from m on are links
  pub links_join : (xs ys : List X) (x m e : X) → Links next x xs m → Links next m ys e → Links next x (xs ++ ys) e
  links_join [] ys x m e l k = rw l k
  links_join (y ∷ xs) ys x m e l k = (l.0, links_join xs ys (next y) m e l.1 k)

  -- links may be cut before each item
  pub links_cut : (front : List X) (y : X) (back : List X) (x e : X) → Links next x (front ++ y ∷ back) e →
      Links next x front y × Links next (next y) back e
  links_cut [] y back x e l = (l.0, l.1)
  links_cut (z ∷ front) y back x e l = let rest = links_cut front y back (next z) e l.1 in ((l.0, rest.0), rest.1)

  -- what changes no link of the list keeps it linked
  pub links_same : (new : X → X) (xs : List X) (x e : X) → ((y : X) → Contains xs y → new y ≡ next y) →
      Links next x xs e →
      Links new x xs e
  links_same new [] x e same l = l
  links_same new (y ∷ xs) x e same l =
      let here : new y ≡ next y = same y (contains_head y xs) in
      (l.0, rw here (links_same new xs (next y) e (λ z c. same z (contains_tail y z xs c)) l.1))

  -- the items met by following links are those of the list
  pub links_met : (live : X → Bool) (xs : List X) (n e : X) (fuel : ℕ) → Links next n xs e →
      ((x : X) → Contains xs x → live x ≡ true) → live e ≡ false → length xs ≤ fuel → met_from live next fuel n ≡ xs
  links_met live [] n e zero l alive dead enough = refl
  links_met live [] n e (suc fuel) l alive dead enough = rw (l, dead) refl
  links_met live (y ∷ ys) n e zero l alive dead enough = absurd (omega arith)
  links_met live (y ∷ ys) n e (suc fuel) l alive dead enough =
      let rest = links_met live ys (next y) e fuel l.1 (λ z c. alive z (contains_tail y z ys c)) dead (omega arith) in
      rw (l.0, alive y (contains_head y ys)) (ap (λ (zs : List X). y ∷ zs) rest)

  -- the next of two neighbours is the other
  pub links_neighbours : (xs : List X) (x e y z : X) → Links next x xs e → AreNeighbours xs y z → next y ≡ z
  links_neighbours xs x e y z l (front, back, same) =
      let l' = rw same at l in
      (links_cut front y (z ∷ back) x e l').1.0

module _ {X : Type 0} (next new : X → X) where
  -- an item is linked in behind x
  pub links_insert : (front : List X) (x y : X) (back : List X) (n e : X) → Links next n (front ++ x ∷ back) e →
      ((z : X) → Contains front z → new z ≡ next z) → ((z : X) → Contains back z → new z ≡ next z) → new x ≡ y →
      new y ≡ next x → Links new n (front ++ (x ∷ y ∷ back)) e
  links_insert front x y back n e l front_same back_same to_y from_y =
      let cut = links_cut next front x back n e l in
      links_join new front (x ∷ y ∷ back) n x e (links_same next new front n x front_same cut.0)
      (refl, (to_y, rw from_y (links_same next new back (next x) e back_same cut.1)))

  -- and the item behind x is taken off
  pub links_remove : (front : List X) (x y : X) (back : List X) (n e : X) → Links next n (front ++ x ∷ y ∷ back) e →
      ((z : X) → Contains front z → new z ≡ next z) → ((z : X) → Contains back z → new z ≡ next z) → new x ≡ next y →
      Links new n (front ++ (x ∷ back)) e
  links_remove front x y back n e l front_same back_same past_y =
      let cut = links_cut next front x (y ∷ back) n e l in
      links_join new front (x ∷ back) n x e (links_same next new front n x front_same cut.0)
      (refl, rw past_y (links_same next new back (next y) e back_same cut.1.1))

module _ {X : Type 0} (range : X → Range) (next : X → X) where
  -- the next of each tile but the last is a tile that begins where it stops
  pub tiles_next : (xs : List X) (a b : ℕ) (n e x : X) → Tiles range a xs b → Links next n xs e → Contains xs x →
      stop_of (range x) < b → Contains xs (next x) × (start_of (range (next x)) ≡ stop_of (range x))
  tiles_next [] a b n e x t l c short = absurd (contains_none x c)
  tiles_next (y ∷ xs) a b n e x t l c short = elim (contains_cases y x xs c) [
    | inl same ↦ at_head xs same t.1 l.1
    | inr d ↦ later (tiles_next xs (stop_of (range y)) b (next y) e x t.1 l.1 d short)
  ]
    where
      at_head : (zs : List X) → y ≡ x → Tiles range (stop_of (range y)) zs b → Links next (next y) zs e →
          Contains (y ∷ zs) (next x) × (start_of (range (next x)) ≡ stop_of (range x))
      at_head [] same u k = absurd (let s = rw (← same) at short in omega (arith, s, u))
      at_head (z ∷ zs) same u k = rw (← same, k.0) (contains_tail y z (z ∷ zs) (contains_head z zs), u.0.begins)

      later : Contains xs (next x) × (start_of (range (next x)) ≡ stop_of (range x)) →
          Contains (y ∷ xs) (next x) × (start_of (range (next x)) ≡ stop_of (range x))
      later (d, meet) = (contains_tail y (next x) xs d, meet)

  -- from a tile at or before a position as many hops lead to its tile as tiles begin on the way
  pub walk_finds : (hops : ℕ) (xs : List X) (a b : ℕ) (n e x : X) (p : ℕ) → Tiles range a xs b → Links next n xs e →
      Contains xs x → start_of (range x) ≤ p → p < b → begun range xs p ≡ begun range xs (start_of (range x)) + hops →
      Contains xs (after_hops next hops x) × HasPosition (range (after_hops next hops x)) p
  walk_finds zero xs a b n e x p t l c low high count = elim (cases_lt p (stop_of (range x))) [
    | inl lt ↦ (c, (low, lt))
    | inr ge ↦ absurd (
        let more = begun_next range xs a b x (start_of (range x)) t c (range_has_start (range x)) (omega arith) in
        omega (arith, count, more, begun_rises range xs (stop_of (range x)) p ge))
  ]
  walk_finds (suc hops) xs a b n e x p t l c low high count = elim (cases_lt p (stop_of (range x))) [
    | inl lt ↦ absurd (omega (arith, count, begun_inside range xs a b x p t c (low, lt)))
    | inr ge ↦ (
        let short : stop_of (range x) < b = omega arith in
        let more = begun_next range xs a b x (start_of (range x)) t c (range_has_start (range x)) short in
        let step = tiles_next xs a b n e x t l c short in
        walk_finds hops xs a b n e (next x) p t l step.0 (omega (arith, step.1)) high
        (rw (step.1) (omega (arith, count, more))))
  ]

  -- the number of hops is that of the tiles that begin on the way
  pub walk_finds_tile : (xs : List X) (a b : ℕ) (n e x : X) (p : ℕ) → Tiles range a xs b → Links next n xs e →
      Contains xs x → start_of (range x) ≤ p → p < b →
      HasPosition (range (after_hops next (begun range xs p - begun range xs (start_of (range x))) x)) p
  walk_finds_tile xs a b n e x p t l c low high =
      (walk_finds (begun range xs p - begun range xs (start_of (range x))) xs a b n e x p t l c low high
      (omega (arith, begun_rises range xs (start_of (range x)) p low))).1

-- within fuel for all patterns of the greatest depth, all tiles are met
pub walk_meets_all : {X : Type 0} (range : X → Range) (live : X → Bool) (next : X → X) (xs : List X) (n e : X) (l : ℕ) →
    Tiles range 0 xs POSITIONS → Links next n xs e → l ≤ PSEUDOKEY_BITS →
    ((x : X) → Contains xs x → ((range x).depth ≤ l) × (live x ≡ true)) → live e ≡ false →
    met_from live next (2 ^ l) n ≡ xs
walk_meets_all range live next xs n e l t links within each dead =
    links_met next live xs n e (2 ^ l) links (λ x c. (each x c).1) dead
    (tiles_few range xs l t within (λ x c. (each x c).0))
