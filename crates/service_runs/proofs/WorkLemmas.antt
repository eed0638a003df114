-- The desks of a crew, one after the other.
use Rattle.std.proofs.Common.{◌≡◌, ◌≢◌, ◌⊎◌, inl, inr, ◌<◌, ◌≤◌, ℕ, zero, suc, ◌+◌, List, [], ◌∷◌, ◌++◌, length, refl, sym, ap, ◌∙◌, subst, append-nil, append_assoc, length-append, arith}
use Rattle.std.specs.Prelude.{slice_set}
use Rattle.std.proofs.lemmas.Bool.{cases_eq}
use Rattle.std.proofs.lemmas.List.{length-set, get_or-set_other, get_or-set_same}
use Rattle.std.specs.List.{AllZip}
use Rattle.workers.specs.Origins.{Origin}
use Rattle.service_runs.specs.Desks.{AreMade, AreUntouched, DeskView, IsFresh, IsMadeOf, desk_at, no_desk}

-- ---- desks that each lead to something

zipped_more : (R : DeskView → DeskView → Type 0) (ds es : List DeskView) (d e : DeskView) → AllZip R ds es → R d e →
    AllZip R (ds ++ d ∷ []) (es ++ e ∷ [])
zipped_more R [] [] d e zipped leads = (leads, tt)
zipped_more R [] (b ∷ es) d e zipped leads = absurd zipped
zipped_more R (a ∷ ds) [] d e zipped leads = absurd zipped
zipped_more R (a ∷ ds) (b ∷ es) d e zipped leads = (zipped.0, zipped_more R ds es d e zipped.1 leads)

behind : (ds : List DeskView) (d : DeskView) (more : List DeskView) → desk_at (ds ++ d ∷ more) (length ds) ≡ d
behind [] d more = refl
behind (a ∷ ds) d more = behind ds d more

empty : (ds : List DeskView) → length ds ≡ 0 → ds ≡ []
empty [] none = refl
empty (d ∷ ds) none = absurd (omega arith)

-- so many of all desks are left, and each of the others has led to one of these in its place, for which there is room
pub record IsLeading (R : DeskView → DeskView → Type 0) (all left : List DeskView) (count : ℕ) (made : List DeskView)
    (room : ℕ) : Type 0 where
  pub passed : List DeskView
  pub whole : passed ++ left ≡ all
  pub leads : AllZip R passed made
  pub count_is : count ≡ length left
  pub fits : length made + length left ≤ room

module _ (R : DeskView → DeskView → Type 0) (all left : List DeskView) (count : ℕ) (made : List DeskView) (room : ℕ)
  where
    pub leading_starts : left ≡ all → count ≡ length all → made ≡ [] → length all ≤ room →
        IsLeading R all left count made room
    leading_starts same many none fits = record {
      passed = [];
      whole = same;
      leads = subst (AllZip R []) (sym none) tt;
      count_is = many ∙ sym (ap length same);
      fits = let no = ap length none in let long = ap length same in omega arith;
    }

    module _ (l : IsLeading R all left count made room) where
      pub leading_room : (d : DeskView) (more : List DeskView) → left ≡ d ∷ more → length made < room
      leading_room d more is = let fits = l.fits in let long = ap length is in omega arith

      -- nobody has begun at the next one
      pub leading_fresh : (d : DeskView) (more : List DeskView) → left ≡ d ∷ more → AreUntouched all → IsFresh d
      leading_fresh d more is untouched =
          let whole : all ≡ l.passed ++ d ∷ more =
          sym l.whole ∙ ap (λ (x : List DeskView). l.passed ++ x) is in
          let long = ap length whole ∙ length-append l.passed (d ∷ more) in
          subst IsFresh (ap (λ (x : List DeskView). desk_at x (length l.passed)) whole ∙ behind l.passed d more)
          (untouched (length l.passed) (omega (arith, long)))

      pub leading_goes : (count' room' : ℕ) (made' : List DeskView) (d e : DeskView) (more : List DeskView) →
          left ≡ d ∷ more → count' + 1 ≡ count → R d e → made' ≡ made ++ e ∷ [] → room' ≡ room →
          IsLeading R all more count' made' room'
      leading_goes count' room' made' d e more is fewer to more_made same = record {
        passed = l.passed ++ d ∷ [];
        whole = append_assoc l.passed (d ∷ []) more ∙ ap (λ (x : List DeskView). l.passed ++ x) (sym is) ∙ l.whole;
        leads = subst (AllZip R (l.passed ++ d ∷ [])) (sym more_made) (zipped_more R l.passed made d e l.leads to);
        count_is = let long = ap length is in let count_is = l.count_is in omega arith;
        fits =
            let fits = l.fits in
            let long = ap length is in
            let longer = ap length more_made ∙ length-append made (e ∷ []) in
            omega arith;
      }

      pub leading_ends : count ≡ 0 → AllZip R all made
      leading_ends none =
          subst (λ (x : List DeskView). AllZip R x made)
          (sym (append-nil l.passed)
          ∙ ap (λ (x : List DeskView). l.passed ++ x) (sym (empty left (sym l.count_is ∙ none))) ∙ l.whole)
          l.leads

-- ---- desks that were made

-- at desks of a service that began so
module _ (o : Origin) where
  as_many : (old new : List DeskView) → AllZip (IsMadeOf o) old new → length new ≡ length old
  as_many [] [] made = refl
  as_many [] (e ∷ es) made = absurd made
  as_many (d ∷ ds) [] made = absurd made
  as_many (d ∷ ds) (e ∷ es) made = ap suc (as_many ds es made.1)

  each : (old new : List DeskView) → AllZip (IsMadeOf o) old new → (place : ℕ) → place < length old →
      IsMadeOf o (desk_at old place) (desk_at new place)
  each [] [] made place below = absurd (omega arith)
  each [] (e ∷ es) made place below = absurd made
  each (d ∷ ds) [] made place below = absurd made
  each (d ∷ ds) (e ∷ es) made zero below = made.0
  each (d ∷ ds) (e ∷ es) made (suc place) below = each ds es made.1 place (omega arith)

  pub all_made : (old new : List DeskView) → AllZip (IsMadeOf o) old new → AreMade o old new
  all_made old new made = record { as_many = as_many old new made; each = each old new made }

  -- ---- desks none of which makes its lines

  -- those before a place were refused, and nobody has begun at the others
  pub record IsRefusing (old now : List DeskView) (count : ℕ) : Type 0 where
    pub as_many : length now ≡ length old
    pub refused : (place : ℕ) → place < count → place < length old → IsMadeOf o (desk_at old place)
        (desk_at now place)
    pub left : (place : ℕ) → count ≤ place → desk_at now place ≡ desk_at old place

  pub refusing_starts : (old : List DeskView) → IsRefusing old old 0
  refusing_starts old = record {
    as_many = refl;
    refused = λ place none. absurd (omega (arith, none));
    left = λ place behind. refl;
  }

  pub refusing_ends : (old now : List DeskView) (count : ℕ) → IsRefusing old now count → length old ≤ count →
      AreMade o old now
  refusing_ends old now count r all = record {
    as_many = r.as_many;
    each = λ place below. r.refused place (omega (arith, all, below)) below;
  }

  module _ (old now : List DeskView) (count : ℕ) (r : IsRefusing old now count) where
    pub refusing_fresh : count < length old → AreUntouched old → IsFresh (desk_at now count)
    refusing_fresh below untouched =
        let not_less : count ≤ count = omega arith in
        subst IsFresh (sym (r.left count not_less)) (untouched count below)

    pub refusing_goes : (d : DeskView) → count < length old → IsMadeOf o (desk_at now count) d →
        IsRefusing old (slice_set now count d) (count + 1)
    refusing_goes d below made = record {
      as_many = length-set now count d ∙ r.as_many;
      refused = λ place before here. by place before here (cases_eq place count);
      left = λ place behind.
          let apart : place ≢ count = omega (arith, behind) in
          get_or-set_other now count place d no_desk apart ∙ r.left place (omega (arith, behind));
    }
      where
        by : (place : ℕ) → place < count + 1 → place < length old → (place ≡ count) ⊎ (place ≢ count) →
            IsMadeOf o (desk_at old place) (desk_at (slice_set now count d) place)
        by place before here (inl same) =
            let as_many = r.as_many in
            let not_less : count ≤ count = omega arith in
            let its : desk_at (slice_set now count d) place ≡ d =
            ap (λ (n : ℕ). desk_at (slice_set now count d) n) same
            ∙ get_or-set_same now count d no_desk (omega (arith, as_many, below)) in
            let was : desk_at now count ≡ desk_at old place =
            r.left count not_less ∙ ap (λ (n : ℕ). desk_at old n) (sym same) in
            subst (IsMadeOf o (desk_at old place)) (sym its) (subst (λ (x : DeskView). IsMadeOf o x d) was made)
        by place before here (inr apart) =
            subst (IsMadeOf o (desk_at old place)) (sym (get_or-set_other now count place d no_desk apart))
            (r.refused place (omega (arith, before, apart)) here)
