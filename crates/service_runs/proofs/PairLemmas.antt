-- Each seat has its lines at a desk.
use Rattle.std.proofs.Common.{◌≡◌, ◌≢◌, ◌<◌, ◌≤◌, ℕ, zero, suc, ◌+◌, true, false, inl, inr, ◌⊎◌, List, [], ◌∷◌, ◌++◌, length, map, refl, sym, ap, ◌∙◌, subst, append-nil, append_assoc, length-append, arith}
use Rattle.std.specs.Prelude.{slice_index_or}
use Rattle.std.specs.List.{All, list_any}
use Rattle.std.proofs.lemmas.Bool.{cases_eq}
use Rattle.std.proofs.lemmas.List.{map-append}
use Rattle.msgq_cli.specs.declared.line.Line.{Line}
use Rattle.workers.specs.Views.{no_place, nobody}
use Rattle.workers.specs.Closing.{HasMissing, sits_at}
use Rattle.workers.specs.Opening.{newcomers}
use Rattle.workers.specs.Origins.{Origin}
use Rattle.workers.specs.Told.{Sitter}
use Rattle.service_runs.specs.Desks.{AreFresh, AreMade, ArePaired, AreUntouched, DeskView, KnowsWhy, MayLackRoom, desk_at, lines_at, no_lines}
use Rattle.service_runs.specs.Lines.{AreFitting, LinesView, entries_to, lines_of}
use Rattle.service_runs.specs.Printing.{AreOfSeats}

-- ---- seats that were told nothing

abbrev newcomer : ℕ → Sitter
newcomer seat = record { seat = seat; list = []; place = no_place; failed = false; seen = 0 }

pub length-newcomers : (n : ℕ) → length (newcomers n) ≡ n
length-newcomers zero = refl
length-newcomers (suc n) =
    let same = length-newcomers n in
    let long = length-append (newcomers n) (newcomer (suc n) ∷ []) in
    omega (arith, same, long)

pub at_end : {X : Type 0} (xs : List X) (x d : X) → slice_index_or (xs ++ x ∷ []) (length xs) d ≡ x
at_end [] x d = refl
at_end (y ∷ ys) x d = at_end ys x d

first_behind : {X : Type 0} (xs : List X) (x : X) (rest : List X) (d : X) →
    slice_index_or (xs ++ x ∷ rest) (length xs) d ≡ x
first_behind [] x rest d = refl
first_behind (y ∷ ys) x rest d = first_behind ys x rest d

pub before_end : {X : Type 0} (xs : List X) (x d : X) (place : ℕ) → place < length xs →
    slice_index_or (xs ++ x ∷ []) place d ≡ slice_index_or xs place d
before_end [] x d place below = absurd (omega arith)
before_end (y ∷ ys) x d zero below = refl
before_end (y ∷ ys) x d (suc place) below = before_end ys x d place (omega arith)

newcomer_at : (n place : ℕ) → place < n → slice_index_or (newcomers n) place nobody ≡ newcomer (suc place)
newcomer_at zero place below = absurd (omega arith)
newcomer_at (suc n) place below = by (cases_eq place n) (λ few. newcomer_at n place few)
  where
    by : (place ≡ n) ⊎ (place ≢ n) →
        (place < n → slice_index_or (newcomers n) place nobody ≡ newcomer (suc place)) →
        slice_index_or (newcomers n ++ newcomer (suc n) ∷ []) place nobody ≡ newcomer (suc place)
    by (inl same) before =
        let long = length-newcomers n in
        ap (λ (k : ℕ). slice_index_or (newcomers n ++ newcomer (suc n) ∷ []) k nobody) (same ∙ sym long)
        ∙ at_end (newcomers n) (newcomer (suc n)) nobody ∙ ap (λ (k : ℕ). newcomer (suc k)) (sym same)
    by (inr apart) before =
        let long = length-newcomers n in
        before_end (newcomers n) (newcomer (suc n)) nobody place (omega (arith, long, apart, below))
        ∙ before (omega (arith, apart, below))

-- ---- desks

-- a seat of a service that began so has made its lines, and was told their entries
pub record HasDone (o : Origin) (script : List Line) (place : ℕ) (d : DeskView) : Type 0 where
  pub seat : d.sitter.seat ≡ place + 1
  pub fits : AreFitting (MayLackRoom o) (lines_of (place + 1) script) d.lines.replies
  pub knows : KnowsWhy (length o.callers) d.lines.replies d.sitter
  pub told : d.sitter.list ≡ entries_to (lines_of (place + 1) script) d.lines.replies

-- a seat and its lines have one number
pub same_seats : (script : List Line) (many : ℕ) (lines : List LinesView) → AreFresh script many lines → (place : ℕ) →
    place < length (newcomers many) → (slice_index_or (newcomers many) place nobody).seat ≡ (lines_at lines place).seat
same_seats script many lines fresh place below =
    let long = length-newcomers many in
    let here : place < many = omega (arith, long, below) in
    ap (λ (x : Sitter). x.seat) (newcomer_at many place here)
    ∙ (let up : suc place ≡ place + 1 = omega arith in up) ∙ sym (fresh.each place here).seat_is

module _ (script : List Line) (many : ℕ) (lines : List LinesView) (desks : List DeskView)
    (fresh : AreFresh script many lines) (paired : ArePaired (newcomers many) lines desks) where
  within : (place : ℕ) → place < length desks → place < many
  within place below = let same = paired.as_many in let long = length-newcomers many in omega (arith, same, long, below)

  pub untouched : AreUntouched desks
  untouched place below = record {
    list = ap (λ (x : Sitter). x.list) (paired.sitter place below ∙ newcomer_at many place (within place below));
    unmade = ap (λ (s : LinesView). s.replies) (paired.lines_are place below)
        ∙ (fresh.each place (within place below)).unmade;
  }

  module _ (o : Origin) (made : List DeskView) (are : AreMade o desks made) where
    pub many_made : length made ≡ many
    many_made = are.as_many ∙ paired.as_many ∙ length-newcomers many

    here : (place : ℕ) → place < many → place < length desks
    here place below =
        let same = paired.as_many in let long = length-newcomers many in omega (arith, same, long, below)

    pub seat_at : (place : ℕ) → place < many → (desk_at made place).lines.seat ≡ place + 1
    seat_at place below =
        (are.each place (here place below)).seat
        ∙ ap (λ (s : LinesView). s.seat) (paired.lines_are place (here place below)) ∙ (fresh.each place below).seat_is

    pub lines_there : (place : ℕ) → place < many → (desk_at made place).lines.lines ≡ script
    lines_there place below =
        (are.each place (here place below)).lines_are
        ∙ ap (λ (s : LinesView). s.lines)
        (paired.lines_are place (here place below)) ∙ (fresh.each place below).lines_are

    pub sitter_at : (place : ℕ) → place < many → (desk_at made place).sitter.seat ≡ place + 1
    sitter_at place below = (are.each place (here place below)).at_seat ∙ seat_at place below

    pub of_seats : All (λ (line : Line). (1 ≤ line.seat) × (line.seat ≤ many)) script → AreOfSeats script made
    of_seats all = record {
      within = subst (λ (n : ℕ). All (λ (line : Line). (1 ≤ line.seat) × (line.seat ≤ n)) script) (sym many_made) all;
      each = λ place below.
          let few : place < many = let same = many_made in omega (arith, same, below) in record {
            seat = seat_at place few;
            lines_are = lines_there place few;
            all = (are.each place (here place few)).made.all
                ∙ ap (λ (n : ℕ). length (lines_of n (desk_at made place).lines.lines)) (seat_at place few)
                ∙ ap (λ (l : List Line). length (lines_of (place + 1) l)) (lines_there place few);
          };
    }

    pub done_at : (place : ℕ) → place < many → HasDone o script place (desk_at made place)
    done_at place below =
        let d : DeskView = desk_at made place in record {
          seat = sitter_at place below;
          fits = subst (λ (l : List Line). AreFitting (MayLackRoom o) (lines_of (place + 1) l) d.lines.replies)
              (lines_there place below)
              (subst (λ (n : ℕ). AreFitting (MayLackRoom o) (lines_of n d.lines.lines) d.lines.replies)
              (seat_at place below)
              (are.each place (here place below)).made.fits);
          knows = (are.each place (here place below)).knows;
          told = (are.each place (here place below)).made.told
              ∙ ap (λ (n : ℕ). entries_to (lines_of n d.lines.lines) d.lines.replies) (seat_at place below)
              ∙ ap (λ (l : List Line). entries_to (lines_of (place + 1) l) d.lines.replies) (lines_there place below);
        }

    -- no seat is missing
    any_at : (number : ℕ) (ds : List DeskView) (place : ℕ) → place < length ds →
        (desk_at ds place).sitter.seat ≡ number →
        list_any (sits_at number) (map (λ (d : DeskView). d.sitter) ds) ≡ true
    any_at number [] place below is = absurd (omega arith)
    any_at number (d ∷ ds) zero below is = grind (arith, is)
    any_at number (d ∷ ds) (suc place) below is =
        let more = any_at number ds place (omega arith) is in grind (arith, more)

    pub all_back : HasMissing many (map (λ (d : DeskView). d.sitter) made) → ⊥
    all_back missing =
        let few = missing.1 in
        let same = many_made in
        let there = any_at (missing.0 + 1) made missing.0 (omega (arith, few, same)) (sitter_at missing.0 few) in
        let no : true ≡ false = sym there ∙ missing.2 in
        absurd cc

-- ---- the seats at desks

abbrev pub sitters : List DeskView → List Sitter
sitters desks = map (λ (d : DeskView). d.sitter) desks

abbrev pub lines_on : List DeskView → List LinesView
lines_on desks = map (λ (d : DeskView). d.lines) desks

pub sitter_there : (ds : List DeskView) (place : ℕ) →
    slice_index_or (sitters ds) place nobody ≡ (desk_at ds place).sitter
sitter_there [] place = refl
sitter_there (d ∷ ds) zero = refl
sitter_there (d ∷ ds) (suc place) = sitter_there ds place

lines_of_desk : (ds : List DeskView) (place : ℕ) → lines_at (lines_on ds) place ≡ (desk_at ds place).lines
lines_of_desk [] place = refl
lines_of_desk (d ∷ ds) zero = refl
lines_of_desk (d ∷ ds) (suc place) = lines_of_desk ds place

pub long_sitters : (ds : List DeskView) → length (sitters ds) ≡ length ds
long_sitters [] = refl
long_sitters (d ∷ ds) = ap suc (long_sitters ds)

long_lines : (ds : List DeskView) → length (lines_on ds) ≡ length ds
long_lines [] = refl
long_lines (d ∷ ds) = ap suc (long_lines ds)

empty : {X : Type 0} (xs : List X) → length xs ≡ 0 → xs ≡ []
empty [] none = refl
empty (x ∷ xs) none = absurd (omega arith)

-- so many desks are left; the seats so far, and theirs, are those of all desks
pub record IsGathering (all left : List DeskView) (count : ℕ) (seats : List Sitter) (room : ℕ) : Type 0 where
  pub gathered : seats ++ sitters left ≡ sitters all
  pub count_is : count ≡ length left
  pub fits : length seats + length left ≤ room

pub gathering_starts : (all left : List DeskView) (count room : ℕ) (seats : List Sitter) → left ≡ all →
    count ≡ length all → seats ≡ [] → length all ≤ room → IsGathering all left count seats room
gathering_starts all left count room seats same many none fits = record {
  gathered = ap (λ (l : List Sitter). l ++ sitters left) none ∙ ap sitters same;
  count_is = many ∙ sym (ap length same);
  fits =
      let no = ap length none in
      let as_many = ap length same in
      omega arith;
}

pub gathering_room : (all left : List DeskView) (count room : ℕ) (seats : List Sitter) (d : DeskView)
    (more : List DeskView) → IsGathering all left count seats room → left ≡ d ∷ more → length seats < room
gathering_room all left count room seats d more g is =
    let fits = g.fits in let long = ap length is in omega arith

pub gathering_goes : (all left : List DeskView) (count count' room room' : ℕ) (seats seats' : List Sitter)
    (d : DeskView) (more : List DeskView) → IsGathering all left count seats room → left ≡ d ∷ more →
    count' + 1 ≡ count → seats' ≡ seats ++ d.sitter ∷ [] → room' ≡ room → IsGathering all more count' seats' room'
gathering_goes all left count count' room room' seats seats' d more g is fewer more_seats same = record {
  gathered = ap (λ (l : List Sitter). l ++ sitters more) more_seats
      ∙ append_assoc seats (d.sitter ∷ []) (sitters more)
      ∙ ap (λ (l : List DeskView). seats ++ sitters l) (sym is) ∙ g.gathered;
  count_is = let long = ap length is in let count_is = g.count_is in omega arith;
  fits =
      let fits = g.fits in
      let long = ap length is in
      let longer = ap length more_seats ∙ length-append seats (d.sitter ∷ []) in
      omega arith;
}

pub gathering_ends : (all left : List DeskView) (count room : ℕ) (seats : List Sitter) →
    IsGathering all left count seats room → count ≡ 0 → seats ≡ sitters all
gathering_ends all left count room seats g none =
    sym (append-nil seats)
    ∙ ap (λ (l : List DeskView). seats ++ sitters l) (sym (empty left (sym g.count_is ∙ none))) ∙ g.gathered

-- ---- seats and lines, put together

-- these seats and lines are left, and so many of each
pub record IsPairing (seats more : List Sitter) (count : ℕ) (lines others : List LinesView) (count' : ℕ)
    (desks : List DeskView) (room : ℕ) : Type 0 where
  pub sitters_are : sitters desks ++ more ≡ seats
  pub lines_are : lines_on desks ++ others ≡ lines
  pub count_is : count ≡ length more
  pub as_many : count' ≡ length others
  pub same : length others ≡ length more
  pub fits : length desks + length more ≤ room

pub pairing_starts : (seats more : List Sitter) (count : ℕ) (lines others : List LinesView) (count' : ℕ)
    (desks : List DeskView) (room : ℕ) → more ≡ seats → others ≡ lines → count ≡ length seats →
    count' ≡ length lines → length lines ≡ length seats → desks ≡ [] → length seats ≤ room →
    IsPairing seats more count lines others count' desks room
pairing_starts seats more count lines others count' desks room as_seats as_lines many many' same none fits =
    let no = ap length none in
    let long = ap length as_seats in
    let long' = ap length as_lines in
    record {
      sitters_are = ap (λ (l : List DeskView). sitters l ++ more) none ∙ as_seats;
      lines_are = ap (λ (l : List DeskView). lines_on l ++ others) none ∙ as_lines;
      count_is = many ∙ sym long;
      as_many = many' ∙ sym long';
      same = long' ∙ same ∙ sym long;
      fits = omega arith;
    }

module _ (seats more : List Sitter) (count : ℕ) (lines others : List LinesView) (count' : ℕ) (desks : List DeskView)
    (room : ℕ) (p : IsPairing seats more count lines others count' desks room) where
  pub pairing_room : (x : Sitter) (rest : List Sitter) → more ≡ x ∷ rest → length desks < room
  pairing_room x rest is = let fits = p.fits in let long = ap length is in omega arith

  -- the next seat and the next lines stand at one place
  pub pairing_at : (x : Sitter) (rest : List Sitter) (s : LinesView) (rest' : List LinesView) → more ≡ x ∷ rest →
      others ≡ s ∷ rest' → ((place : ℕ) → place < length seats →
      (slice_index_or seats place nobody).seat ≡ (lines_at lines place).seat) → x.seat ≡ s.seat
  pairing_at x rest s rest' is is' at =
      let whole : seats ≡ sitters desks ++ x ∷ rest =
      sym p.sitters_are ∙ ap (λ (l : List Sitter). sitters desks ++ l) is in
      let whole' : lines ≡ lines_on desks ++ s ∷ rest' =
      sym p.lines_are ∙ ap (λ (l : List LinesView). lines_on desks ++ l) is' in
      let long = ap length whole ∙ length-append (sitters desks) (x ∷ rest) in
      let many = long_sitters desks in
      sym (ap (λ (y : Sitter). y.seat) (ap (λ (l : List Sitter). slice_index_or l (length desks) nobody) whole
      ∙ ap (λ (n : ℕ). slice_index_or (sitters desks ++ x ∷ rest) n nobody) (sym (long_sitters desks))
      ∙ first_behind (sitters desks) x rest nobody))
      ∙ at (length desks) (omega arith)
      ∙ ap (λ (y : LinesView). y.seat) (ap (λ (l : List LinesView). slice_index_or l (length desks) no_lines) whole'
      ∙ ap (λ (n : ℕ). slice_index_or (lines_on desks ++ s ∷ rest') n no_lines) (sym (long_lines desks))
      ∙ first_behind (lines_on desks) s rest' no_lines)

  pub pairing_goes : (next next' : ℕ) (desks' : List DeskView) (room' : ℕ) (x : Sitter) (rest : List Sitter)
      (s : LinesView) (rest' : List LinesView) → more ≡ x ∷ rest → others ≡ s ∷ rest' → next + 1 ≡ count →
      next' + 1 ≡ count' → desks' ≡ desks ++ record { sitter = x; lines = s } ∷ [] → room' ≡ room →
      IsPairing seats rest next lines rest' next' desks' room'
  pairing_goes next next' desks' room' x rest s rest' is is' fewer fewer' one roomy =
      let d : DeskView = record { sitter = x; lines = s } in
      let long = ap length is in
      let long' = ap length is' in
      let count_is = p.count_is in
      let as_many = p.as_many in
      let same = p.same in
      let fits = p.fits in
      let longer = ap length one ∙ length-append desks (d ∷ []) in
      record {
        sitters_are = ap (λ (l : List DeskView). sitters l ++ rest) one
            ∙ ap (λ (l : List Sitter). l ++ rest) (map-append (λ (e : DeskView). e.sitter) desks (d ∷ []))
            ∙ append_assoc (sitters desks) (x ∷ []) rest
            ∙ ap (λ (l : List Sitter). sitters desks ++ l) (sym is) ∙ p.sitters_are;
        lines_are = ap (λ (l : List DeskView). lines_on l ++ rest') one
            ∙ ap (λ (l : List LinesView). l ++ rest') (map-append (λ (e : DeskView). e.lines) desks (d ∷ []))
            ∙ append_assoc (lines_on desks) (s ∷ []) rest'
            ∙ ap (λ (l : List LinesView). lines_on desks ++ l) (sym is') ∙ p.lines_are;
        count_is = omega arith;
        as_many = omega arith;
        same = omega arith;
        fits = omega arith;
      }

  pub pairing_ends : length more ≡ 0 → ArePaired seats lines desks
  pairing_ends none =
      let all : sitters desks ≡ seats = sym (append-nil (sitters desks))
      ∙ ap (λ (l : List Sitter). sitters desks ++ l) (sym (empty more none)) ∙ p.sitters_are in
      let all' : lines_on desks ≡ lines = sym (append-nil (lines_on desks))
      ∙ ap (λ (l : List LinesView). lines_on desks ++ l) (sym (empty others (p.same ∙ none))) ∙ p.lines_are in
      record {
        as_many = sym (long_sitters desks) ∙ ap length all;
        sitter = λ place below. sym (sitter_there desks place)
            ∙ ap (λ (l : List Sitter). slice_index_or l place nobody) all;
        lines_are = λ place below. sym (lines_of_desk desks place)
            ∙ ap (λ (l : List LinesView). lines_at l place) all';
      }
