-- Where each seat is: its lines are begun in the order of the script, and replied before the next is begun.
use Rattle.std.proofs.Common.{◌≡◌, ◌≢◌, ◌⊎◌, refl, sym, ap, ◌∙◌, subst, ℕ, zero, suc, ◌+◌, ◌-◌, ◌≤◌, ◌<◌, ◌==◌, nat_le, Bool, true, false, IsSome, List, [], ◌∷◌, Option, Some, None, inl, inr, length, drop, replicate, slice_set, slice_index_or, slice_get, length-set, length-append, get_or, get_or-set_same, get_or-set_other, arith}
use Rattle.std.specs.List.{position}
use Rattle.std.specs.Option.{option_map}
use Rattle.std.proofs.lemmas.Bool.{eqb-false, eqb-true, leb-false, leb-true}
use Rattle.std.proofs.lemmas.List.{get_or-drop, get_or-replicate, get_or_append_left, get_or_push, get_or_past, length-drop, length-replicate}
use Rattle.std.proofs.lemmas.List.Quantifiers.{position-Some}
use Rattle.std.proofs.lemmas.Option.{get_or_from_slice_get, slice_get-get_or, slice_get_cases, slice_get_within}
use Rattle.msgq_cli.specs.declared.command.Command.TheVariants as command
use Rattle.msgq_cli.specs.declared.line.Line.{Line}
use Rattle.msgq_cli.specs.declared.reply.Reply.{Reply}
use Rattle.replays.specs.declared.progress.Place.{Place}
use Rattle.replays.specs.Places.{IsInOrder, IsLineOf, IsSound, ProgressState, begun, is_of, line_from, nowhere, place_of, places_at, replied, reply_at, start, with_place}

-- ---- places

less : (n : ℕ) → suc n - 1 ≡ n
less n = omega arith

pub at_place : (places : List Place) (seat : ℕ) → 1 ≤ seat →
    slice_index_or places (seat - 1) nowhere ≡ place_of places seat
at_place places zero some = absurd (omega (arith, some))
at_place places (suc n) some = ap (λ (m : ℕ). slice_index_or places m nowhere) (less n)

pub with_at : (places : List Place) (seat : ℕ) (p : Place) → 1 ≤ seat →
    slice_set places (seat - 1) p ≡ with_place places seat p
with_at places zero p some = absurd (omega (arith, some))
with_at places (suc n) p some = ap (λ (m : ℕ). slice_set places m p) (less n)

pub same_place : (places : List Place) (seat : ℕ) (p : Place) → 1 ≤ seat → seat ≤ length places →
    place_of (with_place places seat p) seat ≡ p
same_place places zero p some within = absurd (omega (arith, some))
same_place places (suc n) p some within = get_or-set_same places n p nowhere (omega (arith, within))

pub other_place : (places : List Place) (seat other : ℕ) (p : Place) → other ≢ seat →
    place_of (with_place places seat p) other ≡ place_of places other
other_place places zero other p not = refl
other_place places (suc n) zero p not = refl
other_place places (suc n) (suc m) p not = get_or-set_other places n m p nowhere (λ is. not (ap suc is))

pub length-with_place : (places : List Place) (seat : ℕ) (p : Place) →
    length (with_place places seat p) ≡ length places
length-with_place places zero p = refl
length-with_place places (suc n) p = length-set places n p

-- a number that is no seat's is nowhere
pub is_seat : (places : List Place) (seat : ℕ) → place_of places seat ≢ nowhere →
    (1 ≤ seat) × (seat ≤ length places)
is_seat places zero some = absurd (some refl)
is_seat places (suc n) some = by (slice_get_cases places n).1
  where
    by : ((x : Place) × (n < length places) × (slice_get places n ≡ Some x) × (get_or places n x ≡ x))
        ⊎ ((length places ≤ n) × (slice_get places n ≡ None)) → (1 ≤ suc n) × (suc n ≤ length places)
    by (inl (x, within, at, is)) = (omega arith, omega (arith, within))
    by (inr (past, none)) = absurd (some (get_or_past places n nowhere past))

pub next_is_seat : (places : List Place) (seat line : ℕ) → (place_of places seat).next ≡ Some line →
    (1 ≤ seat) × (seat ≤ length places)
next_is_seat places seat line next =
    is_seat places seat (λ is. absurd (none (sym next ∙ ap (λ (p : Place). p.next) is)))
  where
    none : Some line ≡ None → ⊥
    none e = absurd cc

pub under_is_seat : (places : List Place) (seat line : ℕ) → (place_of places seat).under_way ≡ Some line →
    (1 ≤ seat) × (seat ≤ length places)
under_is_seat places seat line under =
    is_seat places seat (λ is. absurd (none (sym under ∙ ap (λ (p : Place). p.under_way) is)))
  where
    none : Some line ≡ None → ⊥
    none e = absurd cc

-- ---- the first line of a seat

-- a line at a place, of which nothing is known
pub some_line : Line
some_line = record { number = 0; seat = 0; command = command.Stop }

pub record IsFirst (seat from : ℕ) (lines : List Line) (line : ℕ) : Type 0 where
  pub behind : from ≤ line
  pub within : line < length lines
  pub its : (get_or lines line some_line).seat ≡ seat
  pub others : (before : ℕ) → from ≤ before → before < line → (get_or lines before some_line).seat ≢ seat

pub first_from : (seat from : ℕ) (lines : List Line) (line : ℕ) → line_from seat from lines ≡ Some line →
    IsFirst seat from lines line
first_from seat from lines line at = by (position (is_of seat) (drop from lines)) refl at
  where
    by : (o : Option ℕ) → position (is_of seat) (drop from lines) ≡ o →
        option_map (λ further. from + further) o ≡ Some line → IsFirst seat from lines line
    by None is e = absurd cc
    by (Some further) is e =
        let sum : from + further ≡ line = cc in
        let first = position-Some (is_of seat) (drop from lines) further some_line is in
        let long = length-drop from lines in
        let short = first.0 in
        let its : (get_or (drop from lines) further some_line).seat ≡ seat =
        eqb-true (get_or (drop from lines) further some_line).seat seat first.1 in
        record {
          behind = omega (arith, sum);
          within = omega (arith, sum, long, short);
          its = ap (λ (n : ℕ). (get_or lines n some_line).seat) (sym sum)
              ∙ ap (λ (l : Line). l.seat) (sym (get_or-drop from lines further some_line)) ∙ its;
          others = λ before past short.
              earlier further before past (omega (arith, sum, short, past)) first.2;
        }
      where
        earlier : (further before : ℕ) → from ≤ before → before - from < further →
            ((k : ℕ) → k < further → is_of seat (get_or (drop from lines) k some_line) ≡ false) →
            (get_or lines before some_line).seat ≢ seat
        earlier further before past short fails is =
            let sum : from + (before - from) ≡ before = omega (arith, past) in
            let moved = get_or-drop from lines (before - from) some_line in
            eqb-false (get_or (drop from lines) (before - from) some_line).seat seat (fails (before - from) short)
            (ap (λ (l : Line). l.seat) moved ∙ ap (λ (n : ℕ). (get_or lines n some_line).seat) sum ∙ is)

-- ---- what is always so

-- a line of a seat
pub its_line : (lines : List Line) (seat place : ℕ) → IsLineOf lines seat place →
    (place < length lines) × ((get_or lines place some_line).seat ≡ seat)
its_line lines seat place (line, at, its) = (
  slice_get_within lines place line at,
  ap (λ (l : Line). l.seat) (get_or_from_slice_get lines place line some_line at) ∙ its,
)

pub is_line : (lines : List Line) (seat place : ℕ) → place < length lines →
    (get_or lines place some_line).seat ≡ seat → IsLineOf lines seat place
is_line lines seat place within its = (get_or lines place some_line, slice_get-get_or lines place some_line within, its)

not_none : (line : ℕ) → None ≡ Some line → ⊥
not_none line e = absurd cc

pub IsSound-begun : (s : ProgressState) (seat line : ℕ) → IsSound s → (place_of s.places seat).under_way ≡ None →
    (place_of s.places seat).next ≡ Some line → IsSound (begun seat line s)
IsSound-begun s seat line sound idle next = record {
  as_many = sound.as_many;
  in_order = λ other some within. by other some
      (subst (λ (n : ℕ). other ≤ n) (length-with_place s.places seat there) within) (other == seat) refl;
}
  where
    there : Place
    there = record { next = line_from seat (line + 1) s.lines; under_way = Some line }

    is : (1 ≤ seat) × (seat ≤ length s.places)
    is = next_is_seat s.places seat line next

    old : IsInOrder s.lines s.replies seat (place_of s.places seat)
    old = sound.in_order seat is.0 is.1

    first : IsFirst seat old.from s.lines line
    first = first_from seat old.from s.lines line (sym old.next ∙ next)

    -- of the lines before it the seat's own were begun
    begun_before : (j : ℕ) → IsLineOf s.lines seat j → j < line → j < old.from
    begun_before j of before = by_from (nat_le old.from j) refl
      where
        by_from : (b : Bool) → nat_le old.from j ≡ b → j < old.from
        by_from true e = absurd (first.others j (leb-true old.from j e) before (its_line s.lines seat j of).1)
        by_from false e = leb-false old.from j e

    its : IsInOrder s.lines s.replies seat there
    its = record {
      from = line + 1;
      next = refl;
      ahead = λ j of past. old.ahead j of (let low = first.behind in omega (arith, low, past));
      behind = λ j of before other. old.behind j of
          (begun_before j of (let apart : j ≢ line = λ e. other (ap (λ (n : ℕ). Some n) (sym e)) in
          omega (arith, before, apart))) (λ e. not_none j (sym idle ∙ e));
      under_way = λ j e.
          let same : line ≡ j = cc in
          let of = is_line s.lines seat line first.within first.its in
          subst (λ (n : ℕ). IsLineOf s.lines seat n × (n < line + 1) × (reply_at s.replies n ≡ None)) same
          (of, omega arith, old.ahead line of first.behind);
      last = λ j other e of before. let same : line ≡ j = cc in omega (arith, same, before);
    }

    by : (other : ℕ) → 1 ≤ other → other ≤ length s.places → (b : Bool) → (other == seat) ≡ b →
        IsInOrder s.lines s.replies other (place_of (with_place s.places seat there) other)
    by other some within true e =
        let it = eqb-true other seat e in
        subst (λ (n : ℕ). IsInOrder s.lines s.replies n (place_of (with_place s.places seat there) n)) (sym it)
        (subst (IsInOrder s.lines s.replies seat) (sym (same_place s.places seat there is.0 is.1)) its)
    by other some within false e =
        subst (IsInOrder s.lines s.replies other) (sym (other_place s.places seat other there (eqb-false other seat e)))
        (sound.in_order other some within)

pub IsSound-replied : (s : ProgressState) (seat line : ℕ) (reply : Reply) → IsSound s →
    (place_of s.places seat).under_way ≡ Some line → IsSound (replied seat line reply s)
IsSound-replied s seat line reply sound under = record {
  as_many = length-set s.replies line (Some reply) ∙ sound.as_many;
  in_order = λ other some within. by other some
      (subst (λ (n : ℕ). other ≤ n) (length-with_place s.places seat there) within) (other == seat) refl;
}
  where
    was : Place
    was = place_of s.places seat

    there : Place
    there = record was { under_way = None }

    after : List (Option Reply)
    after = slice_set s.replies line (Some reply)

    is : (1 ≤ seat) × (seat ≤ length s.places)
    is = under_is_seat s.places seat line under

    old : IsInOrder s.lines s.replies seat was
    old = sound.in_order seat is.0 is.1

    mine : IsLineOf s.lines seat line × (line < old.from) × (reply_at s.replies line ≡ None)
    mine = old.under_way line under

    kept : (j : ℕ) → j ≢ line → reply_at after j ≡ reply_at s.replies j
    kept j apart = get_or-set_other s.replies line j (Some reply) None apart

    now : reply_at after line ≡ Some reply
    now = get_or-set_same s.replies line (Some reply) None
        (subst (λ (n : ℕ). line < n) (sym sound.as_many) (its_line s.lines seat line mine.0).0)

    its : IsInOrder s.lines after seat there
    its = record {
      from = old.from;
      next = old.next;
      ahead = λ j of past. kept j (λ e. let low = mine.1 in omega (arith, e, low, past)) ∙ old.ahead j of past;
      behind = λ j of before idle. by_line j of before (j == line) refl;
      under_way = λ j e. absurd (not_none j e);
      last = λ j other e of before. absurd (not_none j e);
    }
      where
        by_line : (j : ℕ) → IsLineOf s.lines seat j → j < old.from → (b : Bool) → (j == line) ≡ b →
            IsSome (reply_at after j)
        by_line j of before true e =
            subst (λ (n : ℕ). IsSome (reply_at after n)) (sym (eqb-true j line e)) (subst IsSome (sym now) refl)
        by_line j of before false e =
            let apart = eqb-false j line e in
            subst IsSome (sym (kept j apart)) (old.behind j of before
            (λ same. let here : line ≡ j = cc in apart (sym here)))

    -- a line of another seat is another line
    theirs : (other : ℕ) → other ≢ seat → IsInOrder s.lines s.replies other (place_of s.places other) →
        IsInOrder s.lines after other (place_of s.places other)
    theirs other not order = record {
      from = order.from;
      next = order.next;
      ahead = λ j of past. kept j (apart j of) ∙ order.ahead j of past;
      behind = λ j of before idle. subst IsSome (sym (kept j (apart j of))) (order.behind j of before idle);
      under_way = λ j e. let (of, before, none) = order.under_way j e in (of, before, kept j (apart j of) ∙ none);
      last = order.last;
    }
      where
        apart : (j : ℕ) → IsLineOf s.lines other j → j ≢ line
        apart j of e = not (sym (its_line s.lines other j of).1
            ∙ ap (λ (n : ℕ). (get_or s.lines n some_line).seat) e ∙ (its_line s.lines seat line mine.0).1)

    by : (other : ℕ) → 1 ≤ other → other ≤ length s.places → (b : Bool) → (other == seat) ≡ b →
        IsInOrder s.lines after other (place_of (with_place s.places seat there) other)
    by other some within true e =
        let it = eqb-true other seat e in
        subst (λ (n : ℕ). IsInOrder s.lines after n (place_of (with_place s.places seat there) n)) (sym it)
        (subst (IsInOrder s.lines after seat) (sym (same_place s.places seat there is.0 is.1)) its)
    by other some within false e =
        let not = eqb-false other seat e in
        subst (IsInOrder s.lines after other) (sym (other_place s.places seat other there not))
        (theirs other not (sound.in_order other some within))

-- ---- the beginning

pub length-places_at : (lines : List Line) (n : ℕ) → length (places_at lines n) ≡ n
length-places_at lines zero = refl
length-places_at lines (suc n) =
    let same = length-places_at lines n in
    let long = length-append (places_at lines n)
    (record { next = line_from (suc n) 0 lines; under_way = None } ∷ []) in
    omega (arith, same, long)

-- a seat of which no line was begun
pub fresh : List Line → ℕ → Place
fresh lines seat = record { next = line_from seat 0 lines; under_way = None }

pub starts_fresh : (lines : List Line) (n seat : ℕ) → 1 ≤ seat → seat ≤ n →
    place_of (places_at lines n) seat ≡ fresh lines seat
unfolding fresh
starts_fresh lines zero seat some within = absurd (omega (arith, some, within))
starts_fresh lines (suc n) zero some within = absurd (omega (arith, some))
starts_fresh lines (suc n) (suc m) some within = by (starts_fresh lines n (suc m) some) (m == n) refl
  where
    long : length (places_at lines n) ≡ n
    long = length-places_at lines n

    by : (suc m ≤ n → place_of (places_at lines n) (suc m) ≡ fresh lines (suc m)) → (b : Bool) → (m == n) ≡ b →
        place_of (places_at lines (suc n)) (suc m) ≡ fresh lines (suc m)
    by earlier true e =
        let it = eqb-true m n e in
        get_or_push (places_at lines n) (fresh lines (suc n)) nowhere m (long ∙ sym it)
        ∙ ap (λ (k : ℕ). fresh lines (suc k)) (sym it)
    by earlier false e =
        let apart = eqb-false m n e in
        let short : m < length (places_at lines n) = omega (arith, within, apart, long) in
        get_or_append_left (places_at lines n) (fresh lines (suc n) ∷ []) nowhere m short
        ∙ earlier (omega (arith, within, apart))

pub IsSound-start : (lines : List Line) (seats : ℕ) → IsSound (start lines seats)
unfolding fresh
IsSound-start lines seats = record {
  as_many = length-replicate (length lines) None;
  in_order = λ seat some within.
      let few = length-places_at lines seats in
      subst (IsInOrder lines (replicate (length lines) None) seat)
      (sym (starts_fresh lines seats seat some (omega (arith, within, few)))) (its seat);
}
  where
    its : (seat : ℕ) → IsInOrder lines (replicate (length lines) None) seat (fresh lines seat)
    its seat = record {
      from = 0;
      next = refl;
      ahead = λ j of past.
          get_or-replicate (length lines) j None None (its_line lines seat j of).0;
      behind = λ j of before idle. absurd (omega (arith, before));
      under_way = λ j e. absurd (not_none j e);
      last = λ j other e of before. absurd (not_none j e);
    }

-- ---- lines that are there

pub next_within : (s : ProgressState) (seat line : ℕ) → IsSound s → (place_of s.places seat).next ≡ Some line →
    line < length s.lines
next_within s seat line sound next =
    let is = next_is_seat s.places seat line next in
    let order = sound.in_order seat is.0 is.1 in
    (first_from seat order.from s.lines line (sym order.next ∙ next)).within

pub under_within : (s : ProgressState) (seat line : ℕ) → IsSound s →
    (place_of s.places seat).under_way ≡ Some line → line < length s.replies
under_within s seat line sound under =
    let is = under_is_seat s.places seat line under in
    let mine = (sound.in_order seat is.0 is.1).under_way line under in
    subst (λ (n : ℕ). line < n) (sym sound.as_many) (its_line s.lines seat line mine.0).0
