-- The entries of lines that were answered: how a reply adds to those of its seat, and to no others.
use Rattle.std.proofs.Common.{◌≡◌, ◌≢◌, refl, sym, ap, ◌∙◌, subst, ℕ, zero, suc, ◌<◌, ◌==◌, nat_le, Bool, true, false, if◌then◌else◌, List, [], ◌∷◌, ◌++◌, Option, Some, None, length, slice_get, slice_set, append-nil, append_assoc, arith}
use Rattle.std.proofs.lemmas.Bool.{eqb-false, eqb-true, leb-false, leb-true}
use Rattle.std.proofs.lemmas.List.Elements.{filter-append}
use Rattle.queue_model.specs.Journal.{is_of, part_of}
use Rattle.queue_model.specs.declared.entry.Entry.{Entry}
use Rattle.interleavings.proofs.of_interleaving_core.PartLemmas.{AreOf, entry_is_of, entry_of_none, part_other, part_own}
use Rattle.msgq_cli.specs.declared.line.Line.{Line}
use Rattle.msgq_cli.specs.declared.reply.Reply.{Reply}
use Rattle.replays.specs.Events.{told}
use Rattle.replays.specs.Journal.{answer_in, call_in, entries_at, entry_at}
use Rattle.replays.specs.Places.{IsInOrder, IsLineOf, IsSound, ProgressState, place_of, reply_at}
use Rattle.replays.proofs.PlaceLemmas.{under_is_seat}

-- ---- the entry of one line

-- its own seat has all of it
pub entry_own : (seat : ℕ) (line : Line) (reply : Option Reply) → line.seat ≡ seat →
    part_of seat (entry_at line reply) ≡ entry_at line reply
entry_own seat line reply its =
    part_own seat (entry_at line reply)
    (subst (λ (n : ℕ). AreOf n (entry_at line reply)) its
    (entry_is_of line.seat (call_in line.command) (answer_in reply)))

-- and no other seat has any
pub entry_other : (seat : ℕ) (line : Line) (reply : Option Reply) → line.seat ≢ seat →
    part_of seat (entry_at line reply) ≡ []
entry_other seat line reply not =
    part_other seat line.seat (entry_at line reply) not
    (entry_is_of line.seat (call_in line.command) (answer_in reply))

entry_none : (line : Line) → entry_at line None ≡ []
entry_none line = entry_of_none line.seat (call_in line.command)

-- ---- the entries of many

-- a seat of which no line was replied has none
pub none_replied : (seat : ℕ) (lines : List Line) (replies : List (Option Reply)) →
    ((place : ℕ) → IsLineOf lines seat place → reply_at replies place ≡ None) →
    part_of seat (entries_at lines replies) ≡ []
none_replied seat [] replies none = refl
none_replied seat (l ∷ ls) [] none = refl
none_replied seat (l ∷ ls) (x ∷ xs) none =
    filter-append (is_of seat) (entry_at l x) (entries_at ls xs)
    ∙ ap (λ (es : List Entry). es ++ part_of seat (entries_at ls xs)) (first (l.seat == seat) refl)
    ∙ none_replied seat ls xs (λ place its. none (suc place) its)
  where
    first : (b : Bool) → (l.seat == seat) ≡ b → part_of seat (entry_at l x) ≡ []
    first true e =
        let is : x ≡ None = none zero (l, refl, eqb-true l.seat seat e) in
        ap (λ (r : Option Reply). part_of seat (entry_at l r)) is ∙ ap (part_of seat) (entry_none l)
    first false e = entry_other seat l x (eqb-false l.seat seat e)

-- the line at a place is replied, behind which no line of its seat was
replied_own : (seat place : ℕ) (line : Line) (r : Option Reply) (lines : List Line) (replies : List (Option Reply)) →
    slice_get lines place ≡ Some line → line.seat ≡ seat → length replies ≡ length lines →
    reply_at replies place ≡ None →
    ((j : ℕ) → IsLineOf lines seat j → place < j → reply_at replies j ≡ None) →
    part_of seat (entries_at lines (slice_set replies place r))
    ≡ part_of seat (entries_at lines replies) ++ entry_at line r
replied_own seat place line r [] replies at its same none behind = absurd cc
replied_own seat place line r (l ∷ ls) [] at its same none behind = absurd (omega (arith, same))
replied_own seat zero line r (l ∷ ls) (x ∷ xs) at its same none behind =
    filter-append (is_of seat) (entry_at l r) (entries_at ls xs)
    ∙ ap (λ (es : List Entry). part_of seat (entry_at l r) ++ es) rest
    ∙ append-nil (part_of seat (entry_at l r))
    ∙ ap (λ (at : Line). part_of seat (entry_at at r)) is
    ∙ entry_own seat line r its
    ∙ sym (ap (λ (es : List Entry). es ++ entry_at line r) before)
  where
    is : l ≡ line
    is = cc

    rest : part_of seat (entries_at ls xs) ≡ []
    rest = none_replied seat ls xs (λ j of. behind (suc j) of (omega arith))

    none_at : (j : ℕ) → IsLineOf (l ∷ ls) seat j → reply_at (x ∷ xs) j ≡ None
    none_at zero of = none
    none_at (suc j) of = behind (suc j) of (omega arith)

    before : part_of seat (entries_at (l ∷ ls) (x ∷ xs)) ≡ []
    before = none_replied seat (l ∷ ls) (x ∷ xs) none_at
replied_own seat (suc n) line r (l ∷ ls) (x ∷ xs) at its same none behind =
    filter-append (is_of seat) (entry_at l x) (entries_at ls (slice_set xs n r))
    ∙ ap (λ (es : List Entry). part_of seat (entry_at l x) ++ es)
    (replied_own seat n line r ls xs at its (omega (arith, same)) none
    (λ j of past. behind (suc j) of (omega (arith, past))))
    ∙ sym (append_assoc (part_of seat (entry_at l x)) (part_of seat (entries_at ls xs)) (entry_at line r))
    ∙ ap (λ (es : List Entry). es ++ entry_at line r)
    (sym (filter-append (is_of seat) (entry_at l x) (entries_at ls xs)))

-- the line of another seat is
replied_other : (seat place : ℕ) (line : Line) (r : Option Reply) (lines : List Line)
    (replies : List (Option Reply)) → slice_get lines place ≡ Some line → line.seat ≢ seat →
    part_of seat (entries_at lines (slice_set replies place r)) ≡ part_of seat (entries_at lines replies)
replied_other seat place line r [] replies at not = refl
replied_other seat place line r (l ∷ ls) [] at not = refl
replied_other seat zero line r (l ∷ ls) (x ∷ xs) at not =
    with_head r ∙ sym (with_head x)
  where
    is : l ≡ line
    is = cc

    with_head : (y : Option Reply) → part_of seat (entries_at (l ∷ ls) (y ∷ xs)) ≡ part_of seat (entries_at ls xs)
    with_head y =
        filter-append (is_of seat) (entry_at l y) (entries_at ls xs)
        ∙ ap (λ (es : List Entry). es ++ part_of seat (entries_at ls xs))
        (entry_other seat l y (λ same. not (ap (λ (at : Line). at.seat) (sym is) ∙ same)))
replied_other seat (suc n) line r (l ∷ ls) (x ∷ xs) at not =
    filter-append (is_of seat) (entry_at l x) (entries_at ls (slice_set xs n r))
    ∙ ap (λ (es : List Entry). part_of seat (entry_at l x) ++ es) (replied_other seat n line r ls xs at not)
    ∙ sym (filter-append (is_of seat) (entry_at l x) (entries_at ls xs))

-- ---- a line that is under way is replied, or goes on

module _ (s : ProgressState) (sound : IsSound s) (seat place : ℕ)
    (under : (place_of s.places seat).under_way ≡ Some place) where
  order : IsInOrder s.lines s.replies seat (place_of s.places seat)
  order =
      let is = under_is_seat s.places seat place under in
      sound.in_order seat is.0 is.1

  -- it is a line of the seat
  pub its_line_stands : IsLineOf s.lines seat place
  its_line_stands = (order.under_way place under).0

  none_behind : (j : ℕ) → IsLineOf s.lines seat j → place < j → reply_at s.replies j ≡ None
  none_behind j of past = by (nat_le order.from j) refl
    where
      by : (b : Bool) → nat_le order.from j ≡ b → reply_at s.replies j ≡ None
      by true e = order.ahead j of (leb-true order.from j e)
      by false e =
          let low = order.last place j under of (leb-false order.from j e) in
          absurd (omega (arith, low, past))

  module _ (line : Line) (stands : slice_get s.lines place ≡ Some line) where
    pub its_seat : line.seat ≡ seat
    its_seat =
        let both : Some its_line_stands.0 ≡ Some line = sym its_line_stands.1 ∙ stands in
        let same : its_line_stands.0 ≡ line = cc in
        ap (λ (l : Line). l.seat) (sym same) ∙ its_line_stands.2

    none_added : (b : Bool) → (if b then entry_at line None else []) ≡ []
    none_added true = entry_none line
    none_added false = refl

    -- that adds its entry to those of its seat
    pub told_adds : (reply : Option Reply) (other : ℕ) (b : Bool) → (seat == other) ≡ b →
        part_of other (entries_at (told seat place reply s).lines (told seat place reply s).replies)
        ≡ part_of other (entries_at s.lines s.replies) ++ (if b then entry_at line reply else [])
    told_adds None other b e =
        sym (ap (λ (es : List Entry). part_of other (entries_at s.lines s.replies) ++ es) (none_added b)
        ∙ append-nil (part_of other (entries_at s.lines s.replies)))
    told_adds (Some reply) other true e =
        subst (λ (n : ℕ). part_of n (entries_at s.lines (slice_set s.replies place (Some reply)))
        ≡ part_of n (entries_at s.lines s.replies) ++ entry_at line (Some reply)) (eqb-true seat other e)
        (replied_own seat place line (Some reply) s.lines s.replies stands its_seat sound.as_many
        (order.under_way place under).2 none_behind)
    told_adds (Some reply) other false e =
        replied_other other place line (Some reply) s.lines s.replies stands
        (λ same. eqb-false seat other e (sym its_seat ∙ same))
        ∙ sym (append-nil (part_of other (entries_at s.lines s.replies)))
