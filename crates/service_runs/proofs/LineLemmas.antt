-- The lines of a seat, made one after the other.
use Rattle.std.proofs.Common.{◌≡◌, ◌≢◌, ◌<◌, ◌≤◌, ℕ, zero, suc, ◌+◌, ◌==◌, Bool, true, false, List, [], ◌∷◌, ◌++◌, Some, if◌then◌else◌, length, take, get_or, refl, sym, ap, ◌∙◌, subst, append-nil, append_assoc, length-append, arith}
use Rattle.std.specs.Prelude.{max}
use Rattle.std.specs.List.{All, fold}
use Rattle.std.proofs.lemmas.Bool.{eqb-false, eqb-true}
use Rattle.std.proofs.lemmas.Int.{clamps}
use Rattle.std.proofs.lemmas.List.Elements.{All-cons, All-head, All-nil, All-tail, filter-append}
use Rattle.msgq_cli.specs.Scripts.{greatest_seat}
use Rattle.msgq_cli.specs.declared.line.Line.{Line}
use Rattle.msgq_cli.specs.declared.reply.Reply.{Reply}
use Rattle.queue_model.specs.Journal.{is_of, part_of}
use Rattle.queue_model.specs.declared.entry.Entry.{Entry}
use Rattle.replays.proofs.EntryLemmas.{entry_other, entry_own}
use Rattle.replays.specs.Journal.{entries_at, entry_at}
use Rattle.schedules.specs.Numbers.{IsSeat}
use Rattle.service_runs.specs.Lines.{entries_to, is_line_of, lines_of, replies_to}

-- ---- one line more

pub own_more : (seat : ℕ) (lines : List Line) (line : Line) → is_line_of seat line ≡ true →
    lines_of seat (lines ++ line ∷ []) ≡ lines_of seat lines ++ line ∷ []
own_more seat lines line its =
    filter-append (is_line_of seat) lines (line ∷ [])
    ∙ ap (λ (b : Bool). lines_of seat lines ++ (if b then line ∷ [] else [])) its

pub other_more : (seat : ℕ) (lines : List Line) (line : Line) → is_line_of seat line ≡ false →
    lines_of seat (lines ++ line ∷ []) ≡ lines_of seat lines
other_more seat lines line not_its =
    filter-append (is_line_of seat) lines (line ∷ [])
    ∙ ap (λ (b : Bool). lines_of seat lines ++ (if b then line ∷ [] else [])) not_its
    ∙ append-nil (lines_of seat lines)

pub entries_more : (lines : List Line) (replies : List Reply) (line : Line) (reply : Reply) →
    length replies ≡ length lines →
    entries_to (lines ++ line ∷ []) (replies ++ reply ∷ [])
    ≡ entries_to lines replies ++ entry_at line (Some reply)
entries_more [] [] line reply same = append-nil (entry_at line (Some reply))
entries_more [] (r ∷ rs) line reply same = absurd (omega arith)
entries_more (l ∷ ls) [] line reply same = absurd (omega arith)
entries_more (l ∷ ls) (r ∷ rs) line reply same =
    ap (λ (es : List Entry). entry_at l (Some r) ++ es) (entries_more ls rs line reply (omega arith))
    ∙ sym (append_assoc (entry_at l (Some r)) (entries_to ls rs) (entry_at line (Some reply)))

-- ---- the replies to all lines

pub reply_more : (seat : ℕ) (lines : List Line) (replies : List Reply) (line : Line) (reply : Reply) →
    length replies ≡ length lines → is_line_of seat line ≡ true →
    replies_to seat (lines ++ line ∷ []) (replies ++ reply ∷ []) ≡ replies_to seat lines replies ++ reply ∷ []
reply_more seat [] [] line reply same its = ap (λ (b : Bool). if b then reply ∷ [] else []) its
reply_more seat [] (r ∷ rs) line reply same its = absurd (omega arith)
reply_more seat (l ∷ ls) [] line reply same its = absurd (omega arith)
reply_more seat (l ∷ ls) (r ∷ rs) line reply same its =
    by (is_line_of seat l) (reply_more seat ls rs line reply (omega arith) its)
  where
    by : (b : Bool) →
        replies_to seat (ls ++ line ∷ []) (rs ++ reply ∷ []) ≡ replies_to seat ls rs ++ reply ∷ [] →
        (if b then r ∷ replies_to seat (ls ++ line ∷ []) (rs ++ reply ∷ [])
        else replies_to seat (ls ++ line ∷ []) (rs ++ reply ∷ []))
        ≡ (if b then r ∷ replies_to seat ls rs else replies_to seat ls rs) ++ reply ∷ []
    by true more = ap (λ (l : List Reply). r ∷ l) more
    by false more = more

pub reply_other : (seat : ℕ) (lines : List Line) (replies : List Reply) (line : Line) (reply : Reply) →
    length replies ≡ length lines → is_line_of seat line ≡ false →
    replies_to seat (lines ++ line ∷ []) (replies ++ reply ∷ []) ≡ replies_to seat lines replies
reply_other seat [] [] line reply same its = ap (λ (b : Bool). if b then reply ∷ [] else []) its
reply_other seat [] (r ∷ rs) line reply same its = absurd (omega arith)
reply_other seat (l ∷ ls) [] line reply same its = absurd (omega arith)
reply_other seat (l ∷ ls) (r ∷ rs) line reply same its =
    by (is_line_of seat l) (reply_other seat ls rs line reply (omega arith) its)
  where
    by : (b : Bool) →
        replies_to seat (ls ++ line ∷ []) (rs ++ reply ∷ []) ≡ replies_to seat ls rs →
        (if b then r ∷ replies_to seat (ls ++ line ∷ []) (rs ++ reply ∷ [])
        else replies_to seat (ls ++ line ∷ []) (rs ++ reply ∷ []))
        ≡ (if b then r ∷ replies_to seat ls rs else replies_to seat ls rs)
    by true more = ap (λ (l : List Reply). r ∷ l) more
    by false more = more

-- ---- the entries of one seat

-- the lines of a seat have its part of the entries of all
pub part_told : (seat : ℕ) (lines : List Line) (replies : List Reply) →
    entries_to (lines_of seat lines) (replies_to seat lines replies) ≡ part_of seat (entries_to lines replies)
part_told seat [] replies = refl
part_told seat (l ∷ ls) [] = no_replies (lines_of seat (l ∷ ls))
  where
    no_replies : (lines : List Line) → entries_at lines [] ≡ []
    no_replies [] = refl
    no_replies (x ∷ xs) = refl
part_told seat (l ∷ ls) (r ∷ rs) =
    by (is_line_of seat l) refl (part_told seat ls rs)
    ∙ sym (filter-append (is_of seat) (entry_at l (Some r)) (entries_to ls rs))
  where
    by : (b : Bool) → (l.seat == seat) ≡ b →
        entries_to (lines_of seat ls) (replies_to seat ls rs) ≡ part_of seat (entries_to ls rs) →
        entries_to (if b then l ∷ lines_of seat ls else lines_of seat ls)
        (if b then r ∷ replies_to seat ls rs else replies_to seat ls rs)
        ≡ part_of seat (entry_at l (Some r)) ++ part_of seat (entries_to ls rs)
    by true e more =
        ap (λ (es : List Entry). entry_at l (Some r) ++ es) more
        ∙ ap (λ (es : List Entry). es ++ part_of seat (entries_to ls rs))
        (sym (entry_own seat l (Some r) (eqb-true l.seat seat e)))
    by false e more =
        more
        ∙ ap (λ (es : List Entry). es ++ part_of seat (entries_to ls rs))
        (sym (entry_other seat l (Some r) (eqb-false l.seat seat e)))

-- ---- whose line it is

pub is_its : (seat : ℕ) (line : Line) → line.seat ≡ seat → is_line_of seat line ≡ true
is_its seat line at = grind arith

pub not_its : (seat : ℕ) (line : Line) → line.seat ≢ seat → is_line_of seat line ≡ false
not_its seat line apart = grind arith

pub long_own : (seat : ℕ) (taken : List Line) (line : Line) → line.seat ≡ seat →
    length (lines_of seat (taken ++ line ∷ [])) ≡ length (lines_of seat taken) + 1
long_own seat taken line at =
    ap length (own_more seat taken line (is_its seat line at)) ∙ length-append (lines_of seat taken) (line ∷ [])

-- ---- of the lines before one of a seat fewer are its own

pub room_at : (seat : ℕ) (lines : List Line) (i : ℕ) (line : Line) → i < length lines → get_or lines i line ≡ line →
    line.seat ≡ seat → length (lines_of seat (take i lines)) < length (lines_of seat lines)
room_at seat [] i line below is at = absurd (omega arith)
room_at seat (l ∷ ls) zero line below is at =
    let own : is_line_of seat l ≡ true = is_its seat l (ap (λ (x : Line). x.seat) is ∙ at) in
    subst (λ (b : Bool). 0 < length (if b then l ∷ lines_of seat ls else lines_of seat ls)) (sym own) (omega arith)
room_at seat (l ∷ ls) (suc i) line below is at =
    by (is_line_of seat l) (room_at seat ls i line (omega arith) is at)
  where
    by : (b : Bool) → length (lines_of seat (take i ls)) < length (lines_of seat ls) →
        length (if b then l ∷ lines_of seat (take i ls) else lines_of seat (take i ls))
        < length (if b then l ∷ lines_of seat ls else lines_of seat ls)
    by true more = omega arith
    by false more = more

pub short_own : (seat : ℕ) (lines : List Line) → length (lines_of seat lines) ≤ length lines
short_own seat [] = omega arith
short_own seat (l ∷ ls) = by (is_line_of seat l) (short_own seat ls)
  where
    by : (b : Bool) → length (lines_of seat ls) ≤ length ls →
        length (if b then l ∷ lines_of seat ls else lines_of seat ls) ≤ suc (length ls)
    by true less = omega arith
    by false less = omega arith

-- ---- each seat is within the greatest

grows : (lines : List Line) (from : ℕ) → from ≤ fold (λ greatest line. max greatest line.seat) from lines
grows [] from = omega arith
grows (l ∷ ls) from =
    let more = grows ls (max from l.seat) in
    omega (arith, clamps, more)

seats_below : (lines : List Line) (from bound : ℕ) →
    fold (λ greatest line. max greatest line.seat) from lines ≤ bound → All (λ (l : Line). IsSeat l.seat) lines →
    All (λ (l : Line). (1 ≤ l.seat) × (l.seat ≤ bound)) lines
seats_below [] from bound fits all = All-nil (λ (l : Line). (1 ≤ l.seat) × (l.seat ≤ bound))
seats_below (l ∷ ls) from bound fits all =
    let some = (All-head (λ (l : Line). IsSeat l.seat) l ls all).0 in
    let more = grows ls (max from l.seat) in
    All-cons (λ (l : Line). (1 ≤ l.seat) × (l.seat ≤ bound)) l ls (some, omega (arith, clamps, more, fits))
    (seats_below ls (max from l.seat) bound fits (All-tail (λ (l : Line). IsSeat l.seat) l ls all))

pub seats_within : (lines : List Line) → All (λ (l : Line). IsSeat l.seat) lines →
    All (λ (l : Line). (1 ≤ l.seat) × (l.seat ≤ greatest_seat lines)) lines
seats_within lines all = seats_below lines 1 (greatest_seat lines) (omega arith) all
