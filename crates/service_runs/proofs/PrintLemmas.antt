-- The replies of all seats, printed in the order of the script.
use Rattle.std.proofs.Common.{◌≡◌, ◌≢◌, ◌<◌, ◌≤◌, ℕ, zero, suc, ◌+◌, ◌-◌, Bool, true, false, inl, inr, ◌⊎◌, List, [], ◌∷◌, ◌++◌, if◌then◌else◌, ◌||◌, length, take, get_or, refl, sym, ap, ◌∙◌, subst, append-nil, append_assoc, length-append, arith}
use Rattle.std.specs.Prelude.{replicate, slice_index_or, slice_set}
use Rattle.std.specs.List.{All, list_any}
use Rattle.std.proofs.lemmas.Bool.{cases_eq}
use Rattle.std.proofs.lemmas.List.{get_or_default, get_or-set_other, get_or-set_same, length-set, take_all, take_more}
use Rattle.std.proofs.lemmas.List.Elements.{All-head, All-tail}
use Rattle.msgq_cli.proofs.OutputLemmas.{Prints-nil, Prints-then}
use Rattle.msgq_cli.specs.Answers.{reply_text}
use Rattle.msgq_cli.specs.Outputs.{OutputState, Prints}
use Rattle.msgq_cli.specs.Runs.{ending_of, is_fault, printed}
use Rattle.msgq_cli.specs.declared.ending.Ending.{Ending}
use Rattle.msgq_cli.specs.declared.ending.Ending.TheVariants.{Done, Faulty}
use Rattle.msgq_cli.specs.declared.line.Line.{Line}
use Rattle.msgq_cli.specs.declared.reply.Reply.{Reply}
use Rattle.service_runs.proofs.LineLemmas.{is_its, long_own, not_its, other_more, reply_more, reply_other, room_at, short_own}
use Rattle.service_runs.specs.Desks.{DeskView, desk_at, no_desk}
use Rattle.service_runs.specs.Lines.{is_stopped, lines_of, replies_to}
use Rattle.service_runs.specs.Printing.{AreOfSeats, IsPrintedOf}

-- how many replies of the seat at a place were printed
abbrev pub count_at : List ℕ → ℕ → ℕ
count_at counts place = slice_index_or counts place 0

-- the replies to these lines of a script were printed
pub record ArePrinting (taken : List Line) (desks : List DeskView) (counts : List ℕ)
    (old now : OutputState) (ending : Ending) (has_stopped : Bool) : Type 0 where
  pub replies : List Reply
  pub as_many : length replies ≡ length taken
  pub prints : Prints old now (printed taken replies)
  pub ends : ending ≡ ending_of replies
  pub stops : has_stopped ≡ list_any is_stopped replies
  pub many : length counts ≡ length desks
  pub counted : (place : ℕ) → place < length desks → count_at counts place ≡ length (lines_of (place + 1) taken)
  pub own : (place : ℕ) → place < length desks →
      replies_to (place + 1) taken replies ≡ take (count_at counts place) (desk_at desks place).lines.replies

zero_at : (n place : ℕ) → count_at (replicate n 0) place ≡ 0
zero_at zero place = refl
zero_at (suc n) zero = refl
zero_at (suc n) (suc place) = zero_at n place

length_zeros : (n : ℕ) → length {A = ℕ} (replicate n 0) ≡ n
length_zeros zero = refl
length_zeros (suc n) = ap suc (length_zeros n)

pub printing_starts : (desks : List DeskView) (counts : List ℕ) (o : OutputState) →
    counts ≡ replicate (length desks) 0 → ArePrinting [] desks counts o o Done false
printing_starts desks counts o none = record {
  replies = [];
  as_many = refl;
  prints = Prints-nil o;
  ends = refl;
  stops = refl;
  many = ap length none ∙ length_zeros (length desks);
  counted = λ place below. ap (λ (l : List ℕ). count_at l place) none ∙ zero_at (length desks) place;
  own = λ place below. sym (ap (λ (n : ℕ). take n (desk_at desks place).lines.replies)
      (ap (λ (l : List ℕ). count_at l place) none ∙ zero_at (length desks) place));
}

-- ---- one line more

printed_push : (lines : List Line) (replies : List Reply) (line : Line) (reply : Reply) →
    length replies ≡ length lines →
    printed (lines ++ line ∷ []) (replies ++ reply ∷ []) ≡ printed lines replies ++ reply_text line.number reply
printed_push [] [] line reply same = append-nil (reply_text line.number reply)
printed_push [] (r ∷ rs) line reply same = absurd (omega arith)
printed_push (l ∷ ls) [] line reply same = absurd (omega arith)
printed_push (l ∷ ls) (r ∷ rs) line reply same =
    ap (λ (text : List ℕ). reply_text l.number r ++ text) (printed_push ls rs line reply (omega arith))
    ∙ sym (append_assoc (reply_text l.number r) (printed ls rs) (reply_text line.number reply))

any_push : (P : Reply → Bool) (replies : List Reply) (reply : Reply) →
    list_any P (replies ++ reply ∷ []) ≡ (P reply || list_any P replies)
any_push P [] reply = refl
any_push P (r ∷ rs) reply = by (P r) (P reply) (any_push P rs reply)
  where
    by : (a b : Bool) → list_any P (rs ++ reply ∷ []) ≡ (b || list_any P rs) →
        (a || list_any P (rs ++ reply ∷ [])) ≡ (b || (a || list_any P rs))
    by true true more = refl
    by true false more = refl
    by false b more = more

ending_push : (replies : List Reply) (reply : Reply) →
    ending_of (replies ++ reply ∷ []) ≡ (if is_fault reply then Faulty else ending_of replies)
ending_push replies reply =
    ap (λ (b : Bool). if b then Faulty else Done) (any_push is_fault replies reply) ∙ by (is_fault reply)
  where
    by : (b : Bool) → (if b || list_any is_fault replies then Faulty else Done)
        ≡ (if b then Faulty else if list_any is_fault replies then Faulty else Done)
    by true = refl
    by false = refl

either_way : (a b : Bool) → (a || b) ≡ (b || a)
either_way true true = refl
either_way true false = refl
either_way false true = refl
either_way false false = refl

module _ (taken : List Line) (desks : List DeskView) (counts counts' : List ℕ)
    (old now next : OutputState) (ending ending' : Ending) (stopped stopped' : Bool) (line : Line) (reply : Reply)
    (place : ℕ)
    (p : ArePrinting taken desks counts old now ending stopped) (at : line.seat ≡ place + 1)
    (below : place < length desks) (room : count_at counts place < length (desk_at desks place).lines.replies)
    (has : reply ≡ slice_index_or (desk_at desks place).lines.replies (count_at counts place) reply)
    (counts_more : counts' ≡ slice_set counts place (count_at counts place + 1))
    (prints : Prints now next (reply_text line.number reply))
    (ends : ending' ≡ (if is_fault reply then Faulty else ending))
    (stops : stopped' ≡ (stopped || is_stopped reply)) where
  within : place < length counts
  within = let many = p.many in omega arith

  count_here : count_at counts' place ≡ count_at counts place + 1
  count_here = ap (λ (l : List ℕ). count_at l place) counts_more
      ∙ get_or-set_same counts place (count_at counts place + 1) 0 within

  count_there : (other : ℕ) → other ≢ place → count_at counts' other ≡ count_at counts other
  count_there other apart = ap (λ (l : List ℕ). count_at l other) counts_more
      ∙ get_or-set_other counts place other (count_at counts place + 1) 0 apart

  counted_at : (other : ℕ) → other < length desks → (other ≡ place) ⊎ (other ≢ place) →
      count_at counts' other ≡ length (lines_of (other + 1) (taken ++ line ∷ []))
  counted_at other few (inl same) =
      subst (λ (n : ℕ). count_at counts' n ≡ length (lines_of (n + 1) (taken ++ line ∷ []))) (sym same)
      (count_here ∙ ap (λ (n : ℕ). n + 1) (p.counted place below) ∙ sym (long_own (place + 1) taken line at))
  counted_at other few (inr apart) =
      count_there other apart ∙ p.counted other few
      ∙ ap length (sym (other_more (other + 1) taken line
      (not_its (other + 1) line (λ same. apart (omega (arith, same, at))))))

  own_at : (other : ℕ) → other < length desks → (other ≡ place) ⊎ (other ≢ place) →
      replies_to (other + 1) (taken ++ line ∷ []) (p.replies ++ reply ∷ [])
      ≡ take (count_at counts' other) (desk_at desks other).lines.replies
  own_at other few (inl same) =
      let its : List Reply = (desk_at desks place).lines.replies in
      let k : ℕ = count_at counts place in
      subst (λ (n : ℕ). replies_to (n + 1) (taken ++ line ∷ []) (p.replies ++ reply ∷ [])
      ≡ take (count_at counts' n) (desk_at desks n).lines.replies) (sym same)
      (reply_more (place + 1) taken p.replies line reply p.as_many (is_its (place + 1) line at)
      ∙ ap (λ (l : List Reply). l ++ reply ∷ []) (p.own place below)
      ∙ ap (λ (r : Reply). take k its ++ r ∷ []) has
      ∙ sym (take_more its k reply room)
      ∙ ap (λ (n : ℕ). take n its) (sym count_here))
  own_at other few (inr apart) =
      reply_other (other + 1) taken p.replies line reply p.as_many
      (not_its (other + 1) line (λ same. apart (omega (arith, same, at))))
      ∙ p.own other few
      ∙ ap (λ (n : ℕ). take n (desk_at desks other).lines.replies) (sym (count_there other apart))

  pub printing_goes : ArePrinting (taken ++ line ∷ []) desks counts' old next ending' stopped'
  printing_goes = record {
    replies = p.replies ++ reply ∷ [];
    as_many = length-append p.replies (reply ∷ []) ∙ ap (λ (n : ℕ). n + 1) p.as_many
        ∙ sym (length-append taken (line ∷ []));
    prints = subst (Prints old next) (sym (printed_push taken p.replies line reply p.as_many))
        (Prints-then old now next _ _ p.prints prints);
    ends = ends ∙ ap (λ (e : Ending). if is_fault reply then Faulty else e) p.ends
        ∙ sym (ending_push p.replies reply);
    stops = stops ∙ ap (λ (b : Bool). b || is_stopped reply) p.stops
        ∙ either_way (list_any is_stopped p.replies) (is_stopped reply) ∙ sym (any_push is_stopped p.replies reply);
    many = ap length counts_more ∙ length-set counts place (count_at counts place + 1) ∙ p.many;
    counted = λ other few. counted_at other few (cases_eq other place);
    own = λ other few. own_at other few (cases_eq other place);
  }

-- ---- at a line of a script

line_at : (P : Line → Type 0) (lines : List Line) (i : ℕ) (line : Line) → All P lines → i < length lines →
    line ≡ get_or lines i line → P line
line_at P [] i line all below is = absurd (omega arith)
line_at P (l ∷ ls) zero line all below is = subst P (sym is) (All-head P l ls all)
line_at P (l ∷ ls) (suc i) line all below is = line_at P ls i line (All-tail P l ls all) (omega arith) is

module _ (lines : List Line) (desks : List DeskView) (counts : List ℕ) (old now : OutputState) (ending : Ending)
    (stopped : Bool) (i : ℕ) (line : Line) (d : DeskView) (all : AreOfSeats lines desks)
    (p : ArePrinting (take i lines) desks counts old now ending stopped) (below : i < length lines)
    (is : line ≡ get_or lines i line) (desk_is : d ≡ get_or desks (line.seat - 1) d) where
  abbrev pub place : ℕ
  place = line.seat - 1

  seated : (1 ≤ line.seat) × (line.seat ≤ length desks)
  seated = line_at (λ (l : Line). (1 ≤ l.seat) × (l.seat ≤ length desks)) lines i line all.within below is

  at : line.seat ≡ place + 1
  at = let some = seated.0 in omega arith

  few : place < length desks
  few = let some = seated.0 in let most = seated.1 in omega arith

  desk : desk_at desks place ≡ d
  desk = get_or_default desks place no_desk d few ∙ sym desk_is

  -- there is a reply that was not printed yet
  room : count_at counts place < length (desk_at desks place).lines.replies
  room =
      let fewer = room_at (place + 1) lines i line below (sym is) at in
      let counted = p.counted place few in
      let many = (all.each place few).all in
      omega arith

  pub room_there : count_at counts place < length d.lines.replies
  room_there = subst (λ (x : DeskView). count_at counts place < length x.lines.replies) desk room

  -- so one more can be counted
  pub counts_there : length lines < 18446744073709551616 → count_at counts place + 1 < 18446744073709551616
  counts_there short =
      let its = room in
      let many = (all.each place few).all in
      let own = short_own (place + 1) lines in
      omega arith

  pub printing_there : (next : OutputState) (ending' : Ending) (stopped' : Bool) (reply : Reply) →
      reply ≡ get_or d.lines.replies (count_at counts place) reply → Prints now next (reply_text line.number reply) →
      ending' ≡ (if is_fault reply then Faulty else ending) → stopped' ≡ (stopped || is_stopped reply) →
      ArePrinting (take (i + 1) lines) desks (slice_set counts place (count_at counts place + 1)) old next ending'
      stopped'
  printing_there next ending' stopped' reply has prints ends stops =
      let counts' : List ℕ = slice_set counts place (count_at counts place + 1) in
      subst (λ (l : List Line). ArePrinting l desks counts' old next ending' stopped')
      (sym (take_more lines i line below ∙ ap (λ (x : Line). take i lines ++ x ∷ []) (sym is)))
      (printing_goes (take i lines) desks counts counts' old now next ending ending' stopped stopped' line
      reply place p at few room
      (subst (λ (x : DeskView). reply ≡ get_or x.lines.replies (count_at counts place) reply) (sym desk) has)
      refl prints ends stops)

-- ---- all lines

pub printed_all : (lines : List Line) (desks : List DeskView) (counts : List ℕ) (old now : OutputState)
    (ending : Ending) (stopped : Bool) → AreOfSeats lines desks →
    ArePrinting lines desks counts old now ending stopped → IsPrintedOf lines desks old now ending stopped
printed_all lines desks counts old now ending stopped all p = record {
  replies = p.replies;
  as_many = p.as_many;
  prints = p.prints;
  ends = p.ends;
  stops = p.stops;
  own = λ place few. p.own place few
      ∙ ap (λ (n : ℕ). take n (desk_at desks place).lines.replies) (p.counted place few ∙ sym (all.each place few).all)
      ∙ take_all (length (desk_at desks place).lines.replies) (desk_at desks place).lines.replies (omega arith);
}
