-- What is done on a kernel, as its pass and those of its seats know it.
use Rattle.std.proofs.Common.{◌≡◌, ◌≤◌, ◌<◌, ℕ, zero, suc, ◌+◌, ◌-◌, Bool, true, false, ◌||◌, List, [], ◌∷◌, ◌++◌, length, Option, Some, None, refl, sym, ap, ◌∙◌, subst, arith, append-nil, length-append}
use Rattle.std.specs.Prelude.{slice_index_or}
use Rattle.interleaving_core.proofs.PartLemmas.{added_is_of}
use Rattle.interleaving_core.proofs.PlaceLemmas.{at_other, length-with_call}
use Rattle.interleaving_core.specs.Kernel.{IsWhole}
use Rattle.interleaving_core.specs.Owing.{is_failure}
use Rattle.interleaving_core.specs.declared.kernel.TheConstants.{MAX_DECIDED}
use Rattle.interleavings.specs.Laws.{StepsRefine, StepsRefineAndDo}
use Rattle.interleavings.proofs.InsertLemmas.{step_inserting}
use Rattle.interleavings.specs.Moments.{once_if}
use Rattle.interleavings.specs.Refining.{Refines}
use Rattle.interleavings.specs.Words.{IsStep}
use Rattle.page_locks.proofs.ChangeLemmas.{length-with_row}
use Rattle.workers.proofs.PartLemmas.{calls_append, part_append}
use Rattle.workers.proofs.DeviceLemmas.{device_by_turn}
use Rattle.workers.proofs.EntryLemmas.{calls_below, calls_own, none_stops, part_of_other, part_of_own}
use Rattle.workers.specs.Rule.{IsChange, IsRight, moved}
use Rattle.workers.specs.Views.{calls_in, no_place, part_of, place_at}
use Rattle.workers.specs.Entries.{seat_of}
use Rattle.workers.specs.Held.{IsKept, known_of, place_of, places_from}
use Rattle.workers.specs.Origins.{Origin}
use Rattle.workers.specs.Told.{IsTold, Sitter}
use Rattle.workers.specs.Words.{ActiveView, Call, Desk, Entry, IsSeat, IsTurn, KernelState, Place, RecordKey, RefinesFile, State, Step, answer_told, call_at, call_of, entry_of, told, untold}

-- what leaves it over its system leaves it over the same pages
abbrev pub carried : {K : Type 0} (hash : RecordKey → ℕ) (content : List (List ℕ)) (old new : KernelState K) →
    RefinesFile hash content old → ((base : State) → Refines hash base old → Refines hash base new) →
    RefinesFile hash content new
carried hash content old new was goes = record { base = was.base; file = was.file; led = goes was.base was.led }

-- ---- places

place_from : (k n m : ℕ) (seats : List (Option ActiveView)) → k + n ≡ m →
    slice_index_or (places_from k seats) n no_place ≡ place_of m (slice_index_or seats n None)
place_from k n m [] is = refl
place_from k zero m (x ∷ xs) is = let same : k ≡ m = omega arith in ap (λ (j : ℕ). place_of j x) same
place_from k (suc n) m (x ∷ xs) is = place_from (suc k) n m xs (omega arith)

pub place_is : (seats : List (Option ActiveView)) (seat : ℕ) →
    place_at (places_from 1 seats) seat ≡ place_of seat (call_at seats seat)
place_is seats zero = refl
place_is seats (suc n) = place_from 1 n (suc n) seats (omega arith)

pub told_none : (seat : ℕ) (call : Option Call) → entry_of seat call None ≡ []
told_none seat None = refl
told_none seat (Some call) = refl

-- ---- a step

-- what a seat was shown is no more than the journal has later
grows : (a b c d : ℕ) → a ≤ b → c ≡ b + d → a ≤ c
grows a b c d below is = omega arith

pub stays_below : (a b c : ℕ) → a ≤ b → b ≡ c → a ≤ c
stays_below a b c below is = omega arith

or_stays : (a b c : Bool) → c ≡ (a || b) → a ≡ true → c ≡ true
or_stays true b c is on = is
or_stays false b c is on = absurd cc

or_true : (a b : Bool) → b ≡ true → (a || b) ≡ true
or_true true b e = refl
or_true false b e = e

module _ {K : Type 0} (seat : ℕ) (did : Step) (old new : KernelState K)
    (t : IsTurn seat did old new) where
  its_added : List Entry
  its_added = t.run.added

  change_by_turn : 1 ≤ seat → (told : List Entry) →
      told ≡ entry_of seat (place_at (known_of old).places seat).call (answer_told did) →
      IsChange seat_of seat told (known_of old) (known_of new)
  change_by_turn begun told is =
      let all = added_is_of seat (answer_told did) old new t.run in
      record {
        added = t.run.added;
        journal = t.run.journal;
        own = part_of_own seat t.run.added begun all;
        others = λ other apart. part_of_other other seat t.run.added (λ same. apart (sym same)) all;
        owed = ap (λ (p : Place Entry Call). p.owed ++ t.run.added) (place_is old.seats seat) ∙ t.run.owed
            ∙ ap (λ (l : List Entry). l ++ untold seat (call_at new.seats seat))
            (sym (is ∙ ap (λ (p : Place Entry Call). entry_of seat p.call (answer_told did)) (place_is old.seats seat)))
            ∙ ap (λ (p : Place Entry Call). told ++ p.owed) (sym (place_is new.seats seat));
        places = λ other apart. place_is new.seats other
            ∙ ap (place_of other) (ap (λ (l : List (Option ActiveView)). call_at l other) t.run.seats
            ∙ at_other old.seats seat other (call_at new.seats seat) apart)
            ∙ sym (place_is old.seats other);
        failed = or_stays old.failed (is_failure did) new.failed t.failed;
        dealt = ap (λ (l : List (Option ActiveView)). suc (length l)) t.run.seats
            ∙ ap suc (length-with_call old.seats seat (call_at new.seats seat));
      }

  count_added : calls_in seat_of new.journal + length old.journal ≡ calls_in seat_of old.journal + length new.journal
  count_added =
      let calls = ap (calls_in seat_of) t.run.journal ∙ calls_append seat_of old.journal t.run.added in
      let many = ap length t.run.journal ∙ length-append old.journal t.run.added in
      let own = calls_own seat t.run.added (added_is_of seat (answer_told did) old new t.run) in
      omega arith

  told_by_turn : (x : Sitter) (told : List Entry) → x.seat ≡ seat →
      told ≡ entry_of seat (place_at (known_of old).places seat).call (answer_told did) →
      IsRight seat_of (known_of old) x → IsTold did x (moved seat_of (known_of new) told x)
  told_by_turn x told at is right =
      let call : (place_at (known_of old).places seat).call ≡ x.place.call =
      ap (λ (p : Place Entry Call). p.call) (ap (place_at (known_of old).places) (sym at) ∙ right.place) in
      let was : call_of (call_at old.seats seat) ≡ x.place.call =
      sym (ap (λ (p : Place Entry Call). p.call) (place_is old.seats seat)) ∙ call in
      let now : place_at (known_of new).places x.seat ≡ place_of seat (call_at new.seats seat) =
      ap (place_at (known_of new).places) at ∙ place_is new.seats seat in
      record {
        same = record {
          seat = refl;
          failed = λ e. or_stays old.failed (is_failure did) new.failed t.failed (right.failed e);
          seen = grows x.seen (calls_in seat_of old.journal) (calls_in seat_of new.journal)
              (calls_in seat_of t.run.added) right.seen
              (ap (calls_in seat_of) t.run.journal ∙ calls_append seat_of old.journal t.run.added);
        };
        list = ap (λ (l : List Entry). x.list ++ l) (is
            ∙ ap (λ (c : Option Call). entry_of seat c (answer_told did)) call
            ∙ ap (λ (s : ℕ). entry_of s x.place.call (answer_told did)) (sym at));
        idle = λ idle. sym was ∙ ap call_of (t.idle.0 idle);
        goes = λ e. ap (λ (p : Place Entry Call). p.call) now ∙ t.goes e ∙ was;
        over = λ e. now ∙ ap (place_of seat) (t.over e);
        failed = λ e. t.failed ∙ or_true old.failed (is_failure did) e;
      }

  pub counted_after : (count before after : ℕ) → count ≡ calls_in seat_of old.journal →
      before ≡ length old.journal → after ≡ length new.journal →
      count + (after - before) ≡ calls_in seat_of new.journal
  counted_after count before after counted b a =
      let sum = count_added in
      let many = ap length t.run.journal ∙ length-append old.journal t.run.added in
      omega arith

  pub change_at_desk : 1 ≤ seat → (at : ℕ) (d : Desk Entry Call) → d ≡ known_of old → at ≡ seat →
      IsChange seat_of at (entry_of at (place_at d.places at).call (answer_told did)) d (known_of new)
  change_at_desk begun at d known same =
      subst (λ (b : Desk Entry Call).
      IsChange seat_of at (entry_of at (place_at b.places at).call (answer_told did)) b (known_of new))
      (sym known)
      (subst (λ (s : ℕ). IsChange seat_of s
      (entry_of s (place_at (known_of old).places s).call (answer_told did))
      (known_of old) (known_of new)) (sym same)
      (change_by_turn begun (entry_of seat (place_at (known_of old).places seat).call (answer_told did)) refl))

  pub told_at_desk : (d : Desk Entry Call) (x y : Sitter) → d ≡ known_of old → x.seat ≡ seat →
      IsRight seat_of d x →
      y ≡ moved seat_of (known_of new)
      (entry_of x.seat (place_at d.places x.seat).call (answer_told did)) x →
      IsTold did x y
  told_at_desk d x y known at right is =
      subst (IsTold did x) (sym is)
      (told_by_turn x (entry_of x.seat (place_at d.places x.seat).call (answer_told did)) at
      (λ i. entry_of (at i) (place_at (known i).places (at i)).call (answer_told did))
      (subst (λ (b : Desk Entry Call). IsRight seat_of b x) known right))

  marked_by_turn : length (part_of seat_of 0 old.journal) ≡ once_if old.stopped →
      length (part_of seat_of 0 new.journal) ≡ once_if new.stopped
  marked_by_turn was =
      ap (λ (es : List Entry). length (part_of seat_of 0 es)) t.run.journal
      ∙ ap length (part_append seat_of 0 old.journal t.run.added
      ∙ ap (λ (es : List Entry). part_of seat_of 0 old.journal ++ es)
      (none_stops seat t.run.added (added_is_of seat (answer_told did) old new t.run))
      ∙ append-nil (part_of seat_of 0 old.journal))
      ∙ was ∙ ap once_if (sym t.run.rest.stopped)

  pub kept_after : (of_key : K → RecordKey → ℕ) (o : Origin) (d d' : Desk Entry Call) (count n : ℕ) →
      StepsRefine K → StepsRefineAndDo K → IsSeat old.locks seat → IsStep (of_key old.keys) seat did old new →
      IsKept of_key o old d count → d' ≡ known_of new →
      n ≡ calls_in seat_of new.journal → IsKept of_key o new d' n
  kept_after of_key o d d' count n leads does is step k known counted =
      let h = k.held in
      let made : IsStep o.hash seat did old new =
      subst (λ (hash : RecordKey → ℕ). IsStep hash seat did old new) h.hash step in
      record {
        held = record {
          led = λ honest. carried o.hash o.content old new (h.led honest)
              (λ base was. leads o.hash base seat did old new is was made);
          hash = ap of_key t.run.rest.keys ∙ h.hash;
          honest = t.run.rest.honest ∙ h.honest;
          callers = t.run.rest.callers ∙ h.callers;
          rows = ap length t.run.locks ∙ length-with_row old.locks seat _ ∙ h.rows;
          seats = ap length t.run.seats ∙ length-with_call old.seats seat (call_at new.seats seat) ∙ h.seats;
          known = known;
          counted = counted;
          marked = marked_by_turn h.marked;
        };
        device = device_by_turn o old new k.device o.hash seat did does t (λ _. made)
            (λ honest. let was = h.led honest in (was.base, was.led));
        rooms = λ honest. step_inserting does o.hash (h.led honest).base seat did old new (h.led honest).led made
            (k.rooms honest);
      }

-- the calls are no more than the entries
pub fits_after : (es : List Entry) (n : ℕ) → n ≡ calls_in seat_of es → length es ≤ MAX_DECIDED + 1 →
    n < 18446744073709551616
fits_after es n is few = let below = calls_below es in omega (arith, is, few, below)

pub journal_few : {K : Type 0} (s : KernelState K) → IsWhole s → length s.journal ≤ MAX_DECIDED + 1
journal_few s w = let few = w.few in omega (arith, few)

-- ---- what tells its seat nothing

pub nothing_told : (seat : ℕ) (d old new : Desk Entry Call) → IsChange seat_of seat [] old new → (at : ℕ) → d ≡ old →
    at ≡ seat → IsChange seat_of at (entry_of at (place_at d.places at).call None) d new
nothing_told seat d old new change at known same =
    subst (λ (l : List Entry). IsChange seat_of at l d new) (sym (told_none at (place_at d.places at).call))
    (subst (λ (b : Desk Entry Call). IsChange seat_of at [] b new) (sym known)
    (subst (λ (s : ℕ). IsChange seat_of s [] old new) (sym same) change))
