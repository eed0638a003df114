-- A kernel that is opened is whole, and one at whose seat a call begins.
use Rattle.std.proofs.Common.{◌≡◌, refl, sym, ap, ◌∙◌, subst, ℕ, zero, suc, ◌+◌, ◌-◌, ◌≤◌, ◌<◌, false, true, inl, inr, List, [], ◌∷◌, ◌++◌, Option, Some, None, length, length-append, map, replicate, slice_index_or, slice_set, nat_lt, Bool, arith}
use Rattle.std.specs.Prelude.{sum_by}
use Rattle.std.proofs.lemmas.Bool.{cases_eq}
use Rattle.std.proofs.lemmas.Bool.Decides.{nat_tests}
use Rattle.std.proofs.lemmas.List.{length-replicate}
use Rattle.std.proofs.lemmas.List.Sums.{sum_by-cons}
use Rattle.std.specs.List.{All}
use Rattle.std.proofs.lemmas.Option.{get_or_from_slice_get, slice_get-get_or, slice_get_within}
use Rattle.page_locks.proofs.ChangeLemmas.{with_row-own}
use Rattle.interleaving_core.specs.Counting.{CountsState, opened_counts, unbegun_count}
use Rattle.interleaving_core.specs.Words.{Call, Caller, Entry, HasFittingCall, HasFittingCaller, IsReady, IsSeat, Table, caller_at, with_row}
use Rattle.xsi_calls.proofs.RowLemmas.{new_holds_nothing}
use Rattle.interleaving_core.specs.Active.{ActiveView, HasBegun, HasBegunAt, drafted}
use Rattle.interleaving_core.specs.Beginning.{HasCall, MayBegin}
use Rattle.interleaving_core.specs.Closing.{has_one}
use Rattle.interleaving_core.specs.Kernel.{AreFittingCallers, IsCallOf, IsWhole, KernelState, call_at, due_at, due_for_stop, entries_of, locks_of, with_call}
use Rattle.interleaving_core.specs.declared.kernel.TheConstants.{MAX_DECIDED}
use Rattle.interleaving_core.proofs.PlaceLemmas.{Seats, all_due, at_other, at_same, due_with, few_due, length-with_call, less, rows_with, stop_due, with_own, with_place}
use Rattle.interleaving_core.proofs.KernelLemmas.{as_many, its_row}
use Rattle.interleaving_core.proofs.PastLemmas.{begun_keeps, kept_beside}
use Rattle.interleaving_core.proofs.TurnLemmas.{new_unanswered}
use Rattle.interleaving_core.specs.Past.{KeepsJournal}
use Rattle.queue_model.specs.declared.entry.Entry.TheVariants.{Stopped}
use Rattle.std.specs.Option.{is_some}

-- ---- a call begins

-- the session is not full
pub not_full : (entries : ℕ) (full : Bool) → full ≡ nat_lt MAX_DECIDED entries → full ≡ false → entries ≤ MAX_DECIDED
not_full entries full is room = let test : nat_lt MAX_DECIDED entries ≡ false = sym is ∙ room in
    grind (arith, nat_tests)

-- nor where it has so few
pub is_few : {K : Type 0} (s : KernelState K) → length s.journal + length s.seats < MAX_DECIDED →
    false ≡ nat_lt MAX_DECIDED (entries_of s)
is_few s few =
    let calls = all_due s.seats in
    let stop = stop_due s.stopped in
    let less : entries_of s ≤ MAX_DECIDED = omega (arith, few, calls, stop) in
    grind (arith, nat_tests)

pub caller_there : (callers : List Caller) (seat : ℕ) → 1 ≤ seat → seat ≤ length callers → (c : Caller) →
    c ≡ slice_index_or callers (seat - 1) c → caller_at callers seat ≡ Some c
caller_there callers zero some within c is = absurd (omega (arith, some))
caller_there callers (suc place) some within c is =
    let there : place < length callers = omega (arith, within) in
    slice_get-get_or callers place c there
    ∙ ap (λ (x : Caller). Some x) (sym (is ∙ ap (λ (n : ℕ). slice_index_or callers n c) (less place)))

module _ {K : Type 0} (seat : ℕ) (caller : Caller) (call : Call) (a : ActiveView) (old new : KernelState K)
    (whole : IsWhole old) (is : IsSeat old.locks seat) (free : call_at old.seats seat ≡ None)
    (sits : caller_at old.callers seat ≡ Some caller) (begun : HasBegun caller call (length old.journal) a)
    (made : new ≡ record old { seats = with_call old.seats seat (Some a); room = new.room })
    (memory : length old.journal + (length old.seats + 1) ≤ new.room) (more : entries_of old ≤ MAX_DECIDED) where
  within_seats : seat ≤ length old.seats
  within_seats = let many = as_many old whole in let last = is.1 in omega (arith, last, many)

  abbrev changed : KernelState K
  changed = record old { seats = with_call old.seats seat (Some a); room = new.room }

  due_then : sum_by due_at changed.seats ≡ sum_by due_at old.seats + drafted a.draft
  due_then =
      let all = due_with old.seats seat (Some a) is.0 within_seats in
      let none = ap due_at free in
      omega (arith, all, none)

  begins_whole : IsWhole changed
  begins_whole = record {
    ready = whole.ready;
    rows = sym (with_row-own old.locks seat)
        ∙ ap (with_row old.locks seat) (its_row old whole seat ∙ ap locks_of free
        ∙ sym (new_holds_nothing a.machine begun.begins.new))
        ∙ ap (λ (t : Table). with_row t seat (locks_of (Some a))) whole.rows ∙ rows_with old.seats seat (Some a);
    callers = whole.callers ∙ sym (length-with_call old.seats seat (Some a));
    fitting = whole.fitting;
    calls = λ other. elim (cases_eq other seat) [
      | inl e ↦ subst (λ (n : ℕ). IsCallOf (caller_at old.callers n) (call_at changed.seats n)) (sym e)
          (subst (IsCallOf (caller_at old.callers seat)) (sym (at_same old.seats seat (Some a) is.0 within_seats))
          (sits ∙ ap (λ (x : Caller). Some x) (sym begun.begins.caller_is)))
      | inr ne ↦ subst (IsCallOf (caller_at old.callers other)) (sym (at_other old.seats seat other (Some a) ne))
          (whole.calls other)
    ];
    room =
        let few = all_due changed.seats in
        let many = length-with_call old.seats seat (Some a) in
        let stop = stop_due old.stopped in
        omega (arith, few, many, stop, memory);
    few =
        let then = due_then in
        let one = few_due (Some a) in
        omega (arith, then, one, more);
    past = λ other. elim (cases_eq other seat) [
      | inl e ↦ subst (λ (n : ℕ). KeepsJournal n old.journal (call_at changed.seats n)) (sym e)
          (subst (KeepsJournal seat old.journal) (sym (at_same old.seats seat (Some a) is.0 within_seats))
          (begun_keeps seat caller call old.journal a begun (new_unanswered a.machine begun.begins.new)))
      | inr ne ↦ subst (KeepsJournal other old.journal) (sym (at_other old.seats seat other (Some a) ne))
          (whole.past other)
    ];
    blamed = whole.blamed;
    counted = whole.counted ∙ sym (length-with_call old.seats seat (Some a));
  }

  pub whole_begun : IsWhole new
  whole_begun = subst IsWhole (sym made) begins_whole

pub has_call : {K : Type 0} (seat : ℕ) (caller : Caller) (call : Call) (a : ActiveView) (old new : KernelState K) →
    MayBegin seat old → caller_at old.callers seat ≡ Some caller → HasFittingCall call →
    HasBegun caller call (length old.journal) a →
    new ≡ record old { seats = with_call old.seats seat (Some a); room = new.room } → HasCall seat call old new
has_call seat caller call a old new may sits fits begun made = record {
  may = may;
  caller = caller;
  sits = sits;
  fits = fits;
  active = a;
  begun = begun;
  is = made;
}

pub begun_at : (caller : Caller) (call : Call) (many : ℕ) (at : Option ActiveView) →
    HasBegunAt caller call many at → (a : ActiveView) × (at ≡ Some a) × HasBegun caller call many a
begun_at caller call many None begun = absurd begun
begun_at caller call many (Some a) begun = (a, refl, begun)

pub no_call : (at : Option ActiveView) → has_one at ≡ false → at ≡ None
no_call None is = refl
no_call (Some a) is = absurd cc

-- a seat that has none is left as it was
pub same_seats : (seats : Seats) (seat : ℕ) (left : Option ActiveView) → 1 ≤ seat → call_at seats seat ≡ None →
    left ≡ None → slice_set seats (seat - 1) left ≡ seats
same_seats seats seat left some free none =
    with_place seats seat left some ∙ ap (with_call seats seat) (none ∙ sym free) ∙ with_own seats seat

-- it is put in its place
pub made_of : {K : Type 0} (old : KernelState K) (seats seats' : Seats) (journal : List Entry) (room : ℕ) →
    seats ≡ seats' → journal ≡ old.journal →
    record old { seats = seats; journal = journal; room = room } ≡ record old { seats = seats'; room = room }
made_of old seats seats' journal room same_seats same_journal =
    ap (λ (x : Seats). record old { seats = x; journal = journal; room = room }) same_seats
    ∙ ap (λ (es : List Entry). record old { seats = seats'; journal = es; room = room }) same_journal

-- ---- the system is stopped

pub stopped_whole : {K : Type 0} (old new : KernelState K) → IsWhole old → old.stopped ≡ false →
    new ≡ record old { journal = old.journal ++ Stopped ∷ []; stopped = true; room = new.room } →
    old.room ≤ new.room → IsWhole new
stopped_whole {K} old new whole running is more = subst IsWhole (sym is) (record {
  ready = whole.ready;
  rows = whole.rows;
  callers = whole.callers;
  fitting = whole.fitting;
  calls = whole.calls;
  room = let had = whole.room in omega (arith, had, same, more);
  few = let had = whole.few in omega (arith, had, same);
  past = λ seat. kept_beside seat old.journal (Stopped ∷ []) (call_at old.seats seat) refl (whole.past seat);
  blamed = whole.blamed;
  counted = whole.counted;
})
  where
    changed : KernelState K
    changed = record old { journal = old.journal ++ Stopped ∷ []; stopped = true; room = new.room }

    same : entries_of changed ≡ entries_of old
    same =
        let long = length-append old.journal (Stopped ∷ []) in
        let due = ap due_for_stop running in
        omega (arith, long, due)

-- ---- a kernel is opened

-- what is so of all callers is so of each seat's
pub each_seat_fits : (callers : List Caller) → All HasFittingCaller callers → AreFittingCallers callers
each_seat_fits callers all zero caller sits = absurd cc
each_seat_fits callers all (suc place) caller sits =
    subst HasFittingCaller (get_or_from_slice_get callers place caller caller sits)
    (all place caller (slice_get_within callers place caller sits))

idle_rows : (n : ℕ) → map locks_of (replicate n None) ≡ replicate n []
idle_rows zero = refl
idle_rows (suc n) = ap (λ (rows : Table). [] ∷ rows) (idle_rows n)

pub idle_at : (n seat : ℕ) → call_at (replicate n None) seat ≡ None
idle_at n zero = refl
idle_at zero (suc place) = refl
idle_at (suc n) (suc zero) = refl
idle_at (suc n) (suc (suc place)) = idle_at n (suc place)

pub none_due : (n : ℕ) → sum_by due_at (replicate n None) ≡ 0
none_due zero = refl
none_due (suc n) =
    sum_by-cons due_at None (replicate n None) ∙ ap (λ (x : ℕ). due_at None + x) (none_due n)

pub opened_whole : {K : Type 0} (n : ℕ) (k : KernelState K) → IsReady k.pool → k.locks ≡ replicate n [] →
    k.seats ≡ replicate n None → length k.callers ≡ n → AreFittingCallers k.callers → k.journal ≡ [] →
    k.stopped ≡ false → 1 ≤ k.room →
    k.failed ≡ is_some k.failure → k.searches ≡ opened_counts n → IsWhole k
opened_whole n k ready locks seats callers fitting journal stopped room blamed searches = record {
  ready = ready;
  rows = locks ∙ sym (ap (map locks_of) seats ∙ idle_rows n);
  callers = callers ∙ sym (ap length seats ∙ length-replicate n None);
  fitting = fitting;
  calls = λ seat. subst (IsCallOf (caller_at k.callers seat))
      (sym (ap (λ (x : Seats). call_at x seat) seats ∙ idle_at n seat)) tt;
  room = let one = entries in omega (arith, one, room);
  few = let one = entries in omega (arith, one);
  past = λ seat. subst (KeepsJournal seat k.journal)
      (sym (ap (λ (x : Seats). call_at x seat) seats ∙ idle_at n seat)) tt;
  blamed = blamed;
  counted = ap (λ (s : CountsState). length s.counts) searches ∙ length-replicate n unbegun_count
      ∙ sym (ap length seats ∙ length-replicate n None);
}
  where
    entries : entries_of k ≡ 1
    entries =
        let none = ap (sum_by due_at) seats ∙ none_due n in
        let empty = ap length journal in
        let stop = ap due_for_stop stopped in
        omega (arith, none, empty, stop)
