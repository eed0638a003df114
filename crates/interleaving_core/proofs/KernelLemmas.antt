-- A step of a seat leaves a kernel whole, and tells that seat what the journal says.
use Rattle.std.proofs.Common.{◌≡◌, refl, sym, ap, ◌∙◌, subst, ℕ, ◌+◌, ◌-◌, ◌≤◌, Bool, false, ◌||◌, IsSome, inl, inr, List, ◌++◌, Option, Some, None, drop, length, map, slice_set, slice_index_or, append-nil, length-append, arith}
use Rattle.std.specs.Prelude.{sum_by}
use Rattle.std.proofs.lemmas.Bool.{cases_eq}
use Rattle.std.proofs.lemmas.List.{get_or_read, length-map}
use Rattle.file_pages.specs.Fault.{FileHasCause}
use Rattle.file_pages.specs.declared.fault.FileFault.{FileFault}
use Rattle.interleaving_core.specs.Counting.{CountsState, IsCountedSeat}
use Rattle.interleaving_core.specs.Words.{Caller, Entry, IsSeat, PoolState, RecordKey, Table, caller_at, row_of, with_row}
use Rattle.interleaving_core.specs.Active.{ActiveView}
use Rattle.interleaving_core.specs.Kernel.{AreFittingCallers, IsCallOf, IsWhole, KernelState, call_at, due_at, due_for_stop, entries_of, locks_of, with_call}
use Rattle.interleaving_core.specs.Owing.{IsRun, IsTurn, answer_told, failure_by, is_failure, lapsed, told}
use Rattle.interleaving_core.specs.Past.{IsOfJournal, KeepsJournal, call_of, untold}
use Rattle.interleaving_core.specs.declared.fault.Failure.{Failure}
use Rattle.interleaving_core.specs.declared.fault.StepFault.TheVariants as faults
use Rattle.queue_model.specs.Journal.{part_of}
use Rattle.std.specs.Option.{is_some}
use Rattle.interleaving_core.specs.Searches.{Counts, CountsFrom, ends_on}
use Rattle.interleaving_core.specs.Turn.{TakesTurn, Turns}
use Rattle.interleaving_core.specs.declared.step.Step.{Step}
use Rattle.interleaving_core.specs.declared.step.Step.TheVariants as steps
use Rattle.interleaving_core.proofs.TurnLemmas.{Does}
use Rattle.interleaving_core.proofs.AnewLemmas.{turn_does, turn_looked}
use Rattle.interleaving_core.proofs.FailureLemmas.{blamed_by, none_blamed, turn_cause}
use Rattle.interleaving_core.proofs.PartLemmas.{part_other, part_own}
use Rattle.interleaving_core.proofs.PastLemmas.{kept_beside, part_since, unwoken_whole}
use Rattle.interleaving_core.proofs.PlaceLemmas.{Seats, at_other, at_place, at_same, due_with, length-with_call, row_at, rows_with, with_own, with_place}

-- ---- a whole kernel

module _ {K : Type 0} (s : KernelState K) (whole : IsWhole s) where
  pub as_many : length s.locks ≡ length s.seats
  as_many = ap length whole.rows ∙ length-map s.seats locks_of

  pub its_row : (seat : ℕ) → row_of s.locks seat ≡ locks_of (call_at s.seats seat)
  its_row seat = ap (λ (t : Table). row_of t seat) whole.rows ∙ row_at s.seats seat

  -- it has a place in the list
  pub seat_there : (seat : ℕ) → IsSeat s.locks seat → seat ≤ length s.seats
  seat_there seat is = let many = as_many in let last = is.1 in omega (arith, last, many)

  -- its searches are counted
  pub is_counted : (seat : ℕ) → IsSeat s.locks seat → IsCountedSeat s.searches.counts seat
  is_counted seat is =
      let many = as_many in
      let last = is.1 in
      let counted = whole.counted in
      (is.0, omega (arith, last, many, counted))

-- ---- a seat without a call changes nothing

same_state : {K : Type 0} (old new : KernelState K) → new.keys ≡ old.keys → new.pool ≡ old.pool →
    new.locks ≡ old.locks → new.callers ≡ old.callers → new.seats ≡ old.seats → new.journal ≡ old.journal →
    new.room ≡ old.room → new.stopped ≡ old.stopped → new.failed ≡ old.failed → new.failure ≡ old.failure →
    new.searches ≡ old.searches → new ≡ old
same_state {K} old new keys pool locks callers seats journal room stopped failed failure searches =
    ap (λ (x : K). record new { keys = x }) keys
    ∙ ap (λ (x : PoolState). record new { keys = old.keys; pool = x }) pool
    ∙ ap (λ (x : Table). record new { keys = old.keys; pool = old.pool; locks = x }) locks
    ∙ ap (λ (x : List Caller). record old {
      callers = x;
      seats = new.seats;
      journal = new.journal;
      room = new.room;
      stopped = new.stopped;
      failed = new.failed;
      failure = new.failure;
      searches = new.searches;
    }) callers
    ∙ ap (λ (x : Seats). record old {
      seats = x;
      journal = new.journal;
      room = new.room;
      stopped = new.stopped;
      failed = new.failed;
      failure = new.failure;
      searches = new.searches;
    }) seats
    ∙ ap (λ (x : List Entry). record old {
      journal = x;
      room = new.room;
      stopped = new.stopped;
      failed = new.failed;
      failure = new.failure;
      searches = new.searches;
    }) journal
    ∙ ap (λ (x : ℕ). record old {
      room = x;
      stopped = new.stopped;
      failed = new.failed;
      failure = new.failure;
      searches = new.searches;
    }) room
    ∙ ap (λ (x : Bool). record old {
      stopped = x;
      failed = new.failed;
      failure = new.failure;
      searches = new.searches;
    }) stopped
    ∙ ap (λ (x : Bool). record old { failed = x; failure = new.failure; searches = new.searches }) failed
    ∙ ap (λ (x : Option Failure). record old { failure = x; searches = new.searches }) failure
    ∙ ap (λ (x : CountsState). record old { searches = x }) searches

spares_by : {K : Type 0} (hash : RecordKey → ℕ) (seat : ℕ) (did : Step) (at left : Option ActiveView)
    (old new : KernelState K) → call_at old.seats seat ≡ at → at ≡ None →
    Turns hash seat old.stopped did at left old.pool new.pool old.locks new.locks old.journal new.journal →
    new.seats ≡ with_call old.seats seat left → new.keys ≡ old.keys → new.callers ≡ old.callers →
    new.stopped ≡ old.stopped → new.room ≡ old.room → old.failed ≡ false → old.failure ≡ None →
    new.failed ≡ is_failure did → new.failure ≡ failure_by seat did None → Counts seat did old new → new ≡ old
spares_by hash seat did None left old new is none t seats keys callers stopped room sound spared failed failure
    counts =
    same_state old new keys t.same_pool t.same_locks callers
    (seats ∙ ap (with_call old.seats seat) (t.left_is ∙ sym is) ∙ with_own old.seats seat) t.same_journal room stopped
    (failed ∙ ap is_failure t.told_is ∙ sym sound)
    (failure ∙ ap (λ (d : Step). failure_by seat d None) t.told_is ∙ sym spared)
    (subst (λ (d : Step). Counts seat d old new) t.told_is counts)
spares_by hash seat did (Some a) left old new is none t seats keys callers stopped room sound spared failed failure
    counts =
    absurd cc

-- ---- what is counted

-- as many searches as seats
same_many : {K : Type 0} (seat : ℕ) (did : Step) (old new : KernelState K) → Counts seat did old new →
    length new.searches.counts ≡ length old.searches.counts
same_many seat (steps.Moved kind) old new counts = counts.as_many
same_many seat (steps.Blocked other) old new counts = ap (λ (s : CountsState). length s.counts) counts
same_many seat steps.Waiting old new counts = ap (λ (s : CountsState). length s.counts) counts
same_many seat (steps.Answered answer) old new counts = ap (λ (s : CountsState). length s.counts) counts
same_many seat steps.Idle old new counts = ap (λ (s : CountsState). length s.counts) counts
same_many seat (steps.Fault fault) old new counts = ap (λ (s : CountsState). length s.counts) counts

-- from the page on which its row ended, with the call that is left
pub counts_by : {K : Type 0} (seat : ℕ) (did : Step) (old new : KernelState K) (before : ℕ)
    (left : Option ActiveView) → before ≡ ends_on (row_of old.locks seat) → call_at new.seats seat ≡ left →
    CountsFrom seat did before left new.locks old.searches new.searches → Counts seat did old new
counts_by seat did old new before left is there counts =
    by did (subst (λ (a : Option ActiveView). CountsFrom seat did (ends_on (row_of old.locks seat)) a new.locks
    old.searches new.searches) (sym there)
    (subst (λ (n : ℕ). CountsFrom seat did n left new.locks old.searches new.searches) is counts))
  where
    by : (d : Step) →
        CountsFrom seat d (ends_on (row_of old.locks seat)) (call_at new.seats seat) new.locks old.searches
        new.searches → Counts seat d old new
    by (steps.Moved kind) counts = counts
    by (steps.Blocked other) counts = counts
    by steps.Waiting counts = counts
    by (steps.Answered answer) counts = counts
    by steps.Idle counts = counts
    by (steps.Fault fault) counts = counts

-- ---- a step leaves it whole

module _ {K : Type 0} (seat : ℕ) (did : Step) (left : Option ActiveView) (old new : KernelState K)
    (whole : IsWhole old) (is : IsSeat old.locks seat)
    (does : Does seat did (call_at old.seats seat) left old.pool new.pool old.locks new.locks old.journal new.journal)
    (seats : new.seats ≡ with_call old.seats seat left) (keys : new.keys ≡ old.keys)
    (callers : new.callers ≡ old.callers) (stopped : new.stopped ≡ old.stopped) (counts : Counts seat did old new)
    (blamed : new.failed ≡ is_some new.failure)
  where
    many : length old.locks ≡ length old.seats
    many = as_many old whole

    within : seat ≤ length old.seats
    within = omega (arith, is.1, many)

    pub same_here : call_at new.seats seat ≡ left
    same_here = ap (λ (x : Seats). call_at x seat) seats ∙ at_same old.seats seat left is.0 within

    row : new.locks ≡ with_row old.locks seat (locks_of left)
    row = does.row (its_row old whole seat)

    entries : lapsed did + entries_of new ≡ entries_of old
    entries =
        let sums = ap (sum_by due_at) seats in
        let all = due_with old.seats seat left is.0 within in
        let grown = ap length does.grows ∙ length-append old.journal does.added in
        let stops = ap due_for_stop stopped in
        let due = does.due in
        omega (arith, sums, all, grown, stops, due)

    calls : (other : ℕ) → IsCallOf (caller_at new.callers other) (call_at new.seats other)
    calls other = subst (λ (cs : List Caller). IsCallOf (caller_at cs other) (call_at new.seats other)) (sym callers)
        (elim (cases_eq other seat) [
          | inl e ↦ subst (λ (n : ℕ). IsCallOf (caller_at old.callers n) (call_at new.seats n)) (sym e)
              (subst (IsCallOf (caller_at old.callers seat)) (sym same_here)
              (does.caller (caller_at old.callers seat) (whole.calls seat)))
          | inr ne ↦ subst (IsCallOf (caller_at old.callers other))
              (sym (ap (λ (x : Seats). call_at x other) seats ∙ at_other old.seats seat other left ne))
              (whole.calls other)
        ])

    -- what each call keeps of the journal
    past : (other : ℕ) → KeepsJournal other new.journal (call_at new.seats other)
    past other = elim (cases_eq other seat) [
      | inl e ↦ subst (λ (n : ℕ). KeepsJournal n new.journal (call_at new.seats n)) (sym e)
          (subst (KeepsJournal seat new.journal) (sym same_here) (does.past (whole.past seat)))
      | inr ne ↦ subst (KeepsJournal other new.journal)
          (sym (ap (λ (x : Seats). call_at x other) seats ∙ at_other old.seats seat other left ne))
          (subst (λ (es : List Entry). KeepsJournal other es (call_at old.seats other)) (sym does.grows)
          (kept_beside other old.journal does.added (call_at old.seats other)
          (part_other other seat does.added (λ is. ne (sym is)) does.of_seat) (whole.past other)))
    ]

    pub whole_behind : old.room ≤ new.room → IsWhole new
    whole_behind more = record {
      ready = does.ready whole.ready;
      rows = row ∙ ap (λ (t : Table). with_row t seat (locks_of left)) whole.rows ∙ rows_with old.seats seat left
          ∙ sym (ap (map locks_of) seats);
      callers = ap length callers ∙ whole.callers
          ∙ sym (ap length seats ∙ length-with_call old.seats seat left);
      fitting = subst AreFittingCallers (sym callers) whole.fitting;
      calls = calls;
      room = let same = entries in let had = whole.room in omega (arith, same, had, more);
      few = let same = entries in let had = whole.few in omega (arith, same, had);
      past = past;
      blamed = blamed;
      counted = same_many seat did old new counts ∙ whole.counted
          ∙ sym (ap length seats ∙ length-with_call old.seats seat left);
    }

    pub run : IsRun seat (answer_told did) old new
    run = record {
      seats = seats ∙ sym (ap (with_call old.seats seat) same_here);
      locks = row ∙ sym (ap (λ (x : Option ActiveView). with_row old.locks seat (locks_of x)) same_here);
      call = subst (λ (x : Option ActiveView). IsSome (call_of x) → call_of x ≡ call_of (call_at old.seats seat))
          (sym same_here) does.call;
      added = does.added;
      journal = does.grows;
      owed = does.owed
          ∙ sym (ap (λ (x : Option ActiveView). told seat (call_at old.seats seat) (answer_told did) ++ untold seat x)
          same_here);
      rest = record {
        keys = keys;
        callers = callers;
        stopped = stopped;
        honest = does.honest;
        later = does.later;
        stored = does.stored;
        pages = does.pages;
      };
    }

    -- of what joined the journal since its call began, its part is what it is told now, or is owed
    joins : (at : Option ActiveView) → call_at old.seats seat ≡ at → (a : ActiveView) → at ≡ Some a →
        part_of seat (drop a.begun new.journal)
        ≡ told seat (Some a) (answer_told did) ++ untold seat (call_at new.seats seat)
    joins None there a is = absurd (none_some is)
      where
        none_some : ◌≡◌ {A = Option ActiveView} None (Some a) → ⊥
        none_some clash = cc
    joins (Some x) there a is =
        let here : call_at old.seats seat ≡ Some a = there ∙ is in
        let kept : IsOfJournal seat old.journal a = subst (KeepsJournal seat old.journal) here (whole.past seat) in
        ap (λ (es : List Entry). part_of seat (drop a.begun es)) does.grows
        ∙ part_since seat a.begun old.journal does.added kept.begun
        ∙ ap (λ (es : List Entry). es ++ part_of seat does.added) kept.joined
        ∙ ap (λ (es : List Entry). untold seat (Some a) ++ es) (part_own seat does.added does.of_seat)
        ∙ ap (λ (o : Option ActiveView). untold seat o ++ does.added) (sym here) ∙ does.owed
        ∙ ap (λ (o : Option ActiveView). told seat o (answer_told did) ++ untold seat left) here
        ∙ sym (ap (λ (o : Option ActiveView). told seat (Some a) (answer_told did) ++ untold seat o) same_here)

    pub turn_behind : (call_at old.seats seat ≡ None → new ≡ old) → old.failed ≡ false →
        new.failure ≡ failure_by seat did None → (did ≡ steps.Waiting →
        (b : ActiveView) × (left ≡ Some b) × (b.wait ≡ Some (length new.journal))) → ((fault : FileFault) →
        did ≡ steps.Fault (faults.File fault) → FileHasCause old.pool new.pool fault) →
        IsTurn seat did old new
    turn_behind spares sound failure looked cause = record {
      run = run;
      idle = does.idle;
      spares = spares;
      over = λ ends. same_here ∙ does.over ends;
      goes = λ goes. ap call_of same_here ∙ does.goes goes;
      waits = λ told.
          let (b, left_is, told_all) = looked told in
          let there : call_at new.seats seat ≡ Some b = same_here ∙ left_is in
          record {
            active = b;
            there = there;
            looked = told_all;
            unwoken = unwoken_whole seat new.journal b (subst (KeepsJournal seat new.journal) there (past seat))
                told_all;
          };
      decides = λ other. does.grows ∙ ap (λ (es : List Entry). old.journal ++ es) (does.decides other)
          ∙ append-nil old.journal;
      entries = entries;
      joins = joins (call_at old.seats seat) refl;
      page = λ fault told. (cause fault told).page;
      cause = cause;
      failed = blamed ∙ ap is_some failure ∙ blamed_by seat did ∙ sym (ap (λ (b : Bool). b || is_failure did) sound);
      failure = failure ∙ sym (ap (failure_by seat did) (none_blamed old whole sound));
      fails = λ broken. absurd cc;
      still = λ broken. absurd cc;
      counts = counts;
    }

-- ---- a step of the machine of its call

pub record MakesStep {K : Type 0} (of : K → RecordKey → ℕ) (seat : ℕ) (did : Step) (old new : KernelState K)
    : Type 0 where
  pub whole : IsWhole new
  pub turn : IsTurn seat did old new
  pub makes : (a : ActiveView) → call_at old.seats seat ≡ Some a → old.failed ≡ false →
      TakesTurn (of old.keys) seat old.stopped did a (call_at new.seats seat) old.pool new.pool old.locks new.locks
      old.journal new.journal

-- the seat's place in the list
pub slot_here : (seats : Seats) (seat : ℕ) (slot : Option ActiveView) → 1 ≤ seat → seat ≤ length seats →
    slot ≡ slice_index_or seats (seat - 1) slot → slot ≡ call_at seats seat
slot_here seats seat slot some within is =
    get_or_read seats (seat - 1) slot (omega (arith, some, within)) is None ∙ at_place seats seat some

pub makes_step : {K : Type 0} (of : K → RecordKey → ℕ) (seat : ℕ) (did : Step) (slot left : Option ActiveView)
    (old new now : KernelState K) → old ≡ now → IsWhole old → IsSeat now.locks seat →
    slot ≡ slice_index_or old.seats (seat - 1) slot →
    Turns (of old.keys) seat old.stopped did slot left old.pool new.pool old.locks new.locks old.journal new.journal →
    new.seats ≡ slice_set old.seats (seat - 1) left → new.keys ≡ old.keys → new.callers ≡ old.callers →
    new.stopped ≡ old.stopped → old.room ≤ new.room → (slot ≡ None → new.room ≡ old.room) → old.failed ≡ false →
    new.failed ≡ is_some new.failure → new.failure ≡ failure_by seat did None → Counts seat did old new →
    MakesStep of seat did now new
makes_step of seat did slot left old new now view whole seated at turns seats keys callers stopped room spare sound
    blamed failure counts =
    subst (λ (k : KernelState _). MakesStep of seat did k new) view record {
      whole = whole_behind seat did left old new whole is does seats_are keys callers stopped counts blamed room;
      turn = turn_behind seat did left old new whole is does seats_are keys callers stopped counts blamed spares sound
          failure (turn_looked (of old.keys) seat old.stopped did (call_at old.seats seat) left old.pool new.pool
          old.locks new.locks old.journal new.journal here)
          (λ fault told. turn_cause (of old.keys) seat old.stopped did fault told (call_at old.seats seat) left old.pool
          new.pool old.locks new.locks old.journal new.journal here);
      makes = λ a at_a fine. subst (λ (x : Option ActiveView). Turns (of old.keys) seat old.stopped did (Some a) x
          old.pool new.pool old.locks new.locks old.journal new.journal) (sym left_is)
          (subst (λ (x : Option ActiveView). Turns (of old.keys) seat old.stopped did x left old.pool new.pool
          old.locks new.locks old.journal new.journal) at_a here);
    }
  where
    is : IsSeat old.locks seat
    is = subst (λ (k : KernelState _). IsSeat k.locks seat) (sym view) seated

    within : seat ≤ length old.seats
    within = let many = as_many old whole in let last = is.1 in omega (arith, last, many)

    seats_are : new.seats ≡ with_call old.seats seat left
    seats_are = seats ∙ with_place old.seats seat left is.0

    slot_is : slot ≡ call_at old.seats seat
    slot_is = slot_here old.seats seat slot is.0 within at

    left_is : call_at new.seats seat ≡ left
    left_is = ap (λ (x : Seats). call_at x seat) seats_are ∙ at_same old.seats seat left is.0 within

    here : Turns (of old.keys) seat old.stopped did (call_at old.seats seat) left old.pool new.pool old.locks new.locks
        old.journal new.journal
    here = subst (λ (x : Option ActiveView). Turns (of old.keys) seat old.stopped did x left old.pool new.pool
        old.locks new.locks old.journal new.journal) slot_is turns

    spares : call_at old.seats seat ≡ None → new ≡ old
    spares none = spares_by (of old.keys) seat did (call_at old.seats seat) left old new refl none here seats_are keys
        callers stopped (spare (slot_is ∙ none)) sound (none_blamed old whole sound)
        (blamed ∙ ap is_some failure ∙ blamed_by seat did) failure counts

    does : Does seat did (call_at old.seats seat) left old.pool new.pool old.locks new.locks old.journal new.journal
    does = turn_does (of old.keys) seat old.stopped did (call_at old.seats seat) left old.pool new.pool old.locks
        new.locks old.journal new.journal here
