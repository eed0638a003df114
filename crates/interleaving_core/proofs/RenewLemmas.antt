-- What is done with a kernel between calls leaves it whole.
use Rattle.std.proofs.Common.{ℕ, zero, suc, ◌≡◌, ◌+◌, ◌-◌, ◌≤◌, ◌<◌, ◌++◌, refl, sym, ap, ◌∙◌, subst, inl, inr, Bool, true, false, IsSome, List, [], ◌∷◌, Option, Some, None, append-nil, drop, length, slice_get, slice_index_or, slice_set, map, option_map, take, arith}
use Rattle.std.specs.Prelude.{Err, IsErrOf, Result, sum_by}
use Rattle.std.specs.List.{All}
use Rattle.std.specs.Option.{is_some}
use Rattle.std.proofs.Math.ListN.{drop_of_length-le, get_or-map}
use Rattle.std.proofs.Math.Seq.{take-length}
use Rattle.std.proofs.lemmas.Bool.{cases_eq, cases_lt}
use Rattle.std.proofs.lemmas.List.{get_or_past, length-map, set-get_or, set-set}
use Rattle.std.proofs.lemmas.List.Elements.{All-get_or}
use Rattle.std.proofs.lemmas.Option.{get_or_from_slice_get, slice_get-get_or}
use Rattle.buffer_pool.proofs.ImagesLemmas.{count_none}
use Rattle.buffer_pool.proofs.SparedLemmas.{spared_is}
use Rattle.buffer_pool.specs.Pool.{IsCrowded, KeepsImages, KeepsStored, MayNotPin, PoolHasCause, image_of, pins_at}
use Rattle.buffer_pool.specs.declared.fault.PoolFault.TheVariants.{Device, TooFewFrames}
use Rattle.buffer_pool.specs.declared.frame.Frame.{Frame}
use Rattle.page_device.specs.declared.fault.DeviceFault.TheVariants as device
use Rattle.page_device.specs.Sealed.{IsSealed, payload_of}
use Rattle.std.proofs.lemmas.List.Sums.{sum_by-cons}
use Rattle.page_locks.proofs.ChangeLemmas.{with_row-own}
use Rattle.xsi_calls.proofs.RowLemmas.{new_holds_nothing}
use Rattle.xsi_calls.specs.Machine.{IsNew}
use Rattle.interleaving_core.specs.Words.{Call, CallView, Caller, Entry, IsReady, IsSeat, Lock, PoolState, Table, call_locks, caller_at, row_of, spared, with_row}
use Rattle.interleaving_core.specs.Active.{ActiveView}
use Rattle.interleaving_core.specs.Kernel.{IsCallOf, IsWhole, KernelState, call_at, due_at, due_for_stop, locks_of, with_call}
use Rattle.interleaving_core.specs.Past.{HasLooked, KeepsJournal, entry_of}
use Rattle.interleaving_core.specs.Renewing.{FailsToRead, HasNothing, IsBetweenCalls, IsIdleOrWaits, IsNewWhileWaiting, IsRead, MayGiveBack, PoolFault, Withdraws, failure_of_pool, looks_anew, outlasting}
use Rattle.interleaving_core.specs.Waiting.{stays_waiting}
use Rattle.interleaving_core.proofs.KernelLemmas.{its_row, seat_there, slot_here}
use Rattle.interleaving_core.proofs.PlaceLemmas.{Seats, all_due, at_other, at_same, due_with, length-with_call, rows_with, stop_due, with_own, with_place}
use Rattle.interleaving_core.proofs.TurnLemmas.{new_unanswered}

-- ---- a row of locks

-- it is empty where it has no last lock
pub empty_row : (row : List Lock) → slice_get row (length row - 1) ≡ None → row ≡ []
empty_row [] none = refl
empty_row (lock ∷ row) none =
    absurd (some_none (sym (slice_get-get_or (lock ∷ row) (length (lock ∷ row) - 1) lock (omega arith)) ∙ none))
  where
    some_none : {x : Lock} → ◌≡◌ {A = Option Lock} (Some x) None → ⊥
    some_none clash = cc

none_last : (row : List Lock) → row ≡ [] → slice_get row (length row - 1) ≡ None
none_last row is = ap (λ (ls : List Lock). slice_get ls (length ls - 1)) is

-- ---- a call is taken back

-- one that has begun anew has nothing
pub new_has_nothing : (m : CallView) → IsNew m → HasNothing m
new_has_nothing m new = record { free = new_holds_nothing m new; unanswered = new_unanswered m new }

pub none_by : {A : Type 0} (o : Option A) → is_some o ≡ false → o ≡ None
none_by None is = refl
none_by (Some a) is = absurd cc

module _ {K : Type 0} (seat : ℕ) (old : KernelState K) (whole : IsWhole old) (is : IsSeat old.locks seat) where
  within_there : seat ≤ length old.seats
  within_there = seat_there old whole seat is

  -- the seats without its call
  abbrev without : KernelState K
  without = record old { seats = with_call old.seats seat None }

  pub withdrawn_whole : row_of old.locks seat ≡ [] → IsWhole without
  withdrawn_whole free = record {
    ready = whole.ready;
    rows = sym (with_row-own old.locks seat) ∙ ap (with_row old.locks seat) free
        ∙ ap (λ (t : Table). with_row t seat []) whole.rows ∙ rows_with old.seats seat None;
    callers = whole.callers ∙ sym (length-with_call old.seats seat None);
    fitting = whole.fitting;
    calls = λ other. elim (cases_eq other seat) [
      | inl e ↦ subst (λ (n : ℕ). IsCallOf (caller_at old.callers n) (call_at without.seats n)) (sym e)
          (subst (IsCallOf (caller_at old.callers seat)) (sym (at_same old.seats seat None is.0 within_there)) tt)
      | inr ne ↦ subst (IsCallOf (caller_at old.callers other)) (sym (at_other old.seats seat other None ne))
          (whole.calls other)
    ];
    room = let all = due_with old.seats seat None is.0 within_there in let had = whole.room in omega (arith, all, had);
    few = let all = due_with old.seats seat None is.0 within_there in let had = whole.few in omega (arith, all, had);
    past = λ other. elim (cases_eq other seat) [
      | inl e ↦ subst (λ (n : ℕ). KeepsJournal n old.journal (call_at without.seats n)) (sym e)
          (subst (KeepsJournal seat old.journal) (sym (at_same old.seats seat None is.0 within_there)) tt)
      | inr ne ↦ subst (KeepsJournal other old.journal) (sym (at_other old.seats seat other None ne))
          (whole.past other)
    ];
    blamed = whole.blamed;
    counted = whole.counted ∙ sym (length-with_call old.seats seat None);
  }

  -- what the seat gives back, the kernel does
  module _ (free : row_of old.locks seat ≡ []) (slot left : Option ActiveView)
      (at : slot ≡ slice_index_or old.seats (seat - 1) slot) where
    here : slot ≡ call_at old.seats seat
    here = slot_here old.seats seat slot is.0 within_there at

    seats_are : (o : Option ActiveView) → left ≡ o → slice_set old.seats (seat - 1) left ≡ with_call old.seats seat o
    seats_are o left_is = with_place old.seats seat left is.0 ∙ ap (with_call old.seats seat) left_is

    pub back_whole : (back : Option Call) → MayGiveBack back slot left →
        IsWhole (record old { seats = slice_set old.seats (seat - 1) left })
    back_whole None kept =
        subst (λ (x : Seats). IsWhole (record old { seats = x }))
        (sym (seats_are (call_at old.seats seat) (kept.same ∙ here) ∙ with_own old.seats seat)) whole
    back_whole (Some call) back =
        subst (λ (x : Seats). IsWhole (record old { seats = x })) (sym (seats_are None back.none))
        (withdrawn_whole free)

    pub withdraws : (back : Option Call) → MayGiveBack back slot left →
        Withdraws seat back old (record old { seats = slice_set old.seats (seat - 1) left })
    withdraws None kept = record {
      same = ap (λ (x : Seats). record old { seats = x })
          (seats_are (call_at old.seats seat) (kept.same ∙ here) ∙ with_own old.seats seat);
      none = λ a there nothing. kept.answered a (here ∙ there) nothing.unanswered;
    }
    withdraws (Some call) back = record {
      active = back.active;
      there = sym here ∙ back.there;
      nothing = record {
        free = sym (its_row old whole seat ∙ ap locks_of (sym here ∙ back.there)) ∙ free;
        unanswered = back.unanswered;
      };
      call_is = back.call_is;
      is = ap (λ (x : Seats). record old { seats = x }) (seats_are None back.none);
    }

  -- one that waits holds none
  pub waiting_free : (slot : Option ActiveView) → slot ≡ slice_index_or old.seats (seat - 1) slot →
      IsNewWhileWaiting slot → (a : ActiveView) → call_at old.seats seat ≡ Some a → IsSome a.wait →
      HasNothing a.machine
  waiting_free slot at new a there told =
      new_has_nothing a.machine (by slot new (slot_here old.seats seat slot is.0 within_there at ∙ there))
    where
      by : (o : Option ActiveView) → IsNewWhileWaiting o → o ≡ Some a → IsNew a.machine
      by None new is = absurd cc
      by (Some b) new is =
          let same : b ≡ a = cc in
          subst (λ (x : ActiveView). IsSome x.wait → IsNew x.machine) same new told

  -- a seat that holds a lock gives none back
  pub holds_some : is_some (slice_get (row_of old.locks seat) (length (row_of old.locks seat) - 1)) ≡ true →
      Withdraws seat None old old
  holds_some some = record {
    same = refl;
    none = λ a there nothing.
        let empty : row_of old.locks seat ≡ [] =
        its_row old whole seat ∙ ap locks_of there ∙ nothing.free in
        let last = none_last (row_of old.locks seat) empty in
        let clash : true ≡ false = sym some ∙ ap is_some last in
        absurd cc;
  }

-- one that has nothing comes back
pub comes_back : {K : Type 0} (seat : ℕ) (back : Option Call) (old new : KernelState K) → Withdraws seat back old new →
    (a : ActiveView) → call_at old.seats seat ≡ Some a → HasNothing a.machine → back ≡ Some a.machine.call
comes_back seat None old new none a there nothing = absurd (none.none a there nothing)
comes_back seat (Some call) old new went a there nothing =
    ap (λ (c : Call). Some c) (went.call_is ∙ ap (λ (x : ActiveView). x.machine.call) (one (sym went.there ∙ there)))
  where
    one : ◌≡◌ {A = Option ActiveView} (Some went.active) (Some a) → went.active ≡ a
    one same = cc

-- ---- between calls

pub waits_at : (seats : Seats) → All IsIdleOrWaits seats → (seat : ℕ) → IsIdleOrWaits (call_at seats seat)
waits_at seats all zero = tt
waits_at seats all (suc place) = elim (cases_lt place (length seats)) [
  | inl within ↦ All-get_or IsIdleOrWaits seats place None within all
  | inr past ↦ subst IsIdleOrWaits (sym (get_or_past seats place None past)) tt
]

-- ---- the journal is taken out

pub outlast_at : (journal : List Entry) (seats : Seats) (seat : ℕ) →
    call_at (map (option_map (outlasting journal)) seats) seat ≡ option_map (outlasting journal) (call_at seats seat)
outlast_at journal seats zero = refl
outlast_at journal seats (suc place) = get_or-map (option_map (outlasting journal)) seats place None

outlast_rows : (journal : List Entry) (seats : Seats) →
    map locks_of (map (option_map (outlasting journal)) seats) ≡ map locks_of seats
outlast_rows journal [] = refl
outlast_rows journal (None ∷ xs) = ap (λ (t : Table). [] ∷ t) (outlast_rows journal xs)
outlast_rows journal (Some a ∷ xs) = ap (λ (t : Table). call_locks a.machine ∷ t) (outlast_rows journal xs)

outlast_due : (journal : List Entry) (seats : Seats) →
    sum_by due_at (map (option_map (outlasting journal)) seats) ≡ sum_by due_at seats
outlast_due journal [] = refl
outlast_due journal (None ∷ xs) =
    sum_by-cons due_at None (map (option_map (outlasting journal)) xs)
    ∙ ap (λ (n : ℕ). due_at None + n) (outlast_due journal xs) ∙ sym (sum_by-cons due_at None xs)
outlast_due journal (Some a ∷ xs) =
    sum_by-cons due_at (Some (outlasting journal a)) (map (option_map (outlasting journal)) xs)
    ∙ ap (λ (n : ℕ). due_at (Some a) + n) (outlast_due journal xs) ∙ sym (sum_by-cons due_at (Some a) xs)

zero_looked : (b : Bool) (since : ℕ) → looks_anew b ≡ Some since → since ≡ 0
zero_looked true since is = cc
zero_looked false since is = absurd (none_some is)
  where
    none_some : ◌≡◌ {A = Option ℕ} None (Some since) → ⊥
    none_some clash = cc

outlast_keeps : (seat : ℕ) (journal : List Entry) (at : Option ActiveView) → IsIdleOrWaits at →
    KeepsJournal seat [] (option_map (outlasting journal) at)
outlast_keeps seat journal None waits = tt
outlast_keeps seat journal (Some a) waits = record {
  begun = omega arith;
  decided = omega arith;
  joined = sym (ap (entry_of seat (Some a.machine.call)) (new_unanswered a.machine waits.new));
  looked = λ since told. subst (HasLooked [] (outlasting journal a))
      (sym (zero_looked (stays_waiting a.wait a.machine.call journal) since told))
      (record { from = omega arith; within = omega arith; unwoken = refl });
}

outlast_call : (journal : List Entry) (caller : Option Caller) (at : Option ActiveView) → IsCallOf caller at →
    IsCallOf caller (option_map (outlasting journal) at)
outlast_call journal caller None is = tt
outlast_call journal caller (Some a) is = is

-- where there is memory for the entries that are due
renewed_whole : {K : Type 0} (old : KernelState K) (room : ℕ) → IsWhole old → IsBetweenCalls old →
    sum_by due_at old.seats + due_for_stop old.stopped ≤ room →
    IsWhole (record old { seats = map (option_map (outlasting old.journal)) old.seats; journal = []; room = room })
renewed_whole {K} old room whole rest more = record {
  ready = whole.ready;
  rows = whole.rows ∙ sym (outlast_rows old.journal old.seats);
  callers = whole.callers ∙ sym many;
  fitting = whole.fitting;
  calls = λ seat. subst (IsCallOf (caller_at old.callers seat)) (sym (outlast_at old.journal old.seats seat))
      (outlast_call old.journal (caller_at old.callers seat) (call_at old.seats seat) (whole.calls seat));
  room = let same = outlast_due old.journal old.seats in omega (arith, same, more);
  few =
      let same = outlast_due old.journal old.seats in
      let had = whole.few in
      omega (arith, same, had);
  past = λ seat. subst (KeepsJournal seat []) (sym (outlast_at old.journal old.seats seat))
      (outlast_keeps seat old.journal (call_at old.seats seat) (waits_at old.seats rest.seats seat));
  blamed = whole.blamed;
  counted = whole.counted ∙ sym many;
}
  where
    many : length (map (option_map (outlasting old.journal)) old.seats) ≡ length old.seats
    many = length-map old.seats (option_map (outlasting old.journal))

-- the list of seats was lent whole, and came back whole
lent : (goes : Option ActiveView → Option ActiveView) (xs ys zs : Seats) (n : ℕ) → ys ≡ xs → zs ≡ map goes ys →
    n ≡ length xs → take n (zs ++ drop (length zs) xs) ≡ map goes xs
lent goes xs ys zs n same is many =
    let long : length zs ≡ length xs = ap length is ∙ length-map ys goes ∙ ap length same in
    ap (λ (rest : Seats). take n (zs ++ rest)) (drop_of_length-le xs (omega (arith, long)))
    ∙ ap (take n) (append-nil zs) ∙ ap (λ (m : ℕ). take m zs) (many ∙ sym long) ∙ take-length zs ∙ is
    ∙ ap (map goes) same

by_due : {K : Type 0} (old : KernelState K) (es left : List Entry) (ys zs : Seats) (n room : ℕ) → IsWhole old →
    IsBetweenCalls old → es ≡ old.journal → left ≡ [] → ys ≡ old.seats →
    zs ≡ map (option_map (outlasting es)) ys → n ≡ length old.seats →
    sum_by due_at old.seats + due_for_stop old.stopped ≤ room →
    IsWhole (record old { seats = take n (zs ++ drop (length zs) old.seats); journal = left; room = room })
by_due old es left ys zs n room whole rest same none lends is many more =
    subst (λ (left : List Entry). IsWhole (record old {
      seats = take n (zs ++ drop (length zs) old.seats);
      journal = left;
      room = room;
    })) (sym none)
    (subst (λ (x : Seats). IsWhole (record old { seats = x; journal = []; room = room }))
    (sym (lent (option_map (outlasting old.journal)) old.seats ys zs n lends
    (is ∙ ap (λ (js : List Entry). map (option_map (outlasting js)) ys) same) many))
    (renewed_whole old room whole rest more))

-- by an empty journal with room for an entry of each seat, and of a stop
pub renewed_by : {K : Type 0} (old : KernelState K) (es left : List Entry) (ys zs : Seats) (n room : ℕ) →
    IsWhole old → IsBetweenCalls old → es ≡ old.journal → left ≡ [] → ys ≡ old.seats →
    zs ≡ map (option_map (outlasting es)) ys → n ≡ length old.seats → length old.seats + 1 ≤ room →
    IsWhole (record old { seats = take n (zs ++ drop (length zs) old.seats); journal = left; room = room })
renewed_by old es left ys zs n room whole rest same none lends is many more =
    let due = all_due old.seats in
    let stop = stop_due old.stopped in
    by_due old es left ys zs n room whole rest same none lends is many (omega (arith, due, stop, more))

-- or by its own, of which the entries are gone
pub forgotten_by : {K : Type 0} (old : KernelState K) (es left : List Entry) (ys zs : Seats) (n room : ℕ) →
    IsWhole old → IsBetweenCalls old → es ≡ old.journal → left ≡ [] → ys ≡ old.seats →
    zs ≡ map (option_map (outlasting es)) ys → n ≡ length old.seats → old.room ≤ room →
    IsWhole (record old { seats = take n (zs ++ drop (length zs) old.seats); journal = left; room = room })
forgotten_by old es left ys zs n room whole rest same none lends is many more =
    let had = whole.room in
    by_due old es left ys zs n room whole rest same none lends is many (omega (arith, had, more))

-- ---- its pages

-- frames enough, and no page is pinned
pub still_ready : (old new : PoolState) → IsReady old → new.pins ≡ old.pins → new.frames ≡ old.frames → IsReady new
still_ready old new ready pins frames = record {
  rest = λ page. ap (λ (ps : List ℕ). slice_index_or ps page 0) pins ∙ ready.rest page;
  frames = let least = ready.frames in omega (arith, least, frames);
}

pub pool_whole : {K : Type 0} (old : KernelState K) (pool : PoolState) → IsWhole old → pool.pins ≡ old.pool.pins →
    pool.frames ≡ old.pool.frames → IsWhole (record old { pool = pool })
pool_whole old pool whole pins frames = record {
  ready = still_ready old.pool pool whole.ready pins frames;
  rows = whole.rows;
  callers = whole.callers;
  fitting = whole.fitting;
  calls = whole.calls;
  room = whole.room;
  few = whole.few;
  past = whole.past;
  blamed = whole.blamed;
  counted = whole.counted;
}

-- a pin that is given back leaves the pins as they were
pub unpinned : (pins : List ℕ) (page : ℕ) (twice : List ℕ) (now : ℕ) →
    twice ≡ slice_set pins page (slice_index_or pins page 0 + 1) → now ≡ slice_index_or pins page 0 + 1 →
    slice_set twice page (now - 1) ≡ pins
unpinned pins page twice now once pinned =
    let zero_now : now - 1 ≡ slice_index_or pins page 0 = omega (arith, pinned) in
    ap (λ (ps : List ℕ). slice_set ps page (now - 1)) once
    ∙ set-set pins page (slice_index_or pins page 0 + 1) (now - 1)
    ∙ ap (slice_set pins page) zero_now ∙ set-get_or pins page 0

-- a page is pinned, sealed, and its pin given back
module _ {K : Type 0} (old : KernelState K) (whole : IsWhole old) (page frame : ℕ) (held back : PoolState)
    (frame_is : frame ≡ page) (once : pins_at held page ≡ pins_at old.pool page + 1)
    (pins : held.pins ≡ slice_set old.pool.pins page (pins_at old.pool page + 1))
    (keeps : KeepsStored true old.pool held) (later : old.pool.faults ≤ held.faults)
    (back_is : back ≡ record held { pins = slice_set held.pins frame (pins_at held frame - 1) }) where
  same_pins : back.pins ≡ old.pool.pins
  same_pins = ap (λ (p : PoolState). p.pins) back_is
      ∙ ap (λ (n : ℕ). slice_set held.pins n (pins_at held n - 1)) frame_is
      ∙ unpinned old.pool.pins page held.pins (pins_at held page) pins once

  later_back : old.pool.faults ≤ back.faults
  later_back = subst (λ (p : PoolState). old.pool.faults ≤ p.faults) (sym back_is) later

  still : KeepsImages true old.pool (record held { pins = slice_set held.pins frame (pins_at held frame - 1) })
  still = record {
    images = keeps.keeps.images;
    pinned = keeps.keeps.pinned;
    as_many = keeps.keeps.as_many;
    frames = keeps.keeps.frames;
    honest = keeps.keeps.honest;
    seals = keeps.keeps.seals;
  }

  keeps_back : KeepsImages true old.pool back
  keeps_back = subst (KeepsImages true old.pool) (sym back_is) still

  stored_back : spared back ≡ spared old.pool
  stored_back =
      spared_is held back (ap (λ (p : PoolState). p.stored) back_is) (ap (λ (p : PoolState). p.frames) back_is)
      ∙ keeps.stored

  pub read_whole : IsWhole (record old { pool = back })
  read_whole = pool_whole old back whole same_pins keeps_back.frames

  pub page_read : (bytes image : List ℕ) → slice_get held.images frame ≡ Some image → payload_of bytes ≡ image →
      IsSealed page bytes → IsRead page bytes old (record old { pool = back })
  page_read bytes image at payload sealed = record {
    stay = record { is = refl; pins = same_pins; later = later_back; keeps = keeps_back };
    stored = stored_back;
    is = record {
      payload = payload ∙ sym (get_or_from_slice_get held.images frame image [] at)
          ∙ ap (λ (n : ℕ). slice_index_or held.images n []) frame_is
          ∙ sym (ap (λ (p : PoolState). image_of p page) back_is);
      sealed = sealed;
    };
  }

-- or it did not come to a frame: it was there, and there were frames
pub fails_to_read : {K : Type 0} (old new : KernelState K) (page : ℕ) (fault : PoolFault) (held : PoolState) →
    IsWhole old → page < length old.pool.images →
    new ≡ record old { pool = held; failed = true; failure = failure_of_pool fault } → held.pins ≡ old.pool.pins →
    KeepsStored false old.pool held →
    (IsErrOf {T = Frame} (Err fault) (Device device.PastEnd) → length old.pool.images ≤ page) →
    (IsErrOf {T = Frame} (Err fault) TooFewFrames → IsCrowded page old.pool) →
    PoolHasCause {T = Frame} (MayNotPin page old.pool) old.pool.faults held.faults (Err fault) →
    FailsToRead page fault old new
fails_to_read {K} old new page fault held whole within is pins keeps past crowded cause =
    subst (FailsToRead page fault old) (sym is) (record {
      by = record { is = refl; pins = pins; later = cause.later; keeps = keeps.keeps };
      stored = keeps.stored;
      there = λ told. let beyond = past (ap of_frame told) in omega (arith, beyond, within);
      room = λ told.
          let all = (crowded (ap of_frame told)).all_pinned in
          let none = count_none old.pool.pins whole.ready.rest in
          let least = whole.ready.frames in
          omega (arith, all, none, least);
      told = cause.told;
      failed = λ told. cause.failed (ap of_frame told);
    })
  where
    of_frame : PoolFault → Result Frame PoolFault
    of_frame fault = Err fault
