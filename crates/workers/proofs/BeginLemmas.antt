-- A call begins, or is refused, as the pass of its kernel and those of seats know it.
use Rattle.std.proofs.Common.{◌≡◌, ◌≢◌, ◌≤◌, ℕ, suc, ◌+◌, ◌-◌, Bool, true, false, List, [], ◌++◌, length, Option, Some, None, refl, sym, ap, ◌∙◌, subst, arith, append-nil}
use Rattle.interleaving_core.proofs.PlaceLemmas.{all_due, at_other, at_same, length-with_call}
use Rattle.interleaving_core.proofs.TurnLemmas.{new_unanswered}
use Rattle.interleaving_core.specs.Beginning.{IsFull}
use Rattle.interleaving_core.specs.Kernel.{due_for_stop}
use Rattle.interleaving_core.specs.declared.kernel.TheConstants.{MAX_DECIDED}
use Rattle.interleavings.specs.Laws.{BeginsRefine, RefusalsRefine}
use Rattle.interleavings.proofs.InsertLemmas.{begin_inserting}
use Rattle.interleavings.specs.Inserting.{AreInserting}
use Rattle.interleavings.specs.Moments.{once_if}
use Rattle.workers.proofs.DeviceLemmas.{device_same}
use Rattle.workers.proofs.EntryLemmas.{calls_and_stops}
use Rattle.workers.proofs.HeldLemmas.{carried, nothing_told, place_is, stays_below, told_none}
use Rattle.workers.specs.Rule.{IsChange, IsRight, moved}
use Rattle.workers.specs.Views.{calls_in, no_place, part_of, place_at}
use Rattle.workers.specs.Entries.{seat_of}
use Rattle.workers.specs.Held.{IsHeld, IsKept, known_of, place_of}
use Rattle.workers.specs.Origins.{Origin}
use Rattle.workers.specs.Told.{HasBegun, IsTurnedAway, Rests, Sitter}
use Rattle.workers.specs.Words.{ActiveView, BeginFault, Call, Desk, Entry, HasCall, IsRefused, IsSeat, KernelState, Place, RecordKey, call_at, call_of, entry_of, told, with_call}
use Rattle.workers.specs.declared.fault.Fault.{Fault}
use Rattle.workers.specs.declared.fault.Fault.TheVariants as faults

module _ {K : Type 0} (seat : ℕ) (call : Call) (old new : KernelState K)
    (h : HasCall seat call old new) (begun : 1 ≤ seat) (within : seat ≤ length old.seats) where
  seats_begun : new.seats ≡ with_call old.seats seat (Some h.active)
  seats_begun = ap (λ (k : KernelState K). k.seats) h.is

  call_begun : call_at new.seats seat ≡ Some h.active
  call_begun = ap (λ (l : List (Option ActiveView)). call_at l seat) seats_begun
      ∙ at_same old.seats seat (Some h.active) begun within

  change_by_begin : IsChange seat_of seat [] (known_of old) (known_of new)
  change_by_begin = record {
    added = [];
    journal = ap (λ (k : KernelState K). k.journal) h.is ∙ sym (append-nil old.journal);
    own = refl;
    others = λ other apart. refl;
    owed = append-nil (place_at (known_of old).places seat).owed
        ∙ ap (λ (p : Place Entry Call). p.owed) (place_is old.seats seat ∙ ap (place_of seat) h.may.free)
        ∙ sym (ap (λ (p : Place Entry Call). p.owed) (place_is new.seats seat ∙ ap (place_of seat) call_begun)
        ∙ ap (entry_of seat (Some h.active.machine.call))
        (new_unanswered h.active.machine h.begun.begins.new));
    places = λ other apart. place_is new.seats other
        ∙ ap (place_of other) (ap (λ (l : List (Option ActiveView)). call_at l other) seats_begun
        ∙ at_other old.seats seat other (Some h.active) apart)
        ∙ sym (place_is old.seats other);
    failed = λ e. ap (λ (k : KernelState K). k.failed) h.is ∙ e;
    dealt = ap (λ (l : List (Option ActiveView)). suc (length l)) seats_begun
        ∙ ap suc (length-with_call old.seats seat (Some h.active));
  }

  begun_by : (x : Sitter) (told : List Entry) → x.seat ≡ seat → told ≡ [] → IsRight seat_of (known_of old) x →
      HasBegun call x (moved seat_of (known_of new) told x)
  begun_by x told at none right = record {
    same = record {
      seat = refl;
      failed = λ e. ap (λ (k : KernelState K). k.failed) h.is ∙ right.failed e;
      seen = stays_below x.seen (calls_in seat_of old.journal) (calls_in seat_of new.journal) right.seen
          (sym (ap (λ (k : KernelState K). calls_in seat_of k.journal) h.is));
    };
    list = ap (λ (l : List Entry). x.list ++ l) none ∙ append-nil x.list;
    under_way = ap (λ (p : Place Entry Call). p.call)
        (ap (place_at (known_of new).places) at ∙ place_is new.seats seat
        ∙ ap (place_of seat) call_begun)
        ∙ ap (λ (c : Call). Some c) h.begun.begins.call_is;
  }

  pub begun_at_desk : (at : ℕ) (d : Desk Entry Call) → d ≡ known_of old → at ≡ seat →
      IsChange seat_of at (entry_of at (place_at d.places at).call None) d (known_of new)
  begun_at_desk at d known same =
      nothing_told seat d (known_of old) (known_of new) change_by_begin at known same

  pub has_begun : (d : Desk Entry Call) (x y : Sitter) → d ≡ known_of old → x.seat ≡ seat → IsRight seat_of d x →
      y ≡ moved seat_of (known_of new) (entry_of x.seat (place_at d.places x.seat).call None) x →
      HasBegun call x y
  has_begun d x y known at right now =
      subst (HasBegun call x) (sym now)
      (begun_by x (entry_of x.seat (place_at d.places x.seat).call None) at
      (told_none x.seat (place_at d.places x.seat).call)
      (subst (λ (b : Desk Entry Call). IsRight seat_of b x) known right))

  pub counted_at_begin : (count : ℕ) → count ≡ calls_in seat_of old.journal →
      count ≡ calls_in seat_of new.journal
  counted_at_begin count counted =
      counted ∙ sym (ap (λ (k : KernelState K). calls_in seat_of k.journal) h.is)

  pub kept_at_begin : (of_key : K → RecordKey → ℕ) (o : Origin) (d d' : Desk Entry Call) (count : ℕ) →
      BeginsRefine K → IsSeat old.locks seat → IsKept of_key o old d count →
      d' ≡ known_of new → IsKept of_key o new d' count
  kept_at_begin of_key o d d' count leads is kept known =
      let held = kept.held in record {
        held = record {
          led = λ honest. carried o.hash o.content old new (held.led honest)
              (λ base was. leads o.hash base seat call old new is was h);
          hash = ap (λ (k : KernelState K). of_key k.keys) h.is ∙ held.hash;
          honest = ap (λ (k : KernelState K). k.pool.honest) h.is ∙ held.honest;
          callers = ap (λ (k : KernelState K). k.callers) h.is ∙ held.callers;
          rows = ap (λ (k : KernelState K). length k.locks) h.is ∙ held.rows;
          seats = ap length seats_begun ∙ length-with_call old.seats seat (Some h.active) ∙ held.seats;
          known = known;
          counted = counted_at_begin count held.counted;
          marked = ap (λ (k : KernelState K). length (part_of seat_of 0 k.journal)) h.is ∙ held.marked
              ∙ sym (ap (λ (k : KernelState K). once_if k.stopped) h.is);
        };
        device = device_same o old new kept.device (ap (λ (k : KernelState K). k.pool) h.is)
            (ap (λ (k : KernelState K). k.failed) h.is);
        rooms = λ honest. begin_inserting o.hash (held.led honest).base seat call old new (begun, within) h
            (kept.rooms honest);
      }

-- ---- or is refused

module _ {K : Type 0} (seat : ℕ) (call : Call) (refusal : Call × BeginFault) (old new : KernelState K)
    (refused : IsRefused seat call refusal old new) where
  -- nothing is known of a kernel but what was known
  pub known_at_refusal : known_of new ≡ known_of old
  known_at_refusal = ap (λ (k : KernelState K). known_of k) refused.same

  pub counted_at_refusal : (count : ℕ) → count ≡ calls_in seat_of old.journal → count ≡ calls_in seat_of new.journal
  counted_at_refusal count counted =
      counted ∙ sym (ap (λ (k : KernelState K). calls_in seat_of k.journal) refused.same)

  pub kept_at_refusal : (of_key : K → RecordKey → ℕ) (o : Origin) (d d' : Desk Entry Call) (count : ℕ) →
      RefusalsRefine K → IsKept of_key o old d count → d' ≡ known_of new → IsKept of_key o new d' count
  kept_at_refusal of_key o d d' count leads kept known =
      let h = kept.held in record {
        held = record {
          led = λ honest. carried o.hash o.content old new (h.led honest)
              (λ base was. leads o.hash base seat call refusal old new was refused);
          hash = ap (λ (k : KernelState K). of_key k.keys) refused.same ∙ h.hash;
          honest = ap (λ (k : KernelState K). k.pool.honest) refused.same ∙ h.honest;
          callers = ap (λ (k : KernelState K). k.callers) refused.same ∙ h.callers;
          rows = ap (λ (k : KernelState K). length k.locks) refused.same ∙ h.rows;
          seats = ap (λ (k : KernelState K). length k.seats) refused.same ∙ h.seats;
          known = known;
          counted = counted_at_refusal count h.counted;
          marked = ap (λ (k : KernelState K). length (part_of seat_of 0 k.journal)) refused.same ∙ h.marked
              ∙ sym (ap (λ (k : KernelState K). once_if k.stopped) refused.same);
        };
        device = device_same o old new kept.device (ap (λ (k : KernelState K). k.pool) refused.same)
            (ap (λ (k : KernelState K). k.failed) refused.same);
        rooms = λ honest. subst (AreInserting (h.led honest).base) (sym refused.same) (kept.rooms honest);
      }

  change_by_refusal : IsChange seat_of seat [] (known_of old) (known_of new)
  change_by_refusal = subst (λ (d : Desk Entry Call). IsChange seat_of seat [] (known_of old) d) (sym known_at_refusal)
      record {
        added = [];
        journal = sym (append-nil old.journal);
        own = refl;
        others = λ other apart. refl;
        owed = append-nil (place_at (known_of old).places seat).owed;
        places = λ other apart. refl;
        failed = λ e. e;
        dealt = refl;
      }

  pub refused_at_desk : (at : ℕ) (d : Desk Entry Call) → d ≡ known_of old → at ≡ seat →
      IsChange seat_of at (entry_of at (place_at d.places at).call None) d (known_of new)
  refused_at_desk at d known same =
      nothing_told seat d (known_of old) (known_of new) change_by_refusal at known same

  -- its seat is shown why
  pub is_turned_away : (many : ℕ) (fault : Fault) (d : Desk Entry Call) (x y : Sitter) →
      (fault ≡ faults.Failed → old.failed ≡ true) →
      (fault ≡ faults.SessionFull → MAX_DECIDED ≤ calls_in seat_of old.journal + many) →
      (fault ≡ faults.NoRoom → ⊥) → d ≡ known_of old →
      IsRight seat_of d x →
      y ≡ moved seat_of (known_of new) (entry_of x.seat (place_at d.places x.seat).call None) x →
      IsTurnedAway many fault x y
  is_turned_away many fault d x y broken full early known right now =
      let before : IsRight seat_of (known_of old) x = subst (λ (b : Desk Entry Call). IsRight seat_of b x) known right
      in
      let failed : new.failed ≡ old.failed = ap (λ (k : KernelState K). k.failed) refused.same in
      let calls : calls_in seat_of old.journal ≡ calls_in seat_of new.journal =
      counted_at_refusal (calls_in seat_of old.journal) refl in
      subst (IsTurnedAway many fault x) (sym now) record {
        same = record {
          seat = refl;
          failed = λ e. failed ∙ before.failed e;
          seen = stays_below x.seen (calls_in seat_of old.journal) (calls_in seat_of new.journal) before.seen calls;
        };
        list = ap (λ (l : List Entry). x.list ++ l) (told_none x.seat (place_at d.places x.seat).call)
            ∙ append-nil x.list;
        place = ap (λ (e : Desk Entry Call). place_at e.places x.seat) (known_at_refusal ∙ sym known) ∙ right.place;
        failed = λ is. failed ∙ broken is;
        full = λ is. subst (λ (n : ℕ). MAX_DECIDED ≤ n + many) calls (full is);
        early = early;
      }

one_for_stop : (stopped : Bool) → due_for_stop stopped + once_if stopped ≡ 1
one_for_stop true = refl
one_for_stop false = refl

-- a session is full where its calls, and one at each seat, are as many as it may decide
pub full_by : {K : Type 0} (of_key : K → RecordKey → ℕ) (o : Origin) (k : KernelState K) (d : Desk Entry Call)
    (count : ℕ) → IsHeld of_key o k d count → IsFull k →
    MAX_DECIDED ≤ calls_in seat_of k.journal + length o.callers
full_by of_key o k d count h full =
    let due = all_due k.seats in
    let seats = h.seats in
    let parts = calls_and_stops k.journal in
    let marked = h.marked in
    let one = one_for_stop k.stopped in
    omega (arith, full, due, seats, parts, marked, one)

no_call : (at : Option ActiveView) → call_of at ≡ None → at ≡ None
no_call None is = refl
no_call (Some a) is = absurd cc

case_bool : {P : Type 0} (b : Bool) → (b ≡ true → P) → (b ≡ false → P) → P
case_bool true on off = on refl
case_bool false on off = off refl

-- a seat that rests is never busy
pub never_busy : {K : Type 0} (of_key : K → RecordKey → ℕ) (o : Origin) (seat : ℕ) (old : KernelState K)
    (d : Desk Entry Call) (count : ℕ) (x : Sitter) → IsHeld of_key o old d count → IsRight seat_of d x →
    x.seat ≡ seat → Rests x → old.failed ≡ false → call_at old.seats seat ≢ None → ⊥
never_busy {K} of_key o seat old d count x h right at rests sound busy =
    let off : d.failed ≡ false = ap (λ (e : Desk Entry Call). e.failed) h.known ∙ sound in
    let place : x.place ≡ no_place =
    case_bool x.failed (λ on. let no : true ≡ false = sym (right.failed on) ∙ off in absurd cc) rests in
    let known : place_at d.places x.seat ≡ place_of seat (call_at old.seats seat) =
    ap (λ (e : Desk Entry Call). place_at e.places x.seat) h.known ∙ ap (place_at (known_of old).places) at
    ∙ place_is old.seats seat in
    busy (no_call (call_at old.seats seat)
    (ap (λ (p : Place Entry Call). p.call) (sym known ∙ right.place ∙ place)))
