-- Events over a kernel that was opened, and closed behind them, told without the kernel.
use Rattle.std.proofs.Common.{ℕ, zero, suc, ◌≡◌, ◌+◌, ◌≤◌, refl, sym, ap, ◌∙◌, subst, Bool, true, false, ◌||◌, IsSome, IsTrue, List, [], ◌∷◌, ◌++◌, Option, Some, None, drop, length, take, arith}
use Rattle.std.specs.List.{list_any}
use Rattle.std.specs.Prelude.{slice_get, sum_by}
use Rattle.std.proofs.lemmas.Option.{get_or_from_slice_get, none-some, same_Some, slice_get_within}
use Rattle.std.proofs.lemmas.List.{length-map, length-replicate}
use Rattle.std.proofs.lemmas.List.Elements.{All-take}
use Rattle.page_device.specs.Device.{HasRisen}
use Rattle.page_device.specs.Sealed.{payload_of}
use Rattle.interleaving_core.proofs.BeginLemmas.{idle_at, none_due}
use Rattle.interleaving_core.specs.Closing.{has_one}
use Rattle.interleaving_core.specs.Kernel.{due_at, due_for_stop, entries_of}
use Rattle.interleaving_core.specs.declared.fault.CloseFault.TheVariants as closes
use Rattle.interleavings.specs.Words.{ActiveView, Answer, Call, Caller, Entry, IsFileOf, IsLegal, IsOpened, KernelState, PoolState, RecordKey, State, after, answer_of_call, call_at, call_of, entry_of, part_of, restarted, untold}
use Rattle.interleavings.specs.Ending.{HasEnded}
use Rattle.interleavings.specs.Laws.{AnswersAsPlainLists, ClosesRefine, DrivesEnd, EventsRefine, RefinesFile, StepsRefineAndDo, StepsRefine}
use Rattle.interleavings.specs.Refining.{Refines}
use Rattle.interleavings.specs.Moments.{HasItsPart, HasStood, HaveStood, IsToldBy, TellsRightly, is_stop, marked_by, once_if}
use Rattle.interleavings.specs.Outcomes.{call_along, call_under_way, nothing_yet, tells_failure}
use Rattle.interleavings.specs.Playing.{HasPlayed, HasReason, PlaysAsPlainLists}
use Rattle.interleavings.specs.Runs.{AreOfSeats, IsLinearized, IsOfSeat, IsToldItsPart, Runs, told_along}
use Rattle.interleavings.specs.declared.event.Event.{Event}
use Rattle.interleavings.specs.declared.event.Outcome.{Outcome}
use Rattle.interleavings.specs.declared.playing.EndFault.TheVariants.{Busy, Close}
use Rattle.interleavings.specs.declared.playing.Played.{Played}
use Rattle.interleavings.proofs.EventLemmas.{places_along}
use Rattle.interleavings.proofs.RisenLemmas.{risen_along, risen_within}
use Rattle.interleavings.proofs.FoundedLemmas.{founded_along}
use Rattle.interleavings.proofs.LackedLemmas.{lacked_told}
use Rattle.interleavings.proofs.OnWayLemmas.{still_from_none}
use Rattle.interleavings.proofs.OutcomeLemmas.{come_along, fails_along}
use Rattle.interleavings.proofs.RunLemmas.{tells_its_part}
use Rattle.interleavings.proofs.TellingLemmas.{HasEvent, event_at}
use Rattle.interleavings.proofs.ToldByLemmas.{told_by_event}
use Rattle.interleavings.proofs.WaitingLemmas.{AreFounded, IsFoundedAt}
use Rattle.interleavings.proofs.UnderWayLemmas.{call_on, leaves_along, marked_along}

-- ---- who has a call

not_true : (b : Bool) → (b ≡ true → ⊥) → b ≡ false
not_true true not = absurd (not refl)
not_true false not = refl

none_has : (seats : List (Option ActiveView)) → list_any has_one seats ≡ false → (seat : ℕ) →
    call_at seats seat ≡ None
none_has seats none zero = refl
none_has [] none (suc place) = refl
none_has (None ∷ xs) none (suc zero) = refl
none_has (None ∷ xs) none (suc (suc place)) = none_has xs none (suc place)
none_has (Some a ∷ xs) none (suc place) = absurd cc

one_has : (seats : List (Option ActiveView)) → list_any has_one seats ≡ true →
    (seat : ℕ) × IsSome (call_of (call_at seats seat))
one_has [] some = absurd cc
one_has (Some a ∷ xs) some = (1, refl)
one_has (None ∷ xs) some = behind (one_has xs some)
  where
    behind : (seat : ℕ) × IsSome (call_of (call_at xs seat)) →
        (seat : ℕ) × IsSome (call_of (call_at (None ∷ xs) seat))
    behind (zero, never) = absurd cc
    behind (suc place, there) = (suc (suc place), there)

-- what a seat's call was answered, and its seat was not told yet
abbrev answer_at : Option ActiveView → Option Answer
answer_at None = None
answer_at (Some a) = answer_of_call a.machine

untold_is : (seat : ℕ) (at : Option ActiveView) → untold seat at ≡ entry_of seat (call_of at) (answer_at at)
untold_is seat None = refl
untold_is seat (Some a) = refl

-- ---- from a kernel that was opened

module _ {K : Type 0} (of : K → RecordKey → ℕ) (keys : K) (content : List (List ℕ)) (honest : Bool)
    (callers : List Caller) (frames : ℕ) (es : List Event) (old new : KernelState K) {D : Type 0} (played : Played D)
    (left : List (List ℕ)) (left_honest left_synced : Bool) (faults : ℕ)
    (opened : IsOpened keys content honest callers frames old) (are : AreOfSeats (length callers) es)
    (ran : Runs (of old.keys) es played.outcomes.items old new)
    (ended : HasEnded new played.fault played.journal.items left left_honest left_synced faults) where
  abbrev hash : RecordKey → ℕ
  hash = of keys

  abbrev os : List Outcome
  os = played.outcomes.items

  runs : Runs hash es os old new
  runs = subst (λ (k : K). Runs (of k) es os old new) opened.keys ran

  none_before : (seat : ℕ) → call_at old.seats seat ≡ None
  none_before seat = ap (λ (seats : List (Option ActiveView)). call_at seats seat) opened.seats
      ∙ idle_at (length callers) seat

  idle_before : (seat : ℕ) → call_on seat old ≡ None
  idle_before seat = ap call_of (none_before seat)

  -- a stop is due, and no more
  one_before : entries_of old + 0 ≡ 0 + 1
  one_before =
      let none = ap (sum_by due_at) opened.seats ∙ none_due (length callers) in
      let empty = ap length opened.journal in
      let stop = ap due_for_stop opened.stopped in
      omega (arith, none, empty, stop)

  are_seats : AreOfSeats (length old.seats) es
  are_seats = subst (λ (n : ℕ). AreOfSeats n es)
      (sym (ap length opened.seats ∙ length-replicate (length callers) None)) are

  as_honest : new.pool.honest ≡ honest
  as_honest = (places_along hash es os old new runs).honest
      ∙ ap (λ (p : PoolState). p.honest) opened.pool

  as_many : length new.pool.images ≡ length content
  as_many = (places_along hash es os old new runs).pages
      ∙ ap (λ (p : PoolState). length p.images) opened.pool ∙ length-map content payload_of

  -- the call of a seat after some of the events
  under_way : (seat : ℕ) (some : List Event) (out : List Outcome) (now : KernelState K) →
      AreOfSeats (length old.seats) some → Runs hash some out old now →
      call_on seat now ≡ call_under_way seat some out
  under_way seat some out now those first = leaves_along hash seat some out old now those first
      ∙ ap (λ (c : Option Call). call_along seat c some out) (idle_before seat)

  its_part : (seat : ℕ) (some : List Event) (out : List Outcome) (now : KernelState K) →
      AreOfSeats (length old.seats) some → Runs hash some out old now → IsToldItsPart seat some out old now →
      HasItsPart seat some out now.journal
  its_part seat some out now those first told = record {
    owed = answer_at (call_at now.seats seat);
    told =
        ap (λ (c : Option Call). told_along seat None some out ++ entry_of seat c (answer_at (call_at now.seats seat)))
        (sym (under_way seat some out now those first))
        ∙ ap (λ (entries : List Entry). told_along seat None some out ++ entries)
        (sym (untold_is seat (call_at now.seats seat)))
        ∙ ap (λ (at : Option Call). told_along seat at some out ++ untold seat (call_at now.seats seat))
        (sym (ap call_of (none_before seat)))
        ∙ told.told
        ∙ ap (λ (at : Option ActiveView). untold seat at ++ part_of seat told.added) (none_before seat)
        ∙ ap (part_of seat) (sym (told.journal ∙ ap (λ (entries : List Entry). entries ++ told.added) opened.journal));
  }

  -- what had joined the journal after so many of some events
  have_stood : (many : ℕ) (some : List Event) (out : List Outcome) (k : KernelState K) →
      AreOfSeats (length old.seats) some → Runs hash (take many some) (take many out) old k →
      HaveStood many some out k.journal
  have_stood many some out k those first =
      let marked = marked_along hash (take many some) (take many out) old k first in
      record {
        parts = λ seat. its_part seat (take many some) (take many out) k
            (All-take (IsOfSeat (length old.seats)) many some those) first
            (tells_its_part hash (take many some) (take many out) old k first seat);
        mark = marked.marked (ap (sum_by marked_by) opened.journal ∙ sym (ap once_if opened.stopped))
            ∙ ap once_if (marked.stopped ∙ ap (λ (b : Bool). b || list_any is_stop (take many some)) opened.stopped);
      }

  module _ (tells : (seat : ℕ) → IsToldItsPart seat es os old new)
      (line : IsLinearized (of old.keys) es os old new) where
    linear : IsLinearized hash es os old new
    linear = subst (λ (k : K). IsLinearized (of k) es os old new) opened.keys line

    stood_at : (many : ℕ) (k : KernelState K) → Runs hash (take many es) (take many os) old k →
        Runs hash (drop many es) (drop many os) k new → HasStood many es os new.journal
    stood_at many k first rest =
        let later = tells_its_part hash (drop many es) (drop many os) k new rest 0 in
        record {
          stood = k.journal;
          later = later.added;
          journal_is = later.journal;
          was = have_stood many es os k are_seats first;
        }

    stood : (many : ℕ) → HasStood many es os new.journal
    stood many =
        let moment = linear many in
        stood_at many moment.between moment.before moment.behind

    sound_by : played.fault ≡ None → new.failed ≡ false
    sound_by none = not_true new.failed (λ broken. none-some _ (sym none ∙ ended.failed.1 broken))

    idle_by : played.fault ≡ None → (seat : ℕ) → call_at new.seats seat ≡ None
    idle_by none = none_has new.seats (not_true (list_any has_one new.seats)
        (λ one. none-some _ (sym none ∙ ended.busy.1 (record { sound = sound_by none; call = one }))))

    call_then : (seat : ℕ) → call_on seat new ≡ call_under_way seat es os
    call_then seat = under_way seat es os new are_seats runs

    busy_by : played.fault ≡ Some Busy → (seat : ℕ) × IsSome (call_under_way seat es os)
    busy_by busy =
        let one = one_has new.seats (ended.busy.0 busy).call in
        (one.0, subst IsSome (call_then one.0) one.1)

    failed_is : new.failed ≡ list_any tells_failure os
    failed_is = fails_along hash es os old new runs ∙ ap (λ (b : Bool). b || list_any tells_failure os) opened.failed

    pub has_played : HasPlayed es played
    has_played = record {
      outcomes = come_along hash es os old new nothing_yet (record {
        broken = sym opened.failed;
        under_way = λ seat. sym (idle_before seat);
        counted = one_before;
      }) are_seats runs;
      told = λ seat. subst (HasItsPart seat es os) (sym ended.journal_is)
          (its_part seat es os new are_seats runs (tells seat));
      linear = λ many. subst (HasStood many es os) (sym ended.journal_is) (stood many);
      ended = λ none seat. sym (call_then seat) ∙ ap call_of (idle_by none seat);
      busy = busy_by;
      failed = (
        λ failed. sym failed_is ∙ ended.failed.0 failed,
        λ told. ended.failed.1 (failed_is ∙ told),
      );
    }

    -- ---- of an honest device

    module _ (lead : EventsRefine K) (true_to_it : IsTrue honest) (led : RefinesFile hash content old) where
      are_rows : AreOfSeats (length old.locks) es
      are_rows = subst (λ (n : ℕ). AreOfSeats n es)
          (sym (ap length opened.locks ∙ length-replicate (length callers) [])) are

      led_behind : Refines hash led.base new
      led_behind = lead hash led.base es os old new are_rows led.led runs

      same_callers : new.callers ≡ callers
      same_callers = (places_along hash es os old new runs).callers ∙ opened.callers

      honest_still : IsTrue new.pool.honest
      honest_still = subst IsTrue (sym as_honest) true_to_it

      -- what a seat is told of each event
      module _ (does : StepsRefineAndDo K) (steps : StepsRefine K) (many : ℕ) where
        abbrev Rightly : Type 0
        Rightly = TellsRightly callers led.base many es os new.journal

        -- no event has this number
        past : ((e : Event) (o : Outcome) → slice_get es many ≡ Some e → slice_get os many ≡ Some o → ⊥) → Rightly
        past none = record { moment = stood (suc many); told = λ e o is_e is_o. absurd (none e o is_e is_o) }

        module _ (e : Event) (o : Outcome) (is_e : slice_get es many ≡ Some e) (is_o : slice_get os many ≡ Some o)
          where
            at : HasEvent hash many es os e o old new
            at = event_at hash many es os e o old new runs is_e is_o

            led_before : Refines hash led.base at.before
            led_before = lead hash led.base (take many es) (take many os) old at.before
                (All-take (IsOfSeat (length old.locks)) many es are_rows) led.led at.first

            are_through : AreOfSeats (length old.locks) (take (suc many) es)
            are_through = All-take (IsOfSeat (length old.locks)) (suc many) es are_rows

            led_then : Refines hash led.base at.behind
            led_then = lead hash led.base (take (suc many) es) (take (suc many) os) old at.behind are_through led.led
                at.through

            founded : AreFounded led.base at.behind
            founded = founded_along does steps lead hash led.base (take (suc many) es) (take (suc many) os) old
                at.behind are_through led.led at.through (λ seat. subst (IsFoundedAt led.base old.callers old.journal)
                (sym (none_before seat)) tt)

            its_seat : IsOfSeat (length at.before.locks) e
            its_seat = subst (λ (n : ℕ). IsOfSeat n e)
                (sym (places_along hash (take many es) (take many os) old at.before at.first).seats)
                (subst (IsOfSeat (length old.locks)) (get_or_from_slice_get es many e e is_e)
                (are_rows many e (slice_get_within es many e is_e)))

            those : AreOfSeats (length old.seats) (take many es)
            those = All-take (IsOfSeat (length old.seats)) many es are_seats

            told : IsToldBy callers led.base (take many es) (take many os) e o at.behind.journal
            told = told_by_event does steps hash led.base callers (take many es) (take many os)
                at.before at.behind led_before led_then founded
                ((places_along hash (take (suc many) es) (take (suc many) os) old at.behind at.through).callers
                ∙ opened.callers)
                (λ seat. under_way seat (take many es) (take many os) at.before those at.first)
                (still_from_none hash (take many es) (take many os) old at.before those at.first none_before) e o
                its_seat at.happens
                (lacked_told does steps lead hash led.base callers es os many old at.before at.behind led.led
                none_before opened.callers are_rows are_seats
                (λ n k. have_stood n (take many es) (take many os) k those) at.first e o led_before its_seat at.happens)

            here : Rightly
            unfolding stood_at at
            here = record {
              moment = stood_at (suc many) at.behind at.through at.rest;
              told = λ f p is_f is_p.
                  let same_e : e ≡ f = same_Some e f (sym is_e ∙ is_f) in
                  let same_o : o ≡ p = same_Some o p (sym is_o ∙ is_p) in
                  subst (λ (x : Event). IsToldBy callers led.base (take many es) (take many os) x p
                  at.behind.journal) same_e (subst (λ (y : Outcome). IsToldBy callers led.base
                  (take many es) (take many os) e y at.behind.journal) same_o told);
            }

        pub rightly : Rightly
        rightly = by (slice_get es many) refl (slice_get os many) refl
          where
            by : (f : Option Event) → slice_get es many ≡ f → (p : Option Outcome) → slice_get os many ≡ p → Rightly
            by None none p is_o = past (λ e o is_e is. none-some e (sym none ∙ is_e))
            by (Some e) is_e None none = past (λ f o is_f is. none-some o (sym none ∙ is))
            by (Some e) is_e (Some o) is_o = here e o is_e is_o

      pub plays_plain : StepsRefineAndDo K → StepsRefine K → AnswersAsPlainLists K → ClosesRefine K →
          PlaysAsPlainLists (IsFileOf hash) callers es content left left_synced played
      plays_plain does steps plain closes =
          let lists = plain hash led.base new led.file.system.has.lawful led_behind in
          record {
            base = led.base;
            file = led.file;
            legal = subst (λ (cs : List Caller). IsLegal cs played.journal.items led.base) same_callers
                (subst (λ (entries : List Entry). IsLegal new.callers entries led.base) (sym ended.journal_is)
                lists.legal);
            rightly = λ many. subst (TellsRightly callers led.base many es os) (sym ended.journal_is)
                (rightly does steps many);
            leaves = λ none.
                subst (λ (cs : List Caller).
                IsFileOf hash left (restarted (after cs played.journal.items led.base))) same_callers
                (subst (λ (entries : List Entry). IsFileOf hash left (restarted (after new.callers entries led.base)))
                (sym ended.journal_is)
                (closes hash led.base left new led_behind (idle_by none) (sound_by none)
                (ended.flushed honest_still none)));
            pages = λ none. sym (length-map left payload_of) ∙ ap length (ended.flushed honest_still none).images
                ∙ as_many;
            synced = ended.synced honest_still;
          }

      step_reason : StepsRefineAndDo K → DrivesEnd K → (was : ℕ) → was ≤ old.pool.faults →
          played.fault ≡ Some (Close closes.Failed) → HasRisen was faults
      step_reason does drives was before failed =
          risen_within before (places_along hash es os old new runs).later ended.later
          (risen_along does drives lead hash led.base es os old new are_rows led.led runs opened.failed
          (ended.failed.0 failed))

    pub has_reason : EventsRefine K → (IsTrue honest → RefinesFile hash content old) → StepsRefineAndDo K →
        DrivesEnd K → (was : ℕ) → was ≤ old.pool.faults → HasReason honest was faults played
    has_reason lead led does drives was before =
        let later = (places_along hash es os old new runs).later in
        record {
          device = λ device. risen_within (omega (arith, before, later)) ended.later (omega arith)
              (ended.device device);
          step = λ true_to_it. step_reason lead true_to_it (led true_to_it) does drives was before;
        }

-- ---- what is so of the file of a system is so of what its pages mean

module _ {Is As : List (List ℕ) → State → Type 0} (so : (pages : List (List ℕ)) (s : State) → Is pages s → As pages s)
    (callers : List Caller) (es : List Event) {D : Type 0} (content left : List (List ℕ)) (is_synced : Bool)
    (played : Played D) where
  pub plays_so : PlaysAsPlainLists Is callers es content left is_synced played →
      PlaysAsPlainLists As callers es content left is_synced played
  plays_so plays = record {
    base = plays.base;
    file = so content plays.base plays.file;
    legal = plays.legal;
    rightly = plays.rightly;
    leaves = λ none. so left _ (plays.leaves none);
    pages = plays.pages;
    synced = plays.synced;
  }
