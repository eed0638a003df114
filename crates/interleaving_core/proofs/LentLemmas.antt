-- A kernel that is opened, and has lent the call of a seat.
use Rattle.std.proofs.Common.{◌≡◌, refl, sym, ap, ◌∙◌, subst, ℕ, ◌-◌, Bool, true, false, List, Option, Some, None, length, slice_set, slice_index_or, arith}
use Rattle.page_locks.proofs.ChangeLemmas.{IsSeat-with_row}
use Rattle.interleaving_core.specs.Words.{Entry, IsSeat, PoolState, RecordKey, Table, call_locks, row_of}
use Rattle.interleaving_core.specs.Active.{ActiveView}
use Rattle.interleaving_core.specs.Kernel.{IsWhole, KernelState, call_at, locks_of}
use Rattle.interleaving_core.specs.Owing.{IsTurn, failure_by, told_of_failure}
use Rattle.interleaving_core.specs.Searches.{Counts}
use Rattle.interleaving_core.specs.Turn.{Turns}
use Rattle.interleaving_core.specs.Waiting.{stays_waiting}
use Rattle.interleaving_core.specs.declared.step.Step.{Step}
use Rattle.interleaving_core.specs.declared.step.Step.TheVariants as steps
use Rattle.interleaving_core.proofs.AnewLemmas.{turn_does}
use Rattle.interleaving_core.proofs.FailureLemmas.{none_blamed}
use Rattle.interleaving_core.proofs.KernelLemmas.{MakesStep, its_row, makes_step, seat_there, slot_here}
use Rattle.interleaving_core.proofs.PlaceLemmas.{Seats, at_same, with_place}
use Rattle.interleaving_core.proofs.RunLemmas.{fails_put}
use Rattle.interleaving_core.proofs.SeatLemmas.{stays_idle, waits_on}
use Rattle.interleaving_core.proofs.TurnLemmas.{Does}

module _ {K : Type 0} (seat : ℕ) (slot : Option ActiveView) (old now : KernelState K) (view : old ≡ now)
    (whole : IsWhole old) (seated : IsSeat now.locks seat)
    (at_slot : slot ≡ slice_index_or old.seats (seat - 1) slot) where
  pub is_its : IsSeat old.locks seat
  is_its = subst (λ (k : KernelState K). IsSeat k.locks seat) (sym view) seated

  pub slot_is : slot ≡ call_at old.seats seat
  slot_is = slot_here old.seats seat slot is_its.0 (seat_there old whole seat is_its) at_slot

  -- the call that is left at it
  pub left_there : (left : Option ActiveView) → call_at (slice_set old.seats (seat - 1) left) seat ≡ left
  left_there left =
      ap (λ (xs : Seats). call_at xs seat) (with_place old.seats seat left is_its.0)
      ∙ at_same old.seats seat left is_its.0 (seat_there old whole seat is_its)

  -- the row of the seat is that of its call
  pub row_there : (a : ActiveView) → slot ≡ Some a → row_of old.locks seat ≡ call_locks a.machine
  row_there a there = its_row old whole seat ∙ sym (ap locks_of slot_is) ∙ ap locks_of there

  -- the seat stays one
  pub seat_behind : (hash : RecordKey → ℕ) (did : Step) (left : Option ActiveView) (pool : PoolState) (locks : Table)
      (journal : List Entry) →
      Turns hash seat old.stopped did slot left old.pool pool old.locks locks old.journal journal → IsSeat locks seat
  seat_behind hash did left pool locks journal turns =
      let does : Does seat did slot left old.pool pool old.locks locks old.journal journal =
      turn_does hash seat old.stopped did slot left old.pool pool old.locks locks old.journal journal turns in
      subst (λ (t : Table). IsSeat t seat) (sym (does.row (its_row old whole seat ∙ sym (ap locks_of slot_is))))
      (IsSeat-with_row old.locks seat seat (locks_of left) is_its)

  -- after a failure its seat is told of it
  pub fails : (did : Step) → old.failed ≡ true → did ≡ told_of_failure slot → IsTurn seat did now now
  fails did broken is =
      subst (λ (k : KernelState K). IsTurn seat did k k) view
      (fails_put seat did old whole broken (is ∙ ap told_of_failure slot_is))

  -- where no step is made, its seat is told so
  rests : (of : K → RecordKey → ℕ) (did : Step) (left : Option ActiveView) → old.failed ≡ false →
      Turns (of old.keys) seat old.stopped did slot left old.pool old.pool old.locks old.locks old.journal
      old.journal → failure_by seat did None ≡ None →
      Counts seat did old (record old { seats = slice_set old.seats (seat - 1) left }) →
      MakesStep of seat did now (record old { seats = slice_set old.seats (seat - 1) left })
  rests of did left sound turns fine counts =
      makes_step of seat did slot left old (record old { seats = slice_set old.seats (seat - 1) left }) now view whole
      seated at_slot turns refl refl refl refl (omega arith) (λ none. refl) sound whole.blamed
      (none_blamed old whole sound ∙ sym fine) counts

  -- it has no call
  pub rests_idle : (of : K → RecordKey → ℕ) → old.failed ≡ false → slot ≡ None →
      MakesStep of seat steps.Idle now (record old { seats = slice_set old.seats (seat - 1) slot })
  rests_idle of sound none =
      rests of steps.Idle slot sound
      (stays_idle (of old.keys) seat old.stopped slot old.pool old.locks old.journal none) refl refl

  -- its call waits, and nothing has woken it
  pub rests_waiting : (of : K → RecordKey → ℕ) → old.failed ≡ false → (a left : ActiveView) (entries : List Entry)
      (stays : Bool) → slot ≡ Some a → entries ≡ old.journal → stays ≡ stays_waiting a.wait a.machine.call entries →
      stays ≡ true → left ≡ record a { wait = Some (length entries) } →
      MakesStep of seat steps.Waiting now (record old { seats = slice_set old.seats (seat - 1) (Some left) })
  rests_waiting of sound a left entries stays there all is waits left_is =
      rests of steps.Waiting (Some left) sound
      (waits_on (of old.keys) seat old.stopped slot old.pool old.locks old.journal a left entries stays there all is
      waits left_is) refl refl
