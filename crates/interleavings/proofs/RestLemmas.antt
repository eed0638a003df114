-- Calls of several seats begin, end, and leave the file at rest.
use Rattle.std.proofs.Common.{ℕ, ◌≡◌, ◌≢◌, inl, inr, refl, sym, ap, ◌∙◌, subst, Bool, true, false, List, [], Option, Some, None}
use Rattle.std.proofs.lemmas.Option.{none-some}
use Rattle.std.proofs.lemmas.Bool.{cases_eq}
use Rattle.hash_file.proofs.Ties.{quiet_exact}
use Rattle.hash_file.specs.Change.{Quiet}
use Rattle.interleavings.proofs.StopLemmas.{filed_still}
use Rattle.call_decisions.proofs.OverlayLemmas.{overlaid_rest}
use Rattle.page_locks.specs.Writers.{may_write}
use Rattle.page_locks.specs.declared.lock.LockName.TheVariants.{Directory}
use Rattle.interleavings.proofs.ApartLemmas.{goes_over, stops_beside}
use Rattle.interleavings.proofs.HoldLemmas.{begin_apart}
use Rattle.step_rules.specs.Sound.{IsSoundWorld}
use Rattle.type_chains.specs.Entries.{counter_of}
use Rattle.interleavings.proofs.of_xsi_calls.IdleLemmas.{none_in}
use Rattle.interleavings.proofs.of_xsi_calls.Below.{owes_nothing_at_end}
use Rattle.interleavings.proofs.of_xsi_calls.RowLemmas.{new_holds_nothing, over_holds_nothing}
use Rattle.interleavings.specs.xsi_calls.Below.{owes_in}
use Rattle.interleavings.specs.xsi_calls.Calling.{IsCallingAt}
use Rattle.interleavings.specs.xsi_calls.Laws.{BeginRight}
use Rattle.interleavings.specs.xsi_calls.Machine.{IsNew, IsOverAt, owes_at as owes_of_call}
use Rattle.interleavings.specs.xsi_calls.Words.{guard_of, its_plan, kind_of}
use Rattle.interleavings.specs.xsi_calls.Undecided.{Trials}
use Rattle.interleavings.specs.xsi_calls.Stages.{Undecided, Paying, Releasing}
use Rattle.queue_records.specs.declared.record.Record.TheVariants as records_are
use Rattle.interleavings.specs.ConcurrentWords.{Call, CallView, Change, HasFittingCall, HasFittingCaller, IsCalling, IsFileAtRest, IsFiled, IsOver, Lock, PoolState, RecordKey, Records, Stage, StandsAt, State, Table, UndecidedCall, call_owes, counter_key, overlaid, owes_at, record_of, row_of, store_of, world}
use Rattle.interleavings.specs.Together.{AreTogether, IsApartAt, IsStillToCount, IsUnderWay, IsWell, Seats, locks_of, owes_of}
use Rattle.interleavings.specs.ConcurrentLaws.{AreIdle, AreTheOthers, AreTogetherIn, BeginTogether, EndTogether, LeaveAtRest, RestTogether, StopTogether}
use Rattle.interleavings.proofs.ConcurrentCountLemmas.{one_more, same_next}
use Rattle.interleavings.proofs.SeatLemmas.{owe_apart, well}

-- ---- at rest

rests_so : (hash : RecordKey → ℕ) (s : State) (seats : Seats) (pool : PoolState) (locks : Table) →
    IsFileAtRest hash s pool locks → AreIdle seats → AreTogether hash s seats pool locks
rests_so hash s seats pool locks rest idle = record {
  honest = rest.honest;
  file = rest.file;
  change = Quiet;
  sound = rest.sound;
  filed = rest.filed;
  records = record_of s;
  stands = λ key. record { holds = rest.holds key; spelled = rest.spelled key };
  rows = λ seat. rest.free seat ∙ ap locks_of (sym (idle seat));
  calls = λ seat. subst (λ (o : Option CallView). IsWell hash seat s o (record_of s) pool locks Quiet) (sym (idle seat))
      tt;
  will = λ seat key none. ap (λ (o : Option CallView). overlaid (owes_of o) (record_of s) key) (idle seat);
  counter = counter_of s;
  counts = refl;
  next = inl refl;
}

pub rest_together : RestTogether
unfolding rests_so
rest_together hash s seats pool locks rest idle =
    record { together = rests_so hash s seats pool locks rest idle; phase = refl }

module _ (hash : RecordKey → ℕ) (s : State) (seats : Seats) (pool : PoolState) (locks : Table)
    (t : AreTogether hash s seats pool locks) (idle : AreIdle seats) where
  none : (i : ℕ) → row_of locks i ≡ []
  none i = t.rows i ∙ ap locks_of (idle i)

  quiet : t.change ≡ Quiet
  quiet = t.sound.led (λ i. ap (λ (row : List Lock). may_write (kind_of row Directory)) (none i))

  sound : IsSoundWorld hash (world pool.images locks Quiet)
  sound = subst (λ (c : Change). IsSoundWorld hash (world pool.images locks c)) quiet t.sound

  stands : (key : RecordKey) → StandsAt (store_of pool.images) key (record_of s key)
  stands key = subst (StandsAt (store_of pool.images) key)
      (sym (ap (λ (o : Option CallView). overlaid (owes_of o) t.records key) (idle 0))
      ∙ t.will 0 key (λ other apart. ap (λ (o : Option CallView). owes_at (owes_of o) key) (idle other)))
      (t.stands key)

  pub leaves_at_rest : IsFileAtRest hash s pool locks
  leaves_at_rest = record {
    honest = t.honest;
    file = t.file;
    sound = sound;
    exact = quiet_exact hash (store_of pool.images) sound.file;
    free = none;
    filed = t.filed;
    holds = λ key. (stands key).holds;
    spelled = λ key. (stands key).spelled;
  }

pub leave_at_rest : LeaveAtRest
leave_at_rest hash s seats pool locks t idle = leaves_at_rest hash s seats pool locks t idle

-- ---- a seat that holds and owes nothing

-- it comes, or goes, beside the others
module _ (hash : RecordKey → ℕ) (seat : ℕ) (s : State) (seats seats' : Seats) (pool : PoolState) (locks : Table)
    (t : AreTogether hash s seats pool locks) (others : AreTheOthers seat seats seats')
    (row : locks_of (seats' seat) ≡ locks_of (seats seat))
    (before : (key : RecordKey) → overlaid (owes_of (seats seat)) t.records key ≡ t.records key)
    (behind : (key : RecordKey) → owes_at (owes_of (seats' seat)) key ≡ false)
    (is : IsWell hash seat s (seats' seat) t.records pool locks t.change)
    (uncounting : (c : IsStillToCount t.counter.next_id s seats) → c.seat ≢ seat) where
  changed : AreTogether hash s seats' pool locks
  changed = record {
    honest = t.honest;
    file = t.file;
    change = t.change;
    sound = t.sound;
    filed = t.filed;
    records = t.records;
    stands = t.stands;
    rows = λ i. elim (cases_eq i seat) [
      | inl same ↦ ap (row_of locks) same ∙ t.rows seat ∙ sym row ∙ ap (λ (x : ℕ). locks_of (seats' x)) (sym same)
      | inr apart ↦ t.rows i ∙ ap locks_of (sym (others i apart))
    ];
    calls = λ i. elim (cases_eq i seat) [
      | inl same ↦ subst (λ (x : ℕ). IsWell hash x s (seats' x) t.records pool locks t.change) (sym same) is
      | inr apart ↦ subst (λ (o : Option CallView). IsWell hash i s o t.records pool locks t.change)
          (sym (others i apart)) (t.calls i)
    ];
    will = wills;
    counter = t.counter;
    counts = t.counts;
    next = elim t.next [
      | inl eq ↦ inl eq
      | inr c ↦ inr (record {
        uncounted = c.uncounted;
        seat = c.seat;
        maker = c.maker;
        there = others c.seat (uncounting c) ∙ c.there;
        decided = c.decided;
        owes = c.owes;
      })
    ];
  }
    where
      pass : (i : ℕ) (key : RecordKey) → i ≢ seat → owes_at (owes_of (seats' i)) key ≡ false →
          owes_at (owes_of (seats i)) key ≡ false
      pass i key apart free = subst (λ (o : Option CallView). owes_at (owes_of o) key ≡ false) (others i apart) free

      -- where no seat but this one might owe it, the record stands
      stands_here : (key : RecordKey) → ((i : ℕ) → i ≢ seat → owes_at (owes_of (seats i)) key ≡ false) →
          t.records key ≡ record_of s key
      stands_here key none = sym (before key) ∙ t.will seat key none

      there : (i : ℕ) (key : RecordKey) → i ≢ seat →
          ((other : ℕ) → other ≢ i → owes_at (owes_of (seats' other)) key ≡ false) →
          overlaid (owes_of (seats i)) t.records key ≡ record_of s key
      there i key apart none = by (owes_at (owes_of (seats i)) key) refl
        where
          by : (b : Bool) → owes_at (owes_of (seats i)) key ≡ b →
              overlaid (owes_of (seats i)) t.records key ≡ record_of s key
          by false free = overlaid_rest (owes_of (seats i)) t.records key free
              ∙ stands_here key (λ other its. elim (cases_eq other i) [
                | inl same ↦ subst (λ (x : ℕ). owes_at (owes_of (seats x)) key ≡ false) (sym same) free
                | inr own ↦ pass other key its (none other own)
              ])
          by true owes = t.will i key (λ other own. elim (cases_eq other seat) [
            | inl same ↦ subst (λ (x : ℕ). owes_at (owes_of (seats x)) key ≡ false) (sym same)
                (owe_apart hash s seats pool locks t i seat apart key owes)
            | inr its ↦ pass other key its (none other own)
          ])

      wills : (i : ℕ) (key : RecordKey) → ((other : ℕ) → other ≢ i → owes_at (owes_of (seats' other)) key ≡ false) →
          overlaid (owes_of (seats' i)) t.records key ≡ record_of s key
      wills i key none = elim (cases_eq i seat) [
        | inl same ↦ overlaid_rest (owes_of (seats' i)) t.records key
            (subst (λ (x : ℕ). owes_at (owes_of (seats' x)) key ≡ false) (sym same) (behind key))
            ∙ stands_here key (λ other apart. pass other key apart (none other (λ (is : other ≡ i). apart (is ∙ same))))
        | inr apart ↦ subst (λ (o : Option CallView). overlaid (owes_of o) t.records key ≡ record_of s key)
            (sym (others i apart)) (there i key apart none)
      ]

  pub exchanged : AreTogetherIn hash s seats' pool locks t.change
  unfolding changed
  exchanged = record { together = changed; phase = refl }

-- ---- a call begins

fresh_free : (m : CallView) → IsNew m → (key : RecordKey) → owes_at (call_owes m) key ≡ false
fresh_free m new key =
    ap (λ (x : Stage). owes_at (owes_of_call m.call m.undecided x) key) new.stage
    ∙ ap (λ (o : Option Trials). owes_at (owes_in m.call m.undecided.questions o) key) new.fresh.untried

module _ (hash : RecordKey → ℕ) (seat : ℕ) (s : State) (m : CallView) (seats : Seats) (pool : PoolState)
    (locks : Table) (t : AreTogether hash s seats pool locks) (free : seats seat ≡ None) (new : IsNew m)
    (begins : BeginRight) where
  fresh_calls : IsCalling hash seat s m t.records pool locks t.change
  fresh_calls = begins hash seat s m t.records pool locks t.change new (t.rows seat ∙ ap locks_of free)
      (record { honest = t.honest; file = t.file; sound = t.sound; known = tt })
      (record {
        filed = t.filed;
        stands = λ key under. absurd (none_in (guard_of key) under);
        counter = t.counter;
        counts = subst (StandsAt (store_of pool.images) counter_key) t.counts (t.stands counter_key);
        given = λ id under none. absurd (none_in _ under);
      })

pub begin_together : BeginRight → BeginTogether
begin_together begins hash seat caller call s m seats seats' pool locks t free caller_fits call_fits begun now others =
    exchanged hash seat s seats seats' pool locks t others
    (ap locks_of now ∙ new_holds_nothing m begun.new ∙ ap locks_of (sym free))
    (λ key. ap (λ (o : Option CallView). overlaid (owes_of o) t.records key) free)
    (λ key. ap (λ (o : Option CallView). owes_at (owes_of o) key) now ∙ fresh_free m begun.new key)
    (subst (λ (o : Option CallView). IsWell hash seat s o t.records pool locks t.change) (sym now) (record {
      caller_fits = subst HasFittingCaller (sym begun.caller_is) caller_fits;
      call_fits = subst HasFittingCall (sym begun.call_is) call_fits;
      calls = fresh_calls hash seat s m seats pool locks t free begun.new begins;
      apart = subst (IsApartAt m.call m.undecided) (sym begun.new.stage)
          (begin_apart m.call m.undecided.questions begun.new.knows);
    }))
    (λ c its. none-some c.maker (sym free ∙ ap seats (sym its) ∙ c.there))

-- ---- a call ends

over_owes : (hash : RecordKey → ℕ) (seat : ℕ) (call : Call) (s : State) (u : UndecidedCall) (stage : Stage)
    (records : Records) (pool : PoolState) (locks : Table) (change : Change) → IsOverAt call u stage →
    IsCallingAt hash seat call s u stage records pool locks change → (key : RecordKey) →
    overlaid (owes_of_call call u stage) records key ≡ records key
over_owes hash seat call s u Undecided records pool locks change over is key = absurd over
over_owes hash seat call s u (Paying v conclusion) records pool locks change over is key =
    owes_nothing_at_end hash seat u.questions.names (its_plan call u.questions) v records pool locks change is.pays
    over.0 key
over_owes hash seat call s u (Releasing conclusion) records pool locks change over is key = refl

module _ (hash : RecordKey → ℕ) (seat : ℕ) (s : State) (m : CallView) (seats : Seats) (pool : PoolState)
    (locks : Table) (t : AreTogether hash s seats pool locks) (there : seats seat ≡ Some m) (over : IsOver m) where
  is : IsUnderWay hash seat s m t.records pool locks t.change
  is = well hash seat s (seats seat) t.records pool locks t.change m there (t.calls seat)

  paid : (key : RecordKey) → overlaid (owes_of (seats seat)) t.records key ≡ t.records key
  paid key = ap (λ (o : Option CallView). overlaid (owes_of o) t.records key) there
      ∙ over_owes hash seat m.call s m.undecided m.stage t.records pool locks t.change over is.calls key

  -- the Counter is that of the system where it was owed
  all_counted : (c : IsStillToCount t.counter.next_id s seats) → c.seat ≢ seat
  all_counted c its =
      let owes : owes_at (owes_of (seats seat)) counter_key ≡ true =
      subst (λ (x : ℕ). owes_at (owes_of (seats x)) counter_key ≡ true) its
      (subst (λ (o : Option CallView). owes_at (owes_of o) counter_key ≡ true) (sym c.there) c.owes) in
      let same : Some (records_are.Counter t.counter) ≡ Some (records_are.Counter (counter_of s)) =
      sym t.counts ∙ sym (paid counter_key) ∙ t.will seat counter_key (λ other apart.
      owe_apart hash s seats pool locks t seat other (λ (e : seat ≡ other). apart (sym e)) counter_key owes) in
      one_more t.counter.next_id (same_next t.counter (counter_of s) same ∙ c.uncounted.next)

pub end_together : EndTogether
end_together hash seat s m seats seats' pool locks t there over now others =
    exchanged hash seat s seats seats' pool locks t others
    (ap locks_of now ∙ sym (over_holds_nothing m over) ∙ ap locks_of (sym there))
    (paid hash seat s m seats pool locks t there over)
    (λ key. ap (λ (o : Option CallView). owes_at (owes_of o) key) now)
    (subst (λ (o : Option CallView). IsWell hash seat s o t.records pool locks t.change) (sym now) tt)
    (all_counted hash seat s m seats pool locks t there over)

-- ---- the stop mark

stopped_at : (hash : RecordKey → ℕ) (seat : ℕ) (call : Call) (s : State) (b : Bool) (u : UndecidedCall)
    (stage : Stage) (records : Records) (pool : PoolState) (locks : Table) (change : Change) → IsFiled s →
    IsCallingAt hash seat call s u stage records pool locks change →
    IsCallingAt hash seat call (record s { stopped = b }) u stage records pool locks change
stopped_at hash seat call s b u Undecided records pool locks change filed is =
    goes_over hash seat call s (record s { stopped = b }) u records pool locks change
    (stops_beside call u.questions s b (filed_still s b filed)) is
stopped_at hash seat call s b u (Paying v conclusion) records pool locks change filed is = is
stopped_at hash seat call s b u (Releasing conclusion) records pool locks change filed is = is

stopped_well : (hash : RecordKey → ℕ) (seat : ℕ) (s : State) (b : Bool) (o : Option CallView) (records : Records)
    (pool : PoolState) (locks : Table) (change : Change) → IsFiled s →
    IsWell hash seat s o records pool locks change →
    IsWell hash seat (record s { stopped = b }) o records pool locks change
stopped_well hash seat s b None records pool locks change filed is = tt
stopped_well hash seat s b (Some m) records pool locks change filed is = record {
  caller_fits = is.caller_fits;
  call_fits = is.call_fits;
  calls = stopped_at hash seat m.call s b m.undecided m.stage records pool locks change filed is.calls;
  apart = is.apart;
}

stops_so : (hash : RecordKey → ℕ) (s : State) (b : Bool) (seats : Seats) (pool : PoolState) (locks : Table) →
    AreTogether hash s seats pool locks → AreTogether hash (record s { stopped = b }) seats pool locks
stops_so hash s b seats pool locks t = record {
  honest = t.honest;
  file = t.file;
  change = t.change;
  sound = t.sound;
  filed = filed_still s b t.filed;
  records = t.records;
  stands = t.stands;
  rows = t.rows;
  calls = λ seat. stopped_well hash seat s b (seats seat) t.records pool locks t.change t.filed (t.calls seat);
  will = λ seat key none. t.will seat key none;
  counter = t.counter;
  counts = t.counts;
  next = elim t.next [
    | inl eq ↦ inl eq
    | inr c ↦ inr (record {
      uncounted = record { next = c.uncounted.next; alive = c.uncounted.alive };
      seat = c.seat;
      maker = c.maker;
      there = c.there;
      decided = c.decided;
      owes = c.owes;
    })
  ];
}

pub stop_together : StopTogether
unfolding stops_so
stop_together hash s b seats pool locks t = record { together = stops_so hash s b seats pool locks t; phase = refl }
