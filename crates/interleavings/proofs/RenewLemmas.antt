-- A kernel that refines a system: a call is taken back, and the journal is taken out.
use Rattle.std.proofs.Common.{ℕ, ◌≡◌, ◌≢◌, ◌≤◌, inl, inr, refl, sym, ap, ◌∙◌, subst, Bool, true, false, List, [], Option, Some, None, length, map, option_map}
use Rattle.std.proofs.lemmas.Option.{none-some}
use Rattle.std.proofs.Math.Path.{fun_ext}
use Rattle.std.proofs.lemmas.Bool.{cases_eq, true≢false}
use Rattle.std.proofs.lemmas.List.{length-map}
use Rattle.interleavings.proofs.RestLemmas.{exchanged}
use Rattle.interleavings.proofs.SeatLemmas.{owes_held}
use Rattle.interleavings.specs.ConcurrentLaws.{AreTheOthers, AreTogetherIn}
use Rattle.interleavings.specs.Together.{AreTogether, IsStillToCount, IsWell, Seats, locks_of, owes_of}
use Rattle.interleavings.specs.ConcurrentWords.{counter_key, owes_at}
use Rattle.interleaving_core.proofs.PlaceLemmas.{at_other, at_same, length-with_call, seat_of_call}
use Rattle.interleaving_core.proofs.RenewLemmas.{outlast_at}
use Rattle.interleaving_core.specs.Renewing.{HasNothing, IsWithdrawn, failure_of_pool, outlasting}
use Rattle.interleaving_core.specs.Counting.{count_at}
use Rattle.interleaving_core.specs.xsi_calls.Words.{guard_of, kind_of, world}
use Rattle.page_locks.specs.declared.lock.Lock.{Lock}
use Rattle.page_locks.specs.declared.lock.LockKind.TheVariants.{Exclusive}
use Rattle.call_decisions.proofs.OverlayLemmas.{overlaid_rest}
use Rattle.queue_model.proofs.JournalLemmas.{after-LeadsAlong}
use Rattle.queue_model.proofs.LawfulLemmas.{IsLawful-LeadsAlong}
use Rattle.interleavings.proofs.CountedLemmas.{counted_idle, counted_in, counted_of}
use Rattle.interleavings.proofs.LeadLemmas.{led_with, machine, others_same}
use Rattle.interleavings.specs.Counting.{AreCounted, IsCounted, facts_of}
use Rattle.interleavings.specs.Refining.{Refines, calls_of}
use Rattle.interleavings.specs.Renewing.{FailuresRefine, RenewsRefine, WithdrawsRefine}
use Rattle.interleavings.specs.Words.{ActiveView, Call, CallView, Caller, Entry, IsLawful, KernelState, PoolState, RecordKey, State, Table, after, call_at, caller_at, with_call}

-- ---- a call is taken back

-- beside the others, one that has nothing
module _ (hash : RecordKey → ℕ) (seat : ℕ) (s : State) (m : CallView) (seats seats' : Seats) (pool : PoolState)
    (locks : Table) (t : AreTogether hash s seats pool locks) (there : seats seat ≡ Some m) (nothing : HasNothing m)
    (none_there : seats' seat ≡ None) (others : AreTheOthers seat seats seats') where
  -- its row is empty
  row : locks_of (seats seat) ≡ []
  row = ap locks_of there ∙ nothing.free

  -- so it owes nothing
  free : (key : RecordKey) → owes_at (owes_of (seats seat)) key ≡ false
  free key = by (owes_at (owes_of (seats seat)) key) refl
    where
      by : (b : Bool) → owes_at (owes_of (seats seat)) key ≡ b → b ≡ false
      by false is = refl
      by true is = absurd (none-some Exclusive
          (sym (ap (λ (ls : List Lock). kind_of ls (guard_of key)) (t.rows seat ∙ row))
          ∙ owes_held hash s t.records pool locks t.change seat (seats seat) (t.rows seat) (t.calls seat) key is))

  uncounting : (c : IsStillToCount t.counter.next_id s seats) → c.seat ≢ seat
  uncounting c its =
      let owes : owes_at (owes_of (seats seat)) counter_key ≡ true =
      subst (λ (x : ℕ). owes_at (owes_of (seats x)) counter_key ≡ true) its
      (subst (λ (o : Option CallView). owes_at (owes_of o) counter_key ≡ true) (sym c.there) c.owes) in
      true≢false (sym owes ∙ free counter_key)

  pub taken_back : AreTogetherIn hash s seats' pool locks t.change
  taken_back = exchanged hash seat s seats seats' pool locks t others (ap locks_of none_there ∙ sym row)
      (λ key. overlaid_rest (owes_of (seats seat)) t.records key (free key))
      (λ key. ap (λ (o : Option CallView). owes_at (owes_of o) key) none_there)
      (subst (λ (o : Option CallView). IsWell hash seat s o t.records pool locks t.change) (sym none_there) tt)
      uncounting

module _ {K : Type 0} (hash : RecordKey → ℕ) (base : State) (seat : ℕ) (call : Call) (old new : KernelState K)
    (led : Refines hash base old) (went : IsWithdrawn seat call old new) where
  is : (1 ≤ seat) × (seat ≤ length old.seats)
  is = seat_of_call old.seats seat went.active went.there

  abbrev without : List (Option ActiveView)
  without = with_call old.seats seat None

  none_now : calls_of without seat ≡ None
  none_now = ap machine (at_same old.seats seat None is.0 is.1)

  others_stay : AreTheOthers seat (calls_of old.seats) (calls_of without)
  others_stay = others_same old.seats without seat None refl

  sits : (i : ℕ) (a : ActiveView) → call_at without i ≡ Some a → caller_at old.callers i ≡ Some a.machine.caller
  sits i a at = elim (cases_eq i seat) [
    | inl same ↦ absurd (none-some a
        (sym (at_same old.seats seat None is.0 is.1) ∙ ap (call_at without) (sym same) ∙ at))
    | inr apart ↦ led.sits i a (sym (at_other old.seats seat i None apart) ∙ at)
  ]

  module _ (sound : old.failed ≡ false) where
    abbrev counted_then : AreCounted hash led.now old
    counted_then = led.together sound

    together : AreTogetherIn hash led.now (calls_of without) old.pool old.locks counted_then.calls.change
    together = taken_back hash seat led.now went.active.machine (calls_of old.seats) (calls_of without) old.pool
        old.locks counted_then.calls (ap machine went.there) went.nothing none_now others_stay

    counted : (i : ℕ) → 1 ≤ i → i ≤ length without → IsCounted i (facts_of (calls_of without i))
        (count_at old.searches.counts i) (world old.pool.images old.locks counted_then.calls.change)
    counted i some near =
        let before = counted_then.counted i some
        (subst (λ (n : ℕ). i ≤ n) (length-with_call old.seats seat None) near) in
        elim (cases_eq i seat) [
          | inl same ↦ subst (λ (o : Option CallView). IsCounted i (facts_of o) (count_at old.searches.counts i)
              (world old.pool.images old.locks counted_then.calls.change))
              (sym (ap (calls_of without) same ∙ none_now))
              (counted_idle i (count_at old.searches.counts i)
              (world old.pool.images old.locks counted_then.calls.change) (facts_of (calls_of old.seats i)) before)
          | inr apart ↦ counted_of i (count_at old.searches.counts i)
              (world old.pool.images old.locks counted_then.calls.change) (facts_of (calls_of old.seats i))
              (facts_of (calls_of without i)) (ap facts_of (others_stay i apart)) before
        ]

  withdrawn_led : Refines hash base (record old { seats = without })
  withdrawn_led = led_with hash base old (record old { seats = without }) led refl refl refl refl
      (length-with_call old.seats seat None) sits (λ sound. (counted_in hash led.now (record old { seats = without })
      (counted_then sound).calls.change (together sound) (counted_then sound).phase (counted sound)).all)

pub withdraws_led : (K : Type 0) → WithdrawsRefine K
withdraws_led K hash base seat call old new led went =
    subst (Refines hash base) (sym went.is) (withdrawn_led hash base seat call old new led went)

-- ---- the journal is taken out

module _ (journal : List Entry) (seats : List (Option ActiveView)) where
  abbrev outlast : List (Option ActiveView)
  outlast = map (option_map (outlasting journal)) seats

  many : length outlast ≡ length seats
  many = length-map seats (option_map (outlasting journal))

  -- each call is the same
  same_calls : calls_of outlast ≡ calls_of seats
  same_calls = fun_ext (λ seat. ap machine (outlast_at journal seats seat) ∙ by (call_at seats seat))
    where
      by : (o : Option ActiveView) → machine (option_map (outlasting journal) o) ≡ machine o
      by None = refl
      by (Some a) = refl

  same_callers : (callers : List Caller) → ((seat : ℕ) (a : ActiveView) → call_at seats seat ≡ Some a →
      caller_at callers seat ≡ Some a.machine.caller) → (seat : ℕ) (a : ActiveView) →
      call_at outlast seat ≡ Some a → caller_at callers seat ≡ Some a.machine.caller
  same_callers callers sits seat a there = by (call_at seats seat) refl (sym (outlast_at journal seats seat) ∙ there)
    where
      by : (o : Option ActiveView) → call_at seats seat ≡ o → option_map (outlasting journal) o ≡ Some a →
          caller_at callers seat ≡ Some a.machine.caller
      by None at is = absurd (none-some a is)
      by (Some b) at is =
          let same : outlasting journal b ≡ a = cc in
          sits seat b at ∙ ap (λ (x : ActiveView). Some x.machine.caller) same

module _ {K : Type 0} (hash : RecordKey → ℕ) (s : State) (k : KernelState K) (room : ℕ) (was : AreCounted hash s k)
  where
    abbrev anew : KernelState K
    anew = record k { seats = outlast k.journal k.seats; journal = []; room = room }

    together_anew : AreTogetherIn hash s (calls_of anew.seats) k.pool k.locks was.calls.change
    together_anew = subst (λ calls. AreTogetherIn hash s calls k.pool k.locks was.calls.change)
        (sym (same_calls k.journal k.seats)) (record { together = was.calls; phase = refl })

    pub counted_anew : AreCounted hash s anew
    counted_anew = (counted_in hash s anew was.calls.change together_anew was.phase
        (λ seat some within. subst (λ calls. IsCounted seat (facts_of (calls seat)) (count_at k.searches.counts seat)
        (world k.pool.images k.locks was.calls.change)) (sym (same_calls k.journal k.seats))
        (was.counted seat some (subst (λ (n : ℕ). seat ≤ n) (many k.journal k.seats) within)))).all

pub renews_led : (K : Type 0) → RenewsRefine K
renews_led K hash base taken old new led renewed =
    let same : after old.callers taken base ≡ led.now =
    ap (λ (es : List Entry). after old.callers es base) renewed.taken_is
    ∙ after-LeadsAlong old.callers old.journal base led.now led.leads in
    record {
      led = subst (λ (s : State). Refines hash s new) (sym same)
          (subst (Refines hash led.now) (sym renewed.is) led_anew);
      lawful = λ lawful. subst IsLawful (sym same)
          (IsLawful-LeadsAlong old.callers old.journal base led.now lawful led.leads);
    }
  where
    led_anew : Refines hash led.now
        (record old { seats = outlast old.journal old.seats; journal = []; room = new.room })
    led_anew = record {
      now = led.now;
      leads = refl;
      mark = led.mark;
      callers = led.callers;
      rows = led.rows ∙ sym (many old.journal old.seats);
      seated = led.seated ∙ sym (many old.journal old.seats);
      sits = same_callers old.journal old.seats old.callers led.sits;
      together = λ sound. counted_anew hash led.now old new.room (led.together sound);
    }

-- ---- the pool was refused something

pub fails_led : (K : Type 0) → FailuresRefine K
fails_led K hash base fault old new led failed =
    subst (Refines hash base) (sym failed.is) (led_with hash base old
    (record old { pool = new.pool; failed = true; failure = failure_of_pool fault }) led refl refl refl refl refl
    led.sits (λ sound. absurd (true≢false sound)))
