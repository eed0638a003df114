-- A kernel that refines a system, and its pages between calls: those that wait are taken back, and begin again.
use Rattle.std.proofs.Common.{ℕ, zero, suc, ◌≡◌, ◌≤◌, ◌<◌, inl, inr, refl, sym, ap, ◌∙◌, subst, true, List, Option, Some, None, length, arith}
use Rattle.std.proofs.lemmas.Option.{none-some}
use Rattle.std.specs.List.{All}
use Rattle.std.proofs.lemmas.Bool.{cases_eq}
use Rattle.buffer_pool.specs.Pool.{KeepsImages}
use Rattle.buffer_pool.specs.declared.fault.PoolFault.TheVariants.{Device, Malformed, NoMemory, TooFewFrames}
use Rattle.page_device.specs.declared.fault.DeviceFault.TheVariants as device
use Rattle.interleavings.proofs.SeatLemmas.{well}
use Rattle.interleavings.specs.ConcurrentLaws.{AreTogetherIn, BeginTogether}
use Rattle.interleavings.specs.Together.{AreTogether, IsWell, Seats}
use Rattle.interleavings.specs.ConcurrentWords.{StandsAt}
use Rattle.file_pages.proofs.ReadLemmas.{is_well}
use Rattle.file_pages.specs.Files.{IsFilePool, SpellsFile}
use Rattle.interleaving_core.proofs.PlaceLemmas.{at_other, at_same, length-with_call, seat_of_call, with_own}
use Rattle.interleaving_core.proofs.RenewLemmas.{new_has_nothing, waits_at}
use Rattle.interleaving_core.specs.Renewing.{IsBetweenCalls, IsIdleOrWaits, IsWaiting, KeepsPages}
use Rattle.interleaving_core.specs.Counting.{count_at}
use Rattle.interleaving_core.specs.xsi_calls.Words.{Change, world}
use Rattle.step_rules.specs.Sound.{IsSoundWorld}
use Rattle.interleavings.proofs.CountedLemmas.{counted_idle, counted_in}
use Rattle.interleavings.proofs.LeadLemmas.{led_with, machine, others_same}
use Rattle.interleavings.specs.Counting.{AreCounted, IsCounted, facts_of}
use Rattle.interleavings.specs.Laws.{ClosesRefine}
use Rattle.interleavings.specs.Refining.{Refines, calls_of}
use Rattle.interleavings.specs.Renewing.{FlushesRefine, PagesRefine, ReadsFailWithTheDevice}
use Rattle.interleavings.specs.Words.{ActiveView, CallView, Caller, Entry, IsFileOf, KernelState, PoolState, RecordKey, State, Table, after, call_at, restarted, store_of, with_call}
use Rattle.interleavings.proofs.RenewLemmas.{taken_back}

-- ---- calls that wait are taken back, one by one

-- the first so many seats have none
abbrev cleared : ℕ → List (Option ActiveView) → List (Option ActiveView)
cleared zero seats = seats
cleared (suc n) seats = with_call (cleared n seats) (suc n) None

many_cleared : (n : ℕ) (seats : List (Option ActiveView)) → length (cleared n seats) ≡ length seats
many_cleared zero seats = refl
many_cleared (suc n) seats = length-with_call (cleared n seats) (suc n) None ∙ many_cleared n seats

beyond : (n i : ℕ) (seats : List (Option ActiveView)) → n < i → call_at (cleared n seats) i ≡ call_at seats i
beyond zero i seats more = refl
beyond (suc n) i seats more =
    at_other (cleared n seats) (suc n) i None (λ is. absurd (omega (arith, more, is)))
    ∙ beyond n i seats (omega (arith, more))

-- the next one has none then
none_next : (n : ℕ) (seats : List (Option ActiveView)) → suc n ≤ length seats →
    call_at (cleared (suc n) seats) (suc n) ≡ None
none_next n seats within = at_same (cleared n seats) (suc n) None (omega arith)
    (subst (λ (m : ℕ). suc n ≤ m) (sym (many_cleared n seats)) within)

gone : (n i : ℕ) (seats : List (Option ActiveView)) → n ≤ length seats → 1 ≤ i → i ≤ n →
    call_at (cleared n seats) i ≡ None
gone zero i seats few some within = absurd (omega (arith, some, within))
gone (suc n) i seats few some within = elim (cases_eq i (suc n)) [
  | inl same ↦ ap (call_at (cleared (suc n) seats)) same ∙ none_next n seats few
  | inr apart ↦ at_other (cleared n seats) (suc n) i None apart
      ∙ gone n i seats (omega (arith, few)) some (omega (arith, within, apart))
]

none_left : (seats : List (Option ActiveView)) (i : ℕ) → call_at (cleared (length seats) seats) i ≡ None
none_left seats i = by (call_at (cleared (length seats) seats) i) refl
  where
    by : (o : Option ActiveView) → call_at (cleared (length seats) seats) i ≡ o → o ≡ None
    by None is = refl
    by (Some a) is =
        let there = seat_of_call (cleared (length seats) seats) i a is in
        absurd (none-some a (sym (gone (length seats) i seats (omega arith) there.0
        (subst (λ (m : ℕ). i ≤ m) (many_cleared (length seats) seats) there.1)) ∙ is))

-- the call that is taken back next waits
waits_next : (n : ℕ) (seats : List (Option ActiveView)) → All IsIdleOrWaits seats → (a : ActiveView) →
    call_at (cleared n seats) (suc n) ≡ Some a → IsWaiting a
waits_next n seats all a there =
    subst IsIdleOrWaits (sym (beyond n (suc n) seats (omega arith)) ∙ there) (waits_at seats all (suc n))

module _ (hash : RecordKey → ℕ) (s : State) (seats : List (Option ActiveView)) (pool : PoolState) (locks : Table)
    (change : Change) (all : All IsIdleOrWaits seats) where
  next_cleared : (n : ℕ) (o : Option ActiveView) → call_at (cleared n seats) (suc n) ≡ o → suc n ≤ length seats →
      AreTogetherIn hash s (calls_of (cleared n seats)) pool locks change →
      AreTogetherIn hash s (calls_of (cleared (suc n) seats)) pool locks change
  next_cleared n None there within t = subst (λ xs. AreTogetherIn hash s (calls_of xs) pool locks change)
      (sym (ap (with_call (cleared n seats) (suc n)) (sym there) ∙ with_own (cleared n seats) (suc n))) t
  next_cleared n (Some a) there within t =
      let went = taken_back hash (suc n) s a.machine (calls_of (cleared n seats)) (calls_of (cleared (suc n) seats))
      pool locks t.together (ap machine there) (new_has_nothing a.machine (waits_next n seats all a there).new)
      (ap machine (none_next n seats within))
      (others_same (cleared n seats) (cleared (suc n) seats) (suc n) None refl) in
      record { together = went.together; phase = went.phase ∙ t.phase }

  all_cleared : (n : ℕ) → n ≤ length seats → AreTogetherIn hash s (calls_of seats) pool locks change →
      AreTogetherIn hash s (calls_of (cleared n seats)) pool locks change
  all_cleared zero within t = t
  all_cleared (suc n) within t = next_cleared n (call_at (cleared n seats) (suc n)) refl within
      (all_cleared n (omega (arith, within)) t)

-- a kernel without them refines the same system
module _ {K : Type 0} (hash : RecordKey → ℕ) (base : State) (k : KernelState K) (led : Refines hash base k)
    (rest : IsBetweenCalls k) where
  abbrev bare : List (Option ActiveView)
  bare = cleared (length k.seats) k.seats

  abbrev counted_k : AreCounted hash led.now k
  counted_k = led.together rest.sound

  pub bare_together : AreTogetherIn hash led.now (calls_of bare) k.pool k.locks counted_k.calls.change
  bare_together = all_cleared hash led.now k.seats k.pool k.locks counted_k.calls.change rest.seats (length k.seats)
      (omega arith) (record { together = counted_k.calls; phase = refl })

  bare_counted : (i : ℕ) → 1 ≤ i → i ≤ length bare → IsCounted i (facts_of (calls_of bare i))
      (count_at k.searches.counts i) (world k.pool.images k.locks counted_k.calls.change)
  bare_counted i some near = subst (λ (o : Option CallView). IsCounted i (facts_of o) (count_at k.searches.counts i)
      (world k.pool.images k.locks counted_k.calls.change)) (sym (ap machine (none_left k.seats i)))
      (counted_idle i (count_at k.searches.counts i) (world k.pool.images k.locks counted_k.calls.change)
      (facts_of (calls_of k.seats i)) (counted_k.counted i some
      (subst (λ (n : ℕ). i ≤ n) (many_cleared (length k.seats) k.seats) near)))

  pub bare_led : Refines hash base (record k { seats = bare })
  bare_led = led_with hash base k (record k { seats = bare }) led refl refl refl refl
      (many_cleared (length k.seats) k.seats) (λ i a there. absurd (none-some a (sym (none_left k.seats i) ∙ there)))
      (λ sound. (counted_in hash led.now (record k { seats = bare }) counted_k.calls.change bare_together
      counted_k.phase bare_counted).all)

-- ---- its pages

-- a file of which the images stay, and what is sealed stays so, while no seat has a call
module _ (hash : RecordKey → ℕ) (s : State) (seats : Seats) (old new : PoolState) (locks : Table)
    (idle : (seat : ℕ) → seats seat ≡ None) (keeps : KeepsImages true old new)
    (before : AreTogether hash s seats old locks) where
  images : new.images ≡ old.images
  images = keeps.images before.honest

  file : IsFilePool new
  file = record {
    file = subst SpellsFile (sym images) before.file.file;
    sealed = λ n within. keeps.seals before.honest refl n
        (before.file.sealed n (subst (λ (is : List (List ℕ)). n < length is) images within));
  }

  still : AreTogether hash s seats new locks
  still = record {
    honest = keeps.honest ∙ before.honest;
    file = file;
    change = before.change;
    sound = subst (λ (is : List (List ℕ)). IsSoundWorld hash (world is locks before.change)) (sym images)
        before.sound;
    filed = before.filed;
    records = before.records;
    stands = λ key. subst (λ (is : List (List ℕ)). StandsAt (store_of is) key (before.records key)) (sym images)
        (before.stands key);
    rows = before.rows;
    calls = λ seat. subst (λ (o : Option CallView). IsWell hash seat s o before.records new locks before.change)
        (sym (idle seat)) tt;
    will = before.will;
    counter = before.counter;
    counts = before.counts;
    next = before.next;
  }

  pub still_idle : AreTogetherIn hash s seats new locks before.change
  unfolding still
  still_idle = record { together = still; phase = refl }

-- and the calls that wait begin again, one by one
module _ (begins : BeginTogether) (hash : RecordKey → ℕ) (s : State) (seats : List (Option ActiveView))
    (old new : PoolState) (locks : Table) (change : Change)
    (before : AreTogetherIn hash s (calls_of seats) old locks change) (all : All IsIdleOrWaits seats) where
  next_begun : (n : ℕ) (o : Option ActiveView) → call_at (cleared n seats) (suc n) ≡ o → suc n ≤ length seats →
      AreTogetherIn hash s (calls_of (cleared (suc n) seats)) new locks change →
      AreTogetherIn hash s (calls_of (cleared n seats)) new locks change
  next_begun n None there within t = subst (λ xs. AreTogetherIn hash s (calls_of xs) new locks change)
      (ap (with_call (cleared n seats) (suc n)) (sym there) ∙ with_own (cleared n seats) (suc n)) t
  next_begun n (Some a) there within t =
      let waits = waits_next n seats all a there in
      let at : calls_of seats (suc n) ≡ Some a.machine =
      ap machine (sym (beyond n (suc n) seats (omega arith)) ∙ there) in
      let fits = well hash (suc n) s (calls_of seats (suc n)) before.together.records old locks before.together.change
      a.machine at (before.together.calls (suc n)) in
      let begun = begins hash (suc n) a.machine.caller a.machine.call s a.machine (calls_of (cleared (suc n) seats))
      (calls_of (cleared n seats)) new locks t.together
      (ap machine (none_next n seats within)) fits.caller_fits fits.call_fits
      (record { caller_is = refl; call_is = refl; new = waits.new })
      (ap machine there) (λ other apart. ap machine (sym (at_other (cleared n seats) (suc n) other None apart))) in
      record { together = begun.together; phase = begun.phase ∙ t.phase }

  all_begun : (n : ℕ) → n ≤ length seats → AreTogetherIn hash s (calls_of (cleared n seats)) new locks change →
      AreTogetherIn hash s (calls_of seats) new locks change
  all_begun zero within t = t
  all_begun (suc n) within t =
      all_begun n (omega (arith, within)) (next_begun n (call_at (cleared n seats) (suc n)) refl within t)

-- so all stay together beside the new pool
module _ (begins : BeginTogether) {K : Type 0} (hash : RecordKey → ℕ) (base : State) (old new : KernelState K)
    (led : Refines hash base old) (rest : IsBetweenCalls old) (kept : KeepsPages old new) where
  abbrev was : AreCounted hash led.now old
  was = led.together rest.sound

  together_still : AreTogetherIn hash led.now (calls_of old.seats) new.pool old.locks was.calls.change
  together_still =
      let bared = bare_together hash base old led rest in
      let on_new = still_idle hash led.now (calls_of (bare hash base old led rest)) old.pool new.pool old.locks
      (λ seat. ap machine (none_left old.seats seat)) kept.keeps bared.together in
      all_begun begins hash led.now old.seats old.pool new.pool old.locks was.calls.change
      (record { together = was.calls; phase = refl }) rest.seats (length old.seats) (omega arith)
      (record { together = on_new.together; phase = on_new.phase ∙ bared.phase })

  pub pages_kept : Refines hash base (record old { pool = new.pool })
  pages_kept = led_with hash base old (record old { pool = new.pool }) led refl refl refl refl refl led.sits (λ sound.
      (counted_in hash led.now (record old { pool = new.pool }) was.calls.change together_still was.phase
      (λ seat some within. subst (λ (is : List (List ℕ)). IsCounted seat (facts_of (calls_of old.seats seat))
      (count_at old.searches.counts seat) (world is old.locks was.calls.change))
      (sym (kept.keeps.images was.calls.honest)) (was.counted seat some within))).all)

pub pages_led : BeginTogether → (K : Type 0) → PagesRefine K
pages_led begins K hash base old new led rest kept =
    subst (Refines hash base) (sym kept.is) (pages_kept begins hash base old new led rest kept)

pub flushes_led : BeginTogether → (K : Type 0) → ClosesRefine K → FlushesRefine K
flushes_led begins K closes hash base old new led rest flushed =
    let honest = (led.together rest.sound).calls.honest in
    let same_journal = ap (λ (k : KernelState K). k.journal) flushed.stay.is in
    let same_callers = ap (λ (k : KernelState K). k.callers) flushed.stay.is in
    let file = closes hash base new.pool.stored (record old { seats = bare hash base old led rest })
    (bare_led hash base old led rest) (none_left old.seats) rest.sound (flushed.has honest).written in
    record {
      led = pages_led begins K hash base old new led rest flushed.stay;
      file = subst (λ (cs : List Caller). IsFileOf hash new.pool.stored (restarted (after cs new.journal base)))
          (sym same_callers)
          (subst (λ (es : List Entry). IsFileOf hash new.pool.stored (restarted (after old.callers es base)))
          (sym same_journal) file);
    }

-- a page is read, unless a transfer fails: what the device has is the file
pub reads_fail : (K : Type 0) → ReadsFailWithTheDevice K
reads_fail K hash base page (Device device.Device) old new led rest within failed = failed.failed refl
reads_fail K hash base page (Device device.BadDigest) old new led rest within failed =
    let was = (led.together rest.sound).calls in
    absurd (failed.told was.honest (was.file.sealed page within))
reads_fail K hash base page (Device device.PastEnd) old new led rest within failed = absurd (failed.there refl)
reads_fail K hash base page (Device device.DeviceFull) old new led rest within failed = absurd failed.told
reads_fail K hash base page (Device device.NoMemory) old new led rest within failed = absurd failed.told
reads_fail K hash base page Malformed old new led rest within failed =
    let was = (led.together rest.sound).calls in
    absurd (failed.told was.honest (is_well old.pool.images was.file.file page within))
reads_fail K hash base page TooFewFrames old new led rest within failed = absurd (failed.room refl)
reads_fail K hash base page NoMemory old new led rest within failed = absurd failed.told
