-- A kernel that is led from a system: it is opened, calls begin, it is stopped, and what it says.
use Rattle.std.proofs.Common.{ℕ, ◌≡◌, ◌≤◌, inl, inr, refl, sym, ap, ◌∙◌, subst, Bool, true, false, List, [], ◌∷◌, ◌++◌, Option, Some, None, length}
use Rattle.std.proofs.lemmas.Option.{none-some}
use Rattle.std.proofs.lemmas.Bool.{cases_eq}
use Rattle.std.proofs.lemmas.List.{length-replicate}
use Rattle.interleavings.specs.ConcurrentLaws.{AreTheOthers, BeginTogether, LeaveAtRest, RestTogether, StopTogether}
use Rattle.interleaving_core.specs.Counting.{CountsState, count_at}
use Rattle.interleaving_core.specs.xsi_calls.Words.{world}
use Rattle.step_rules.specs.Words.{Quiet}
use Rattle.interleavings.specs.Counting.{facts_of}
use Rattle.interleavings.proofs.CountedLemmas.{counted_at_first, counted_in, counted_of, fresh_facts, opened_count}
use Rattle.interleaving_core.proofs.BeginLemmas.{idle_at}
use Rattle.interleaving_core.proofs.PlaceLemmas.{at_other, at_same, length-with_call}
use Rattle.interleavings.proofs.CloseLemmas.{closes_flushed}
use Rattle.files_at_rest.proofs.OpenedOpenLemmas.{opens_at_rest}
use Rattle.queue_model.proofs.JournalLemmas.{LeadsAlong-push, after-LeadsAlong}
use Rattle.queue_model.specs.Laws.{KeepsOrder}
use Rattle.queue_model.specs.declared.entry.Entry.TheVariants.{Stopped}
use Rattle.interleavings.specs.Words.{ActiveView, Call, Caller, Entry, HasCall, IsFileAtRest, IsSeat, IsStopped, KernelState, LeadsAlong, PoolState, RecordKey, State, after, call_at, caller_at, with_call}
use Rattle.interleavings.specs.Refining.{Refines, calls_of}
use Rattle.interleavings.specs.Laws.{AnswersAsPlainLists, BeginsRefine, ClosesRefine, OpensRefine, RefusalsRefine, SearchesHopFew, StopsRefine}
use Rattle.interleavings.proofs.LeadLemmas.{led_with, machine, others_same}

-- ---- it is opened

pub opens_led : RestTogether → (K : Type 0) → OpensRefine K
opens_led rests K hash keys content honest callers frames k opened true_to_it has some few =
    let rest = opens_at_rest hash content has.0 frames (length callers) k.pool.faults honest k.pool.synced has.1
    true_to_it some few in record {
      base = has.0;
      file = has.1;
      led = record {
        now = has.0;
        leads = subst (λ (es : List Entry). LeadsAlong k.callers es has.0 has.0) (sym opened.journal) refl;
        mark = rest.running ∙ sym opened.stopped;
        rows = ap length opened.locks ∙ length-replicate (length callers) []
            ∙ sym (length-replicate (length callers) None) ∙ ap length (sym opened.seats);
        seated = ap length opened.callers ∙ sym (length-replicate (length callers) None) ∙ ap length (sym opened.seats);
        sits = λ seat a there. absurd (none-some a (sym (idle_at (length callers) seat)
            ∙ ap (λ (x : List (Option ActiveView)). call_at x seat) (sym opened.seats) ∙ there));
        callers = λ seat caller sits. opened.fitting seat caller (sym (ap (λ (cs : List Caller). caller_at cs seat)
            opened.callers) ∙ sits);
        together = λ sound. (counted_in hash has.0 k Quiet
            (rests hash has.0 (calls_of k.seats) k.pool k.locks
            (subst (λ (p : PoolState). IsFileAtRest hash has.0 p k.locks) (sym opened.pool)
            (subst (IsFileAtRest hash has.0 _) (sym opened.locks) rest.rest)) idle)
            (ap (λ (c : CountsState). c.under_way) opened.searches)
            (λ seat some within. counted_at_first seat (count_at k.searches.counts seat)
            (world k.pool.images k.locks Quiet) (calls_of k.seats seat) (idle seat)
            (ap (λ (c : CountsState). count_at c.counts seat) opened.searches
            ∙ opened_count (length callers) seat some
            (subst (λ (n : ℕ). seat ≤ n) (ap length opened.seats ∙ length-replicate (length callers) None)
            within)))).all;
      };
    }
  where
    idle : (seat : ℕ) → calls_of k.seats seat ≡ None
    idle seat = ap machine (ap (λ (x : List (Option ActiveView)). call_at x seat) opened.seats
        ∙ idle_at (length callers) seat)

-- ---- a call begins

module _ (begins : BeginTogether) {K : Type 0} (hash : RecordKey → ℕ) (base : State) (seat : ℕ) (call : Call)
    (old new : KernelState K) (is : IsSeat old.locks seat)
    (led : Refines hash base old) (has : HasCall seat call old new) where
  within_begun : seat ≤ length old.seats
  within_begun = subst (λ (n : ℕ). seat ≤ n) led.rows is.1

  sits_begun : (i : ℕ) (a : ActiveView) → call_at (with_call old.seats seat (Some has.active)) i ≡ Some a →
      caller_at old.callers i ≡ Some a.machine.caller
  sits_begun i a there = elim (cases_eq i seat) [
    | inl same ↦
        let its : ◌≡◌ {A = Option ActiveView} (Some has.active) (Some a) =
        sym (at_same old.seats seat (Some has.active) is.0 within_begun)
        ∙ ap (call_at (with_call old.seats seat (Some has.active))) (sym same) ∙ there in
        let is_a : has.active ≡ a = cc in
        ap (caller_at old.callers) same ∙ has.sits
        ∙ ap Some (sym has.begun.begins.caller_is ∙ ap (λ (x : ActiveView). x.machine.caller) is_a)
    | inr apart ↦ led.sits i a (sym (at_other old.seats seat i (Some has.active) apart) ∙ there)
  ]

  abbrev with_begun : List (Option ActiveView)
  with_begun = with_call old.seats seat (Some has.active)

  there_begun : call_at with_begun seat ≡ Some has.active
  there_begun = at_same old.seats seat (Some has.active) is.0 within_begun

  others_begun : AreTheOthers seat (calls_of old.seats) (calls_of with_begun)
  others_begun = others_same old.seats with_begun seat (Some has.active) refl

  -- a call that has just begun knows nothing
  same_facts : (i : ℕ) → facts_of (calls_of with_begun i) ≡ facts_of (calls_of old.seats i)
  same_facts i = elim (cases_eq i seat) [
    | inl same ↦ ap (λ (n : ℕ). facts_of (calls_of with_begun n)) same ∙ ap facts_of (ap machine there_begun)
        ∙ fresh_facts has.active.machine has.begun.begins.new
        ∙ sym (ap (λ (n : ℕ). facts_of (calls_of old.seats n)) same ∙ ap facts_of (ap machine has.may.free))
    | inr apart ↦ ap facts_of (others_begun i apart)
  ]

  begun_led : Refines hash base (record old { seats = with_call old.seats seat (Some has.active); room = new.room })
  begun_led = led_with hash base old (record old { seats = with_begun; room = new.room }) led refl refl refl refl
      (length-with_call old.seats seat (Some has.active)) sits_begun (λ sound.
      let was = led.together sound in
      (counted_in hash led.now (record old { seats = with_begun; room = new.room }) was.calls.change
      (begins hash seat has.caller call led.now has.active.machine (calls_of old.seats) (calls_of with_begun)
      old.pool old.locks was.calls (ap machine has.may.free) (led.callers seat has.caller has.sits) has.fits
      has.begun.begins (ap machine there_begun) others_begun)
      was.phase
      (λ i some near. counted_of i (count_at old.searches.counts i)
      (world old.pool.images old.locks was.calls.change) (facts_of (calls_of old.seats i))
      (facts_of (calls_of with_begun i)) (same_facts i)
      (was.counted i some (subst (λ (n : ℕ). i ≤ n) (length-with_call old.seats seat (Some has.active)) near)))).all)

pub begins_led : BeginTogether → (K : Type 0) → BeginsRefine K
begins_led begins K hash base seat call old new is led has =
    subst (Refines hash base) (sym has.is) (begun_led begins hash base seat call old new is led has)

pub refuses_led : (K : Type 0) → RefusalsRefine K
refuses_led K hash base seat call refusal old new led refused =
    subst (Refines hash base) (sym refused.same)
    (led_with hash base old (record old { room = new.room }) led refl refl refl refl refl led.sits (λ sound.
    let was = led.together sound in
    record { calls = was.calls; phase = was.phase; counted = was.counted }))

-- ---- it is stopped

module _ (stops : StopTogether) {K : Type 0} (hash : RecordKey → ℕ) (base : State) (old new : KernelState K)
    (led : Refines hash base old) (stop : IsStopped old new) where
  first : old.stopped ≡ false →
      Refines hash base (record old { journal = old.journal ++ Stopped ∷ []; stopped = true; room = new.room })
  first running = record {
    now = record led.now { stopped = true };
    leads = LeadsAlong-push old.callers old.journal Stopped base led.now (record led.now { stopped = true }) led.leads
        (led.mark ∙ running, refl);
    mark = refl;
    callers = led.callers;
    rows = led.rows;
    seated = led.seated;
    sits = led.sits;
    together = λ sound.
        let was = led.together sound in
        (counted_in hash (record led.now { stopped = true })
        (record old { journal = old.journal ++ Stopped ∷ []; stopped = true; room = new.room }) was.calls.change
        (stops hash led.now true (calls_of old.seats) old.pool old.locks was.calls) was.phase was.counted).all;
  }

  pub stopped_by : (b : Bool) → old.stopped ≡ b → Refines hash base new
  stopped_by true is = subst (Refines hash base) (sym (stop.again is)) led
  stopped_by false is = subst (Refines hash base) (sym (stop.first is)) (first is)

pub stops_led : StopTogether → (K : Type 0) → StopsRefine K
stops_led stops K hash base old new led stop = stopped_by stops hash base old new led stop old.stopped refl

-- ---- the headline

pub as_plain_lists : LeaveAtRest → KeepsOrder → (K : Type 0) → AnswersAsPlainLists K
as_plain_lists rests order K hash base k lawful led = record {
  legal = (led.now, led.leads);
  fifo = order k.callers k.journal base led.now lawful led.leads;
  file = λ idle sound. subst (λ (s : State). IsFileAtRest hash s k.pool k.locks)
      (sym (after-LeadsAlong k.callers k.journal base led.now led.leads))
      (rests hash led.now (calls_of k.seats) k.pool k.locks (led.together sound).calls
      (λ seat. ap machine (idle seat)));
}

-- ---- what it counts

pub counts_few : (K : Type 0) → SearchesHopFew K
counts_few K hash base k seat led sound some within =
    ((led.together sound).counted seat some (subst (λ (n : ℕ). seat ≤ n) led.rows within)).hops

-- ---- it is closed

pub closes_led : LeaveAtRest → (K : Type 0) → ClosesRefine K
closes_led rests K hash base content k led idle sound flushed =
    closes_flushed hash (after k.callers k.journal base) k.pool k.locks content
    (subst (λ (s : State). IsFileAtRest hash s k.pool k.locks)
    (sym (after-LeadsAlong k.callers k.journal base led.now led.leads))
    (rests hash led.now (calls_of k.seats) k.pool k.locks (led.together sound).calls
    (λ seat. ap machine (idle seat)))) flushed
