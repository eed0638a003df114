-- What a step of a seat does to the file and the locks is what the seat is told.
use Rattle.std.proofs.Common.{ℕ, ◌≡◌, refl, sym, ap, ◌∙◌, subst, Bool, true, false, Option, Some, None}
use Rattle.std.proofs.lemmas.Option.{none-some, same_Some}
use Rattle.std.proofs.lemmas.Bool.{true≢false}
use Rattle.interleavings.specs.Together.{AreTogether, IsUnderWay}
use Rattle.interleavings.specs.LoneCallWords.{call_left}
use Rattle.interleavings.proofs.SeatLemmas.{well}
use Rattle.interleaving_core.specs.Active.{is_waiting}
use Rattle.interleaving_core.specs.Owing.{is_failure}
use Rattle.interleaving_core.specs.Turn.{IsLeft, IsLeftWhenOver, MakesTurn, StaysWaiting, told_of, told_when_over}
use Rattle.interleaving_core.specs.xsi_calls.CallSteps.{StepsCall}
use Rattle.interleaving_core.specs.xsi_calls.Words.{Change, NearsOrSpares, World, its_plan, trials_of, world}
use Rattle.interleaving_core.specs.xsi_calls.declared.conclusion.Conclusion.TheVariants as conclusions
use Rattle.queue_model.proofs.JournalLemmas.{after-LeadsAlong}
use Rattle.step_rules.specs.Turns.{TurnsAt}
use Rattle.step_rules.specs.declared.progress.Progress.TheVariants as progress
use Rattle.interleavings.specs.Words.{ActiveView, Answer, Call, Caller, FileFault, KernelState, PoolState, Progress, RecordKey, State, Step, after as journal_after, answer_of_call, call_at, conclusion_of, is_fault, lacks_room, outcome, store_of}
use Rattle.interleavings.specs.Doing.{ComesToLack, DoesBy, LacksRightly, LeavesAll, turn_of}
use Rattle.interleavings.specs.Refining.{Refines, RefinesIn, calls_of}
use Rattle.interleavings.proofs.LackingLemmas.{fresh_room, turns_full}
use Rattle.interleavings.proofs.TurnedLemmas.{inserts_as_long, is_of_plan}
use Rattle.interleavings.proofs.LeadLemmas.{machine}

-- a kernel is led on by a step of this call
pub record LeadsDoing {K : Type 0} (hash : RecordKey → ℕ) (base : State) (seat : ℕ) (by : ActiveView) (did : Step)
    (before : Change) (old new : KernelState K) : Type 0 where
  pub behind : Change
  pub led : RefinesIn hash base new behind
  pub does : DoesBy hash base seat by did before behind old new
  pub lacks : LacksRightly hash seat by did before new

module _ {K : Type 0} (hash : RecordKey → ℕ) (base : State) (seat : ℕ) (a : ActiveView) (did : Step)
    (old new : KernelState K) (led : Refines hash base old) (there : call_at old.seats seat ≡ Some a)
    (sound : old.failed ≡ false) where
  abbrev together : AreTogether hash led.now (calls_of old.seats) old.pool old.locks
  together = (led.together sound).calls

  abbrev phase : Change
  phase = (led.together sound).calls.change

  at : IsUnderWay hash seat led.now a.machine together.records old.pool old.locks together.change
  at = well hash seat led.now (calls_of old.seats seat) together.records old.pool old.locks together.change a.machine
      (ap machine there) (together.calls seat)

  pub waiting : StaysWaiting did a (call_at new.seats seat) old.pool new.pool old.locks new.locks old.journal
      new.journal →
      DoesBy hash base seat a did phase phase old new
  waiting stays =
      subst (λ (told : Step). DoesBy hash base seat a told phase phase old new) (sym stays.told_is) (record {
        file = ap (λ (p : PoolState). store_of p.images) stays.same_pool;
        locks = stays.same_locks;
        phase = refl;
      })

  -- a call that waits has as much room as before
  pub waiting_lacks : StaysWaiting did a (call_at new.seats seat) old.pool new.pool old.locks new.locks old.journal
      new.journal → LacksRightly hash seat a did phase new
  waiting_lacks stays come left sound_still room lacks =
      let same = same_Some _ come (sym stays.left_is ∙ left) in
      absurd (true≢false (sym (ap (λ (x : ActiveView). lacks_room x.machine) same ∙ lacks) ∙ room))

  module _ (turn : MakesTurn hash seat old.stopped did a (call_at new.seats seat) old.pool new.pool old.locks new.locks
      old.journal new.journal) where
    abbrev come : ActiveView
    come = turn.come

    module _ (fine : is_fault turn.did ≡ false) (after : Change)
        (does : TurnsAt hash (turn_of hash a old) turn.did seat (world old.pool.images old.locks phase)
        (world new.pool.images new.locks after)) where
      abbrev Does : Step → Type 0
      Does told = DoesBy hash base seat a told phase after old new

      step : StepsCall hash seat led.now turn.did a.machine come.machine together.records old.pool new.pool old.locks
          new.locks together.change
      step = turn.makes.step led.now together.records together.change at.calls led.mark fine

      abbrev before : World
      before = world old.pool.images old.locks phase

      abbrev behind : World
      behind = world new.pool.images new.locks after

      does_at : (p : Progress FileFault) → turn.did ≡ p → TurnsAt hash (turn_of hash a old) p seat before behind
      does_at p is = subst (λ (d : Progress FileFault). TurnsAt hash (turn_of hash a old) d seat before behind) is does

      leaves : behind ≡ before → LeavesAll phase after old new
      leaves same = record {
        file = ap (λ (w : World). w.store) same;
        locks = ap (λ (w : World). w.locks) same;
        phase = ap (λ (w : World). w.change) same;
      }

      -- where its Decide makes it wait
      waits : conclusion_of a.machine ≡ None → conclusion_of come.machine ≡ Some conclusions.Waits →
          outcome a.machine.caller a.machine.call (journal_after old.callers old.journal base) ≡ None
      waits undecided is =
          subst (λ (s : State). outcome a.machine.caller a.machine.call s ≡ None)
          (sym (after-LeadsAlong old.callers old.journal base led.now led.leads))
          (subst (λ (c : Caller). outcome c a.machine.call led.now ≡ None) turn.makes.aim.caller
          (subst (λ (c : Call). outcome come.machine.caller c led.now ≡ None) turn.makes.aim.call
          (step.concludes undecided conclusions.Waits is).rules))

      -- a call that is over leaves all, whatever its seat is told
      over : (waits : Bool) (answer : Option Answer) → LeavesAll phase after old new
          → Does (told_when_over waits answer)
      over true answer left = left
      over false (Some answer) left = left
      over false None left = left

      told : (p : Progress FileFault) → turn.did ≡ p → IsLeft p come (call_at new.seats seat) →
          Does (told_of p come.machine)
      told (progress.Moved kind) p left = (
        come,
        left,
        record { does = does_at (progress.Moved kind) p; full = step.full; waits = waits },
      )
      told (progress.Blocked other) p left =
          let blocked = does_at (progress.Blocked other) p in
          record { stands = blocked.0; leaves = leaves blocked.1 }
      told (progress.Fault fault) p left = absurd (true≢false (sym (ap is_fault p) ∙ fine))
      told progress.Ended p left = over (is_waiting (conclusion_of come.machine)) (answer_of_call come.machine)
          (leaves (does_at progress.Ended p))

      pub made : Does did
      made = subst Does (sym turn.told_is) (told turn.did refl turn.left_is)

      come_lacks : lacks_room a.machine ≡ false → lacks_room come.machine ≡ true → ComesToLack hash a come phase new
      come_lacks room lacks =
          let full = turns_full hash seat led.now turn.did a.machine come.machine together.records old.pool new.pool
          old.locks new.locks together.change turn.makes.aim step room lacks in
          let finds = step.full full.room_before full.none_then in
          record {
            finds = finds;
            undecided = full.undecided;
            its = inserts_as_long hash seat led.now together.filed a.machine come.machine together.records step.after
                old.pool new.pool old.locks new.locks together.change step.step.after turn.makes.aim.call full.before
                full.undecided full.none_then at.calls step.behind finds.entry
                (is_of_plan (its_plan a.machine.call a.machine.undecided.questions)
                (trials_of a.machine.undecided).due finds.entry finds.is);
          }

      -- one that begins anew lacks none
      over_lacks : (waits : Bool) → IsLeftWhenOver waits come (call_at new.seats seat) → (x : ActiveView) →
          call_at new.seats seat ≡ Some x → lacks_room x.machine ≡ true → ComesToLack hash a x phase new
      over_lacks true (again, left, begins) x there_now lacks =
          let same = same_Some again x (sym left ∙ there_now) in
          absurd (true≢false (sym (ap (λ (y : ActiveView). lacks_room y.machine) same ∙ lacks)
          ∙ fresh_room again.machine begins.begins.new))
      over_lacks false left x there_now lacks = absurd (none-some x (sym left ∙ there_now))

      pub made_lacks : LacksRightly hash seat a did phase new
      made_lacks x there_now sound_still room lacks = by turn.did refl turn.left_is
        where
          come_on : call_at new.seats seat ≡ Some come → ComesToLack hash a x phase new
          come_on left =
              let same = same_Some come x (sym left ∙ there_now) in
              subst (λ (y : ActiveView). ComesToLack hash a y phase new) same
              (come_lacks room (ap (λ (y : ActiveView). lacks_room y.machine) same ∙ lacks))

          by : (p : Progress FileFault) → turn.did ≡ p → IsLeft p come (call_at new.seats seat) →
              ComesToLack hash a x phase new
          by (progress.Moved kind) p left = come_on left
          by (progress.Blocked other) p left = come_on left
          by (progress.Fault fault) p left = come_on left
          by progress.Ended p left = over_lacks (is_waiting (conclusion_of come.machine)) left x there_now lacks

    module _ (fault : FileFault) (is : turn.did ≡ progress.Fault fault) (after : Change) where
      spares : NearsOrSpares (progress.Fault fault) (call_left a.machine (store_of old.pool.images))
          (call_left come.machine (store_of new.pool.images)) old.pool new.pool
      spares = subst (λ (d : Progress FileFault). NearsOrSpares d (call_left a.machine (store_of old.pool.images))
          (call_left come.machine (store_of new.pool.images)) old.pool new.pool) is
          (turn.makes.progress led.now together.records together.change at.calls led.mark)

      pub failed : DoesBy hash base seat a did phase after old new
      failed = subst (λ (told : Step). DoesBy hash base seat a told phase after old new)
          (sym (turn.told_is ∙ ap (λ (d : Progress FileFault). told_of d come.machine) is))
          (record {
            device = spares.devices;
            file = ap store_of spares.images;
          })

      pub failed_lacks : LacksRightly hash seat a did phase new
      failed_lacks x there_now sound_still room lacks =
          absurd (true≢false (sym (ap is_failure (turn.told_is
          ∙ ap (λ (d : Progress FileFault). told_of d come.machine) is)) ∙ sound_still))
