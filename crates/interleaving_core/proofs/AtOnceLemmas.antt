-- A step of a seat's call by which it is not over is one of a kernel; and what two of them leave of the call's entry.
use Rattle.std.proofs.Common.{◌≡◌, ◌≢◌, refl, sym, ap, ◌∙◌, subst, ℕ, ◌≤◌, false, true≢false, IsSome, inl, ◌∷◌, ◌++◌, Option, Some, None, length}
use Rattle.std.specs.Option.{is_some}
use Rattle.file_pages.specs.declared.fault.FileFault.{FileFault}
use Rattle.queue_model.specs.declared.entry.Entry.TheVariants.{Decided}
use Rattle.xsi_calls.specs.CallSteps.{KeepsCall, MakesCall}
use Rattle.xsi_calls.specs.declared.conclusion.Conclusion.{Conclusion}
use Rattle.interleaving_core.specs.Words.{Answer, CallView, IsSeat, Progress, RecordKey, answer_of_call, conclusion_of}
use Rattle.interleaving_core.specs.Active.{ActiveView, IsDrafted, IsMarked, draft_by, entries_by}
use Rattle.interleaving_core.specs.Driving.{IsStep}
use Rattle.interleaving_core.specs.Kernel.{IsWhole, KernelState, call_at, with_call}
use Rattle.interleaving_core.specs.Owing.{failure_by}
use Rattle.interleaving_core.specs.Searches.{Counts}
use Rattle.interleaving_core.specs.Turn.{MakesTurn, Turns, told_on}
use Rattle.interleaving_core.specs.Waiting.{stays_waiting}
use Rattle.interleaving_core.specs.declared.active.Draft.{Draft}
use Rattle.interleaving_core.specs.declared.step.Step.{Step}
use Rattle.interleaving_core.specs.declared.step.Step.TheVariants as steps
use Rattle.interleaving_core.proofs.AnewLemmas.{turn_does}
use Rattle.interleaving_core.proofs.FailureLemmas.{turn_cause}
use Rattle.interleaving_core.proofs.KernelLemmas.{same_here, turn_behind, whole_behind}
use Rattle.interleaving_core.proofs.RunLemmas.{seat_stays}
use Rattle.interleaving_core.proofs.SeatLemmas.{goes_on_by}
use Rattle.interleaving_core.proofs.TurnLemmas.{Does, none_left, some_by, stays_at}

-- ---- its entry

-- where an answer stays, what is kept behind two steps is what the last one leaves
pub draft_twice : (x y : Option Answer) (d : Option Draft) → (IsSome x → y ≡ x) →
    draft_by y (draft_by x d) ≡ draft_by y d
draft_twice None y d stays = refl
draft_twice (Some z) None d stays =
    let clash : ◌≡◌ {A = Option Answer} None (Some z) = stays refl in
    absurd cc
draft_twice (Some z) (Some w) d stays = refl

-- and the entries that both add are those of the last one
pub entries_twice : (seat : ℕ) (x y : Option Answer) (d : Option Draft) → (IsSome x → y ≡ x) →
    entries_by seat x d ++ entries_by seat y (draft_by x d) ≡ entries_by seat y d
entries_twice seat None y d stays = refl
entries_twice seat (Some z) y None stays = refl
entries_twice seat (Some z) y (Some d) stays =
    subst (λ (x : Option Answer). Decided seat d.call z ∷ entries_by seat x None ≡ entries_by seat x (Some d))
    (sym (stays refl)) refl

-- of a call that is not answered yet something is kept; of another none
pub draft_first : (m : CallView) (draft : Option Draft) → IsDrafted m draft →
    draft_by (answer_of_call m) draft ≡ draft
draft_first m None some = none_left (answer_of_call m)
draft_first m (Some d) had = ap (λ (x : Option Answer). draft_by x (Some d)) had.unanswered

module _ (did : Progress FileFault) (m m' : CallView) (keeps : KeepsCall did m m') where
  pub answer_stays : IsSome (answer_of_call m) → answer_of_call m' ≡ answer_of_call m
  answer_stays some =
      stays_at did m m' keeps (conclusion_of m) refl
      (some_by (conclusion_of m) m.undecided.questions.room.bytes some)

  pub drafted_behind : (draft : Option Draft) → IsDrafted m draft →
      IsDrafted m' (draft_by (answer_of_call m') draft)
  drafted_behind None some =
      subst (IsDrafted m') (sym (none_left (answer_of_call m'))) (subst IsSome (sym (answer_stays some)) some)
  drafted_behind (Some d) had = by (answer_of_call m') refl
    where
      by : (x : Option Answer) → answer_of_call m' ≡ x → IsDrafted m' (draft_by x (Some d))
      by None is = record { unanswered = is; call = had.call ∙ sym keeps.call; room = had.room ∙ sym keeps.most }
      by (Some x) is = subst IsSome (sym is) refl

  -- one that has come to nothing had not either
  pub undecided_before : conclusion_of m' ≡ None → conclusion_of m ≡ None
  undecided_before none = by (conclusion_of m) refl
    where
      by : (c : Option Conclusion) → conclusion_of m ≡ c → conclusion_of m ≡ None
      by None is = is
      by (Some c) is =
          let clash : ◌≡◌ {A = Option Conclusion} (Some c) None = sym (keeps.stays c is) ∙ none in
          absurd cc

pub none_is : (o : Option ℕ) → is_some o ≡ false → o ≡ None
none_is None none = refl
none_is (Some n) none = absurd cc

-- ---- a step

-- a step by which its call is not over, behind which the kernel is whole
pub record LeadsOn {K : Type 0} (hash : RecordKey → ℕ) (seat : ℕ) (told : Step) (b c : KernelState K) : Type 0 where
  pub step : IsStep hash seat told b c
  pub is_whole : IsWhole c
  pub is_seat : IsSeat c.locks seat

-- from the kernel b with the call x at the seat, to c with y
module _ {K : Type 0} (of : K → RecordKey → ℕ) (seat : ℕ) (b : KernelState K) (whole : IsWhole b)
    (is : IsSeat b.locks seat) (sound : b.failed ≡ false) (x : ActiveView) (there : call_at b.seats seat ≡ Some x)
    (awake : x.wait ≡ None) (kept : IsDrafted x.machine x.draft) (did : Progress FileFault) (told : Step)
    (on : told_on did ≡ Some told) (y : ActiveView) (marked : IsMarked (length b.journal) x y)
    (draft : y.draft ≡ draft_by (answer_of_call y.machine) x.draft) (c : KernelState K)
    (seats : c.seats ≡ with_call b.seats seat (Some y)) (keys : c.keys ≡ b.keys) (callers : c.callers ≡ b.callers)
    (stopped : c.stopped ≡ b.stopped) (room : b.room ≤ c.room) (blamed : c.failed ≡ is_some c.failure)
    (failure : c.failure ≡ failure_by seat told None)
    (grows : c.journal ≡ b.journal ++ entries_by seat (answer_of_call y.machine) x.draft)
    (makes : MakesCall (of b.keys) seat b.stopped did x.machine y.machine b.pool c.pool b.locks c.locks)
    (counts : Counts seat told b c) where
  went : MakesTurn (of b.keys) seat b.stopped told x (Some y) b.pool c.pool b.locks c.locks b.journal c.journal
      × (told ≢ steps.Waiting)
  went = goes_on_by (of b.keys) seat b.stopped did x y b.pool c.pool b.locks c.locks b.journal c.journal makes kept
      draft grows marked told on

  turns : Turns (of b.keys) seat b.stopped told (call_at b.seats seat) (Some y) b.pool c.pool b.locks c.locks
      b.journal c.journal
  turns = subst (λ (o : Option ActiveView). Turns (of b.keys) seat b.stopped told o (Some y) b.pool c.pool b.locks
      c.locks b.journal c.journal) (sym there) (record {
        waits = λ stays. absurd (true≢false (sym stays
            ∙ ap (λ (w : Option ℕ). stays_waiting w x.machine.call b.journal) awake));
        goes = λ stays. inl went;
      })

  does : Does seat told (call_at b.seats seat) (Some y) b.pool c.pool b.locks c.locks b.journal c.journal
  does = turn_does (of b.keys) seat b.stopped told (call_at b.seats seat) (Some y) b.pool c.pool b.locks c.locks
      b.journal c.journal turns

  none_there : call_at b.seats seat ≡ None → ⊥
  none_there none = let clash : Some x ≡ None = sym there ∙ none in cc

  step : IsStep (of b.keys) seat told b c
  step = record {
    turn = turn_behind seat told (Some y) b c whole is does seats keys callers stopped counts blamed
        (λ none. absurd (none_there none)) sound failure (λ waits. absurd (went.1 waits))
        (λ fault is_fault. turn_cause (of b.keys) seat b.stopped told fault is_fault (call_at b.seats seat) (Some y)
        b.pool c.pool b.locks c.locks b.journal c.journal turns);
    makes = λ a at_a fine. subst (λ (o : Option ActiveView). Turns (of b.keys) seat b.stopped told (Some a) o b.pool
        c.pool b.locks c.locks b.journal c.journal)
        (sym (same_here seat told (Some y) b c whole is does seats keys callers stopped counts blamed))
        (subst (λ (o : Option ActiveView). Turns (of b.keys) seat b.stopped told o (Some y) b.pool c.pool b.locks
        c.locks b.journal c.journal) at_a turns);
  }

  pub leads_on : LeadsOn (of b.keys) seat told b c
  leads_on = record {
    step = step;
    is_whole = whole_behind seat told (Some y) b c whole is does seats keys callers stopped counts blamed room;
    is_seat = seat_stays seat _ b c step.turn.run is;
  }
