-- A lone call is driven: each step that moves leaves fewer, and so there is a last one.
use Rattle.std.proofs.Common.{ℕ, zero, suc, ◌+◌, ◌≤◌, sym, ap, subst, inl, inr, arith}
use Rattle.std.specs.Prelude.{◌⊎◌}
use Rattle.interleaving_core.specs.Driving.{ComesToRest, Moves}
use Rattle.interleaving_core.specs.declared.step.Step.TheVariants as steps
use Rattle.interleavings.specs.ConcurrentLaws.{BeginTogether}
use Rattle.interleavings.specs.LoneKernelWords.{Call, Caller, HasCall, HaveFewSteps, IsDriven, IsSeat, IsSpent, KernelState, MOST_CALL_STEPS, RecordKey, State, Step, Table, call_left, store_of}
use Rattle.interleavings.specs.Lone.{ServesOver}
use Rattle.interleavings.specs.LoneKernelLaws.{AnswersLoneCalls, DrivesByTheRules, StandsDriven}
use Rattle.interleavings.proofs.LoneKernelStepLemmas.{answers_by_the_rules, behind, steps_on}
use Rattle.interleavings.proofs.LoneRoomLemmas.{lacks_by_drive}
use Rattle.interleavings.proofs.RestingLemmas.{begins_on_a_kernel}
use Rattle.interleavings.proofs.ToldLemmas.{risen_since}

module _ (begins : BeginTogether) (few_steps : HaveFewSteps) {K : Type 0} (hash : RecordKey → ℕ) (seat : ℕ)
    (caller : Caller) (call : Call) (s : State) (old : KernelState K) (is : IsSeat old.locks seat)
    (serves : ServesOver hash seat caller call s old) where
  -- it is served behind so many moves, each of which left fewer steps
  record IsServedOn (moves : ℕ) (now : KernelState K) : Type 0 where
    pub served : ServesOver hash seat caller call s now
    pub nearer : call_left served.active.machine (store_of now.pool.images) + moves ≤ MOST_CALL_STEPS
    -- the count of faults has not fallen
    pub later : old.pool.faults ≤ now.pool.faults

  served_on : (moves : ℕ) (now : KernelState K) → Moves hash seat moves old now → IsServedOn moves now
  served_on zero now same = subst (IsServedOn zero) (sym same) (record {
    served = serves;
    nearer = let few = serves.few in omega (arith, few);
    later = omega arith;
  })
  served_on (suc n) now moved =
      let so_far = served_on n moved.before moved.stands in
      let on = steps_on begins few_steps hash seat caller call s (steps.Moved moved.kind) moved.before now
      so_far.served moved.step.turn moved.step.makes in
      let fewer = on.fewer in
      let nearer = so_far.nearer in
      let first = so_far.later in
      let last = moved.step.turn.run.rest.later in
      record {
        served = on.served;
        nearer = omega (arith, fewer, nearer);
        later = omega (arith, first, last);
      }

  module _ (did : Step) (new : KernelState K) (driven : IsDriven hash seat did old new) where
    so_far : IsServedOn driven.moves driven.before
    so_far = served_on driven.moves driven.before driven.moved

    few_moves : driven.moves ≤ MOST_CALL_STEPS
    few_moves = let nearer = so_far.nearer in omega (arith, nearer)

    unspent : IsSpent seat driven.moves did driven.before new → ⊥
    unspent spent = let few = few_moves in let most = spent.most in omega (arith, few, most)

    stands_by : ComesToRest hash seat driven.moves did driven.before new
        ⊎ IsSpent seat driven.moves did driven.before new → StandsDriven hash seat caller call s did old new driven
    stands_by (inl last) =
        let stands = behind hash seat caller call s
        (call_left so_far.served.active.machine (store_of driven.before.pool.images)) driven.before new did
        (steps_on begins few_steps hash seat caller call s did driven.before new so_far.served last.step.turn
        last.step.makes) in
        record {
          stands = stands.0;
          rests = last.rests;
          few = few_moves;
          unspent = unspent;
          cause = λ fails. risen_since so_far.later (stands.1 fails);
          room = lacks_by_drive (answers_by_the_rules begins few_steps K) hash seat caller call s old is serves did
              new driven unspent;
        }
    stands_by (inr spent) = absurd (unspent spent)

    pub stands_driven : StandsDriven hash seat caller call s did old new driven
    stands_driven = stands_by driven.ends

pub drives_by_the_rules : BeginTogether → HaveFewSteps → (K : Type 0) → DrivesByTheRules K
drives_by_the_rules begins few_steps K hash seat caller call s did old new is serves driven =
    stands_driven begins few_steps hash seat caller call s old is serves did new driven

-- no begin changes a lock
seat_begun : {K : Type 0} (seat : ℕ) (call : Call) (old begun : KernelState K) → HasCall seat call old begun →
    IsSeat old.locks seat → IsSeat begun.locks seat
seat_begun {K} seat call old begun has is =
    subst (λ (t : Table). IsSeat t seat) (sym (ap (λ (k : KernelState K). k.locks) has.is)) is

pub answers_lone_calls : BeginTogether → HaveFewSteps → (K : Type 0) → AnswersLoneCalls K
answers_lone_calls begins few_steps K hash seat caller call s did old begun new whole rests is sits has driven =
    stands_driven begins few_steps hash seat caller call s begun (seat_begun seat call old begun has is)
    (begins_on_a_kernel begins few_steps K hash seat caller call s old begun whole rests is sits has) did new driven
