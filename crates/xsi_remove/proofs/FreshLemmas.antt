-- What follows a deed holds nothing yet, and what a deed may delete.
use Rattle.std.proofs.Common.{◌≡◌, refl, sym, ap, ◌∙◌, subst, ℕ, ◌+◌, ◌-◌, ◌≤◌, Bool, true, false, List, [], Option, Some, None, arith}
use Rattle.std.specs.Prelude.{◌==◌, if◌then◌else◌}
use Rattle.std.proofs.lemmas.Bool.{true≢false}
use Rattle.file_pages.specs.declared.fault.FileFault.{FileFault}
use Rattle.file_pages.specs.declared.fault.FileFault.TheVariants.{Failed}
use Rattle.record_file.proofs.of_stale_search.CauseLemmas.{no_transfer, told_cause}
use Rattle.xsi_remove.specs.declared.work.Deed.{Deed}
use Rattle.xsi_remove.specs.declared.work.Deed.TheVariants.{Reading, DeletingMessage, DeletingType}
use Rattle.xsi_remove.specs.declared.work.Next.{Next}
use Rattle.xsi_remove.specs.declared.work.Next.TheVariants.{Goes, Begins, Over}
use Rattle.xsi_remove.specs.declared.work.Work.{Work}
use Rattle.xsi_remove.specs.Deeds.{begun_work, led_to, with_deed}
use Rattle.xsi_remove.specs.Sweeps.{sweep_facts, sweep_locks}
use Rattle.xsi_remove.specs.SweepSteps.{IsOf, turns_of}
use Rattle.xsi_remove.specs.Works.{is_move}
use Rattle.xsi_remove.specs.Words.{RecordKey, PoolState, Lock, StepHasCause, OnlyWrites, Progress, Moved, Blocked, Fault, Ended, is_fault, NearsOrSpares, begun_turn}

-- ---- what follows holds nothing yet

-- after a turn under way
pub record IsFresh (w : Work) (v : Option Work) : Type 0 where
  pub locks : (before : List Lock) → sweep_locks v before ≡ before
  pub facts : sweep_facts v ≡ []
  pub queue : (id : ℕ) → w.turn.id ≡ id → IsOf id v
  pub fewer : turns_of v ≤ w.turns

pub fresh_deed : (hash : RecordKey → ℕ) (w : Work) (deed : Deed) → IsFresh w (Some (with_deed hash deed w))
fresh_deed hash w Reading = record {
  locks = λ before. refl;
  facts = refl;
  queue = λ id is. is;
  fewer = omega arith;
}
fresh_deed hash w DeletingMessage = record {
  locks = λ before. refl;
  facts = refl;
  queue = λ id is. is;
  fewer = omega arith;
}
fresh_deed hash w (DeletingType mtype) = record {
  locks = λ before. refl;
  facts = refl;
  queue = λ id is. is;
  fewer = omega arith;
}

pub same_in : {X : Type 0} (x y : X) → ◌≡◌ {A = Option X} (Some x) (Some y) → x ≡ y
same_in x y is = cc

pub fresh_led : (hash : RecordKey → ℕ) (w : Work) (n : Option Next) (v : Option Work) → led_to hash n w ≡ Some v →
    IsFresh w v
fresh_led hash w None v is = absurd cc
fresh_led hash w (Some (Goes deed)) v is =
    subst (IsFresh w) (same_in (Some (with_deed hash deed w)) v is) (fresh_deed hash w deed)
fresh_led hash w (Some (Begins serial)) v is = by (w.turns == 0) is
  where
    begun : Work
    begun = begun_work hash (begun_turn w.turn.id serial) (w.turns - 1)

    by : (b : Bool) → (if b then None else Some (Some begun)) ≡ Some v → IsFresh w v
    by true is = absurd cc
    by false is = subst (IsFresh w) (same_in (Some begun) v is) (record {
      locks = λ before. refl;
      facts = refl;
      queue = λ id is. is;
      fewer = omega arith;
    })
fresh_led hash w (Some Over) v is = subst (IsFresh w) (same_in None v is) (record {
  locks = λ before. refl;
  facts = refl;
  queue = λ id is. tt;
  fewer = omega arith;
})

-- ---- counts

pub no_more : (m n : ℕ) → m ≡ n → m ≤ n
no_more m n is = omega (arith, is)

pub nears_with : (did : Progress FileFault) (left left' more more' : ℕ) (pool pool' : PoolState) → more' ≤ more →
    NearsOrSpares did left left' pool pool' → NearsOrSpares did (left + more) (left' + more') pool pool'
nears_with (Moved kind) left left' more more' pool pool' less near = omega (arith, near, less)
nears_with (Blocked other) left left' more more' pool pool' less near = tt
nears_with (Fault fault) left left' more more' pool pool' less near = near
nears_with Ended left left' more more' pool pool' less near = tt

-- a move that ends the access leaves fewer, where what follows has no more than what was behind it
pub nears_next : (did : Progress FileFault) (left left' more all : ℕ) (pool pool' : PoolState) → is_move did ≡ true →
    all ≤ more → NearsOrSpares did left left' pool pool' → NearsOrSpares did (left + more) all pool pool'
nears_next (Moved kind) left left' more all pool pool' moved less near = omega (arith, near, less)
nears_next (Blocked other) left left' more all pool pool' moved less near = absurd cc
nears_next (Fault fault) left left' more all pool pool' moved less near = absurd cc
nears_next Ended left left' more all pool pool' moved less near = absurd cc

-- ---- faults

pub failed_cause : (pool pool' : PoolState) → StepHasCause (Fault Failed) pool pool'
failed_cause pool pool' = told_cause Failed pool pool' (no_transfer pool pool')

pub faulted : {b : Bool} (pool pool' : PoolState) → OnlyWrites b pool pool' → OnlyWrites false pool pool'
faulted pool pool' writes = record {
  ready = writes.ready;
  honest = writes.honest;
  later = writes.later;
  stored = writes.stored;
  as_many = writes.as_many;
  file = λ honest none. absurd cc;
}

pub over_none : (did : Progress FileFault) → is_move did ≡ true → did ≡ Ended → ⊥
over_none did moved is = true≢false (sym moved ∙ ap is_move is)

pub fine_of : (did : Progress FileFault) → is_move did ≡ true → is_fault did ≡ false
fine_of (Moved kind) moved = refl
fine_of (Blocked other) moved = absurd cc
fine_of (Fault fault) moved = absurd cc
fine_of Ended moved = absurd cc
