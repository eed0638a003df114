-- The steps of a merge on its way to the bucket.
use Rattle.std.proofs.Common.{◌≡◌, refl, sym, subst, ℕ, ◌+◌, false, not, List, None, Some, Option, IsSome, arith}
use Rattle.std.proofs.lemmas.Bool.{true≢false}
use Rattle.stale_search.specs.file_pages.declared.fault.FileFault.{FileFault}
use Rattle.hash_file.specs.Changes.{RecordWrite, Remove}
use Rattle.hash_file.specs.Kept.{KeepsContents}
use Rattle.step_rules.specs.declared.kind.Kind.{Kind}
use Rattle.step_rules.specs.Sound.{IsSoundWorld}
use Rattle.step_rules.specs.Turns.{DoesTied, TurnsAt, is_fault}
use Rattle.step_rules.proofs.KindLemmas.{kind_keeps_contents}
use Rattle.step_rules.proofs.TurnLemmas.{is_of_its_kind}
use Rattle.stale_search.specs.Approaches.{KeepsGoal, reached_at}
use Rattle.stale_search.proofs.StayLemmas.{Stays-of}
use Rattle.stale_search.specs.Steps.{ReadsPages}
use Rattle.stale_search.specs.declared.place.ApproachPlace.{ApproachPlace}
use Rattle.stale_search.specs.declared.place.ApproachPlace.TheVariants.{GrantDirectory, ReadDepth, ReadEntry, GrantPage, At}
use Rattle.split_merge.specs.MergeWords.{RecordKey, Lock, store_of, World, world, Table, row_of, with_row, PoolState, Change, Progress, Moved, Blocked, Fault, Ended, ApproachView, approach_locks, approach_facts, approach_turn, approach_left, HasNoFileLock, Sees, Step, Nears, Approaching}
use Rattle.split_merge.specs.Steps.{MakesStep}
use Rattle.split_merge.proofs.MoveLemmas.{view_at, read_only}

-- further by as many
nears_more : (did : Progress FileFault) (left left' more : ℕ) (pool pool' : PoolState) → Nears did left left' pool
    pool' →
    Nears did (left + more) (left' + more) pool pool'
nears_more (Moved kind) left left' more pool pool' n = omega (arith, n)
nears_more (Blocked other) left left' more pool pool' n = n
nears_more (Fault fault) left left' more pool pool' n = n
nears_more Ended left left' more pool pool' n = n

-- it has not come there
pub not_reached : (p : ApproachPlace) → ((depth page : ℕ) → p ≡ At depth page → ⊥) → reached_at p ≡ None
not_reached GrantDirectory other = refl
not_reached ReadDepth other = refl
not_reached (ReadEntry depth) other = refl
not_reached (GrantPage depth page) other = refl
not_reached (At depth page) other = absurd (other depth page refl)

module _ (seat : ℕ) (key : RecordKey) (a a' : ApproachView) (pool pool' : PoolState) (locks locks' : Table)
    (did : Progress FileFault) where
  -- as a step of an operation that writes nothing
  holds : (hash : RecordKey → ℕ) (change : Change) → Sees hash seat (approach_facts a) pool locks change →
      is_fault did ≡ false → Step hash seat (approach_turn a None) did (approach_facts a') pool pool' locks locks'
      change →
      KeepsContents (store_of pool.images) (store_of pool'.images)
  holds hash change sees fine step =
      by did fine (world pool.images locks change) (world pool'.images locks' step.after) sees.sound step.does
    where
      by : (d : Progress FileFault) → is_fault d ≡ false → (old new : World) → IsSoundWorld hash old →
          TurnsAt hash (approach_turn a None) d seat old new → KeepsContents old.store new.store
      by (Moved kind) fine old new sound does = kind_keeps_contents kind hash seat old new sound
          (λ e. subst (λ (k : Kind). DoesTied hash (approach_turn a None) k seat old new) e does)
          (is_of_its_kind hash seat old new (approach_turn a None) kind does)
      by (Blocked other) fine old new sound does =
          subst (λ (w : World). KeepsContents old.store w.store) (sym does.1) (λ k. refl)
      by (Fault fault) fine old new sound does = absurd cc
      by Ended fine old new sound does =
          subst (λ (w : World). KeepsContents old.store w.store) (sym does) (λ k. refl)

  pub approaches : reached_at a.place ≡ None → ReadsPages did pool pool' → KeepsGoal did a a' →
      ((before : List Lock) → HasNoFileLock before → row_of locks seat ≡ approach_locks a before →
      locks' ≡ with_row locks seat (approach_locks a' before)) →
      ((hash : RecordKey → ℕ) (change : Change) → Sees hash seat (approach_facts a) pool locks change →
      Nears did (approach_left a) (approach_left a') pool pool') →
      ((hash : RecordKey → ℕ) (change : Change) (write : Option RecordWrite) (before : List Lock) →
      HasNoFileLock before → row_of locks seat ≡ approach_locks a before →
      Sees hash seat (approach_facts a) pool locks change → is_fault did ≡ false →
      Step hash seat (approach_turn a write) did (approach_facts a') pool pool' locks locks' change) →
      MakesStep seat did (view_at seat key a pool locks Approaching) (view_at seat key a' pool locks Approaching)
      pool pool' locks locks'
  approaches on_way reads goal row nears step = record {
    writes = record {
      writes = read_only (not (is_fault did)) pool pool' reads.reads;
      cause = reads.cause;
      spares = λ f honest. reads.reads.images honest;
    };
    aim = record {
      key = refl;
      pseudokey = goal.pseudokey;
      ended = (
        λ e. absurd (let some : IsSome (reached_at a.place) = goal.ended.0 e in
            true≢false (sym (subst IsSome on_way some))),
        λ d. absurd cc,
      );
      stays = Stays-of (λ (x : ApproachView). view_at seat key x pool locks Approaching) did a a' goal.stays;
    };
    row = row;
    progress = λ hash change sees.
        nears_more did (approach_left a) (approach_left a') 291 pool pool' (nears hash change sees);
    step = λ hash change before keyed bare row_is sees fine. record {
      contents = holds hash change sees fine (step hash change None before bare row_is sees fine);
      step = step hash change (Some (Remove key)) before bare row_is sees fine;
    };
    answer = λ hash change keyed sees fine before_ up. absurd cc;
  }
