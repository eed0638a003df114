-- A question that is asked in one go: the machine above makes the same moves.
use Rattle.std.proofs.Common.{ℕ, ◌≡◌, ◌∙◌, Bool}
use Rattle.step_rules.proofs.RunLemmas.{lifted}
use Rattle.call_writes.specs.record_file.stale_search.SearchRuns.{At, at}
use Rattle.step_rules.specs.declared.kind.Kind.{Kind}
use Rattle.xsi_calls.specs.QuestionWords.{Moved, PoolState, Table}
use Rattle.xsi_calls.specs.QuestionRuns.{AsksAtOnce, stops_on}
use Rattle.call_writes.specs.WriteRuns.{AskStep, Promise, SearchesOnce, Way}

abbrev pub way_in : {S T : Type 0} → (S → T) → Way S → Way T
way_in whole way = record {
  locked = whole way.locked;
  deep = whole way.deep;
  named = whole way.named;
  arrived = whole way.arrived;
  alone = whole way.alone;
  looked = whole way.looked;
}

-- the locks are the same
pub counted_in : {V W : Type 0} (whole : V → W) (seat : ℕ) (way : Way (At V)) → SearchesOnce seat way →
    SearchesOnce seat (way_in (λ (s : At V). at (whole s.machine) s.pool s.locks) way)
counted_in whole seat way counted = record { begins = counted.begins; once = counted.once }

-- where each move of a machine is one of the machine that it is a part of, and so is its search
pub asks_in : {V W : Type 0} (A : Promise V) (B : Promise W) (searches : V → Bool) (searches' : W → Bool) (seat : ℕ)
    (whole : V → W) → ((v : V) → searches' (whole v) ≡ searches v) →
    ((kind : Kind) (old new : V) (pool pool' : PoolState) (locks locks' : Table) →
    A (Moved kind) old new pool pool' locks locks' → B (Moved kind) (whole old) (whole new) pool pool' locks locks') →
    (old new : V) (pool : PoolState) (locks : Table) → AsksAtOnce A searches seat old new pool locks →
    AsksAtOnce B searches' seat (whole old) (whole new) pool locks
asks_in {V} {W} A B searches searches' seat whole same each old new pool locks asks = record {
  way = way_in among asks.way;
  moves = lifted (AskStep A) (AskStep B) among
      (λ kind before behind step.
      each kind before.machine behind.machine before.pool behind.pool before.locks behind.locks step)
      (at old pool locks) (stops_on asks.way (at new pool locks)) asks.moves;
  counted = counted_in whole seat asks.way asks.counted;
  answered = same asks.way.looked.machine ∙ asks.answered;
}
  where
    among : At V → At W
    among s = at (whole s.machine) s.pool s.locks
