-- A record that is written in one go: the machine above makes the same moves.
use Rattle.std.proofs.Common.{◌≡◌, ℕ, Bool, List, [], ◌∷◌, ap, sym, subst, ◌∙◌}
use Rattle.page_locks.proofs.ChangeLemmas.{IsSeat-with_row}
use Rattle.page_locks.proofs.TableLemmas.{row_of-same}
use Rattle.page_locks.specs.Table.{with_row}
use Rattle.call_writes.specs.record_file.stale_search.SearchRuns.{At, at}
use Rattle.step_rules.specs.Runs.{MovesAlong, Stop, stops_in}
use Rattle.step_rules.specs.declared.kind.Kind.{Kind}
use Rattle.step_rules.specs.declared.progress.Progress.{Progress}
use Rattle.step_rules.specs.declared.progress.Progress.TheVariants.{Moved}
use Rattle.call_writes.specs.WriteRuns.{AskStep, Promise, WritesAtOnce, stops_through}
use Rattle.xsi_calls.specs.QuestionWords.{IsSeat, Lock, PoolState, Table, row_of}
use Rattle.xsi_calls.proofs.QuestionRunLemmas.{counted_in, way_in}

-- where each move of a machine from where this is so is one of another machine, and keeps it so, moves of the one are
-- moves of the other
carried : {S T F : Type 0} (A : Progress F → S → S → Type 0) (B : Progress F → T → T → Type 0) (whole : S → T)
    (Stands : S → Type 0) →
    ((kind : Kind) (old new : S) → Stands old → A (Moved kind) old new →
    B (Moved kind) (whole old) (whole new) × Stands new) →
    (old : S) (stops : List (Stop S)) → Stands old → MovesAlong A old stops →
    MovesAlong B (whole old) (stops_in whole stops)
carried A B whole Stands each old [] stands moves = tt
carried A B whole Stands each old (next ∷ stops) stands moves =
    let on = each next.kind old next.state stands moves.0 in
    (on.0, carried A B whole Stands each next.state stops on.1 moves.1)

-- ---- a machine, and the one that it is a part of

pub writes_in : {V W : Type 0} (A : Promise V) (B : Promise W) (searches : V → Bool) (searches' : W → Bool) (seat : ℕ)
    (whole : V → W) (Stands : V → Table → Type 0) → ((v : V) → searches' (whole v) ≡ searches v) →
    ((kind : Kind) (old new : V) (pool pool' : PoolState) (locks locks' : Table) → Stands old locks →
    A (Moved kind) old new pool pool' locks locks' →
    B (Moved kind) (whole old) (whole new) pool pool' locks locks' × Stands new locks') →
    (old new : V) (pool pool' : PoolState) (locks : Table) → Stands old locks →
    WritesAtOnce A searches seat old new pool pool' locks →
    WritesAtOnce B searches' seat (whole old) (whole new) pool pool' locks
writes_in {V} {W} A B searches searches' seat whole Stands same each old new pool pool' locks stands writes = record {
  way = way_in among writes.way;
  written = among writes.written;
  moves = carried (AskStep A) (AskStep B) among (λ (s : At V). Stands s.machine s.locks)
      (λ kind before behind held step.
      each kind before.machine behind.machine before.pool behind.pool before.locks behind.locks held step)
      (at old pool locks) (stops_through writes.way writes.written (at new pool' locks)) stands writes.moves;
  counted = counted_in whole seat writes.way writes.counted;
  answered = same writes.way.looked.machine ∙ writes.answered;
}
  where
    among : At V → At W
    among s = at (whole s.machine) s.pool s.locks

-- ---- the row of a seat

-- a seat, and its row
abbrev pub HasItsRow : ℕ → Table → List Lock → Type 0
HasItsRow seat locks row = IsSeat locks seat × (row_of locks seat ≡ row)

-- it has the row that it was given
pub row_behind : (seat : ℕ) (locks locks' : Table) (row : List Lock) → IsSeat locks seat →
    locks' ≡ with_row locks seat row → HasItsRow seat locks' row
row_behind seat locks locks' row seated is = (
  subst (λ (t : Table). IsSeat t seat) (sym is) (IsSeat-with_row locks seat seat row seated),
  ap (λ (t : Table). row_of t seat) is ∙ row_of-same locks seat row seated,
)
