-- A trial of a call that is made in one go.
use Rattle.std.proofs.Common.{◌≡◌, ℕ, ◌+◌, min, Bool, Some, if◌then◌else◌, refl, sym, ap}
use Rattle.file_pages.specs.declared.fault.FileFault.{FileFault}
use Rattle.step_rules.specs.declared.kind.Kind.{Kind}
use Rattle.step_rules.specs.declared.kind.Kind.TheVariants as kinds
use Rattle.xsi_calls.specs.Undecided.{UndecidedCall, its_plan}
use Rattle.call_writes.specs.declared.writes.CallWrites.{CallWrites}
use Rattle.xsi_calls.specs.declared.part.Part.{Part}
use Rattle.xsi_calls.specs.declared.questions.Questions.{Questions}
use Rattle.xsi_calls.specs.Beginning.{Tries}
use Rattle.xsi_calls.specs.Parts.{undecided_with}
use Rattle.xsi_calls.specs.Counting.{MOST_FINDS, finds_behind}
use Rattle.xsi_calls.specs.Machine.{undecided_searches}
use Rattle.call_writes.specs.MakeSteps.{MakesWrites}
use Rattle.call_writes.specs.Views.{writes_search}
use Rattle.xsi_calls.specs.QuestionWords.{Moved}
use Rattle.xsi_calls.specs.UndecidedSteps.{MakesUndecided}
use Rattle.xsi_calls.specs.UndecidedWords.{AreNames, AskStep, At, Call, Decision, IsSeat, Plan, PoolState, QuestionsView, RecordKey, Table, WritesAtOnce, at, row_of, writes_locks}
use Rattle.xsi_calls.proofs.CountLemmas.{none_more}
use Rattle.xsi_calls.proofs.QuestionRunLemmas.{counted_in, way_in}
use Rattle.xsi_calls.proofs.WriteRunLemmas.{HasItsRow, row_behind}
use Rattle.xsi_calls.proofs.StepLemmas.{tried_with}

module _ (hash : RecordKey → ℕ) (seat : ℕ) (call : Call) (q : QuestionsView) (names : AreNames q.names) where
  -- ---- the trials are under way

  module _ (x : Plan) (plan : x ≡ its_plan call q) (decision : Decision) where
    -- behind so many searches
    abbrev trying : ℕ → CallWrites → UndecidedCall
    trying n w = record {
      questions = record q { finds = n };
      trials = Some (record { writes = w; decision = decision });
    }

    abbrev among : ℕ → At CallWrites → At UndecidedCall
    among n s = at (trying n s.machine) s.pool s.locks

    abbrev Stands : At CallWrites → Type 0
    Stands s = HasItsRow seat s.locks (writes_locks s.machine q.names)

    stands_on : (kind : Kind) (s s' : At CallWrites) → Stands s →
        AskStep (MakesWrites hash seat x) (Moved kind) s s' → Stands s'
    stands_on kind s s' stands step =
        row_behind seat s.locks s'.locks (writes_locks s'.machine q.names) stands.0
        (step.row q.names names.no_file stands.1)

    -- behind n searches it is one of the call, behind which there are m
    moves : (kind : Kind) (n m : ℕ) (s s' : At CallWrites) → Stands s →
        m ≡ finds_behind {F = FileFault} (Moved kind) (row_of s'.locks seat) n →
        AskStep (MakesWrites hash seat x) (Moved kind) s s' →
        AskStep (MakesUndecided hash seat call) (Moved kind) (among n s) (among m s')
    moves kind n m s s' stands counts step =
        tried_with hash seat call (record q { finds = n }) s.pool s.locks x plan
        (record { writes = s.machine; decision = decision }) names stands.1 (Moved kind) s'.machine s'.pool s'.locks
        step stands.0 m counts

    module _ (w w' : CallWrites) (pool pool' : PoolState) (locks : Table) (seated : IsSeat locks seat)
        (row : row_of locks seat ≡ writes_locks w q.names)
        (goes : WritesAtOnce (MakesWrites hash seat x) writes_search seat w w' pool pool' locks) where
      -- one search more
      abbrev more : ℕ
      more = min (q.finds + 1) MOST_FINDS

      counts : more ≡
          finds_behind {F = FileFault} (Moved kinds.Grant) (row_of goes.way.locked.locks seat) q.finds
      counts = sym (ap (λ (b : Bool). if b then min (q.finds + 1) MOST_FINDS else q.finds) goes.counted.begins)

      counts_not : more ≡
          finds_behind {F = FileFault} (Moved kinds.Grant) (row_of goes.way.arrived.locks seat) more
      counts_not = sym (none_more (Moved kinds.Grant) (row_of goes.way.arrived.locks seat) more goes.counted.once)

      pub trial_at_once : WritesAtOnce (MakesUndecided hash seat call) undecided_searches seat (trying q.finds w)
          (trying more w') pool pool' locks
      trial_at_once =
          let way = goes.way in
          let m = goes.moves in
          let old : At CallWrites = at w pool locks in
          let new : At CallWrites = at w' pool' locks in
          let s0 : Stands old = (seated, row) in
          let s1 = stands_on kinds.Grant old way.locked s0 m.0 in
          let s2 = stands_on kinds.ReadDepth way.locked way.deep s1 m.1.0 in
          let s3 = stands_on kinds.ReadEntry way.deep way.named s2 m.1.1.0 in
          let s4 = stands_on kinds.Grant way.named way.arrived s3 m.1.1.1.0 in
          let s5 = stands_on kinds.Release way.arrived way.alone s4 m.1.1.1.1.0 in
          let s6 = stands_on kinds.Look way.alone way.looked s5 m.1.1.1.1.1.0 in
          let s7 = stands_on kinds.WriteRecord way.looked goes.written s6 m.1.1.1.1.1.1.0 in
          let locks_it = moves kinds.Grant q.finds more old way.locked s0 counts m.0 in
          let reads = moves kinds.ReadDepth more more way.locked way.deep s1 refl m.1.0 in
          let names_it = moves kinds.ReadEntry more more way.deep way.named s2 refl m.1.1.0 in
          let arrives = moves kinds.Grant more more way.named way.arrived s3 counts_not m.1.1.1.0 in
          let gives_back = moves kinds.Release more more way.arrived way.alone s4 refl m.1.1.1.1.0 in
          let looks = moves kinds.Look more more way.alone way.looked s5 refl m.1.1.1.1.1.0 in
          let writes = moves kinds.WriteRecord more more way.looked goes.written s6 refl m.1.1.1.1.1.1.0 in
          let leaves = moves kinds.Release more more goes.written new s7 refl m.1.1.1.1.1.1.1.0 in
          record {
            way = way_in (among more) way;
            written = among more goes.written;
            moves = (locks_it, (reads, (names_it, (arrives, (gives_back, (looks, (writes, (leaves, tt))))))));
            counted = counted_in (trying more) seat way goes.counted;
            answered = goes.answered;
          }

-- ---- trials are under way, or the first one begins

pub tries_from_part : (hash : RecordKey → ℕ) (seat : ℕ) (call : Call) (q : Questions) (old part : Part) →
    Tries call q old part → (new : UndecidedCall) (pool pool' : PoolState) (locks : Table) →
    WritesAtOnce (MakesUndecided hash seat call) undecided_searches seat (undecided_with call q part) new pool pool'
    locks →
    WritesAtOnce (MakesUndecided hash seat call) undecided_searches seat (undecided_with call q old) new pool pool'
    locks
tries_from_part hash seat call q old part tries new pool pool' locks goes = record {
  way = goes.way;
  written = goes.written;
  moves = (
    tries.makes hash seat (Moved kinds.Grant) goes.way.locked.machine pool goes.way.locked.pool locks
        goes.way.locked.locks goes.moves.0,
    goes.moves.1,
  );
  counted = goes.counted;
  answered = goes.answered;
}
