-- The step in which the name that was taken last is given back.
use Rattle.std.proofs.Common.{ℕ, ◌≡◌, List, [], ◌∷◌, ◌++◌, Option, Some, None, refl, ap, ◌∙◌}
use Rattle.page_locks.proofs.NameLemmas.{is_same-itself}
use Rattle.page_locks.proofs.RowLemmas.{kind_of-append}
use Rattle.file_pages.specs.hash_file.Changes.{RecordWrite}
use Rattle.call_writes.specs.call_decisions.file_pages.declared.fault.FileFault.{FileFault}
use Rattle.step_rules.specs.Words.{Change, Directory, Lock, Page}
use Rattle.step_rules.specs.declared.kind.Kind.TheVariants.{Release}
use Rattle.step_rules.specs.LockSteps.{Releases}
use Rattle.step_rules.proofs.KindLemmas.{kind_keeps}
use Rattle.step_rules.proofs.LockLemmas.{IsHeld-some}
use Rattle.call_writes.specs.call_decisions.stale_search.Words.{IsSeat, Moved, PoolState, RecordKey, Table, World, held, kind_of, row_of, with_row, without, without_lock}
use Rattle.call_writes.specs.call_decisions.stale_search.Steps.{Sees, Step, world}
use Rattle.call_writes.specs.call_decisions.NameLaws.{AreNames}
use Rattle.xsi_calls.proofs.OrderLemmas.{last_is_new, last_is_not, without_last}

module _ (locks : Table) (seat : ℕ) (rest : List Lock) (last : Lock) (names : AreNames (rest ++ last ∷ []))
    (row : row_of locks seat ≡ rest ++ last ∷ []) where
  pub row_without : (locks' : Table) → locks' ≡ without_lock locks seat last.name → locks' ≡ with_row locks seat rest
  row_without locks' is =
      is ∙ ap (λ (xs : List Lock). with_row locks seat (without xs last.name)) row
      ∙ ap (with_row locks seat) (without_last rest last names.ordered)

  had : held locks seat last.name ≡ Some last.kind
  had =
      ap (λ (xs : List Lock). kind_of xs last.name) row ∙ kind_of-append rest (last ∷ []) last.name
      ∙ rw (last_is_new rest last names.ordered, is_same-itself last.name) refl

  pub gave_last_back : (hash : RecordKey → ℕ) (pool : PoolState) (change : Change) (write : Option RecordWrite) →
      Sees hash seat [] pool locks change → IsSeat locks seat → (locks' : Table) →
      locks' ≡ without_lock locks seat last.name →
      Step {F = FileFault} hash seat (record { ask = None; write = write }) (Moved Release) [] pool pool locks locks'
      change
  gave_last_back hash pool change write sees seated locks' is =
      let old : World = world pool.images locks change in
      let new : World = world pool.images locks' change in
      let r : Releases seat old new = record {
        seated = seated;
        name = last.name;
        had = IsHeld-some locks seat last.name last.kind had;
        idle = λ page same. absurd (last_is_not rest last (Page page) (names.no_file.pages page) same);
        done = λ same. absurd (last_is_not rest last Directory names.no_file.directory same);
        is = ap (λ (t : Table). world pool.images t change) is;
      } in
      record {
        after = change;
        file = sees.file;
        others = kind_keeps Release hash seat old new sees.sound r;
        known = tt;
        does = r;
        led = tt;
      }
