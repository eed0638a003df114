-- A write of what a call owes that is made in one go.
use Rattle.std.proofs.Common.{◌≡◌, ℕ, Bool, refl, sym, ap, subst}
use Rattle.std.specs.Prelude.{⊤}
use Rattle.step_rules.specs.declared.kind.Kind.{Kind}
use Rattle.call_writes.specs.PaymentStages.{Stage}
use Rattle.call_writes.specs.PaymentStages as stages
use Rattle.call_writes.specs.MakeSteps.{MakesWrites}
use Rattle.xsi_calls.specs.PaySteps.{MakesPayment}
use Rattle.call_writes.specs.PaymentWords.{Moved, Plan, PoolState, RecordKey, Table}
use Rattle.call_writes.specs.declared.writes.CallWrites.{CallWrites}
use Rattle.call_writes.specs.Payments.{payment_access}
use Rattle.call_writes.specs.WriteRuns.{WritesAtOnce}
use Rattle.call_writes.specs.Views.{writes_search}
use Rattle.call_writes.specs.WriteWords.{searches_under}
use Rattle.xsi_calls.proofs.WriteRunLemmas.{writes_in}
use Rattle.xsi_calls.proofs.WrittenLemmas.{writes_on}

module _ (hash : RecordKey → ℕ) (seat : ℕ) (p : Plan) where
  pays : (kind : Kind) (w w' : CallWrites) (pool pool' : PoolState) (locks locks' : Table) →
      MakesWrites hash seat p (Moved kind) w w' pool pool' locks locks' →
      MakesPayment hash seat p (Moved kind) (stages.Writing w) (stages.Writing w') pool pool' locks locks'
  pays kind w w' pool pool' locks locks' makes = record {
    part = makes;
    writes = makes.writes;
    cause = makes.cause;
    aim = record {
      ended = makes.aim.ended;
      rests = λ is. ap stages.Writing (makes.aim.rests is);
      part = makes.aim.due;
    };
    row = makes.row;
    progress = λ names records change y. makes.progress names records change y.carries;
    step = λ names records change y fine.
        writes_on hash seat names p (Moved kind) w w' pool pool' locks locks' makes records change y fine;
    turns_away = λ names records change y fine. makes.turns_away names records change y.carries fine;
  }

  -- whether a search of it is under way
  abbrev pub payment_searches : Stage → Bool
  payment_searches v = searches_under (payment_access v)

  pub payment_at_once : (old : Stage) (w w' : CallWrites) → old ≡ stages.Writing w → (pool pool' : PoolState)
      (locks : Table) → WritesAtOnce (MakesWrites hash seat p) writes_search seat w w' pool pool' locks →
      WritesAtOnce (MakesPayment hash seat p) payment_searches seat old (stages.Writing w') pool pool' locks
  payment_at_once old w w' is pool pool' locks goes =
      subst (λ (x : Stage). WritesAtOnce (MakesPayment hash seat p) payment_searches seat x (stages.Writing w') pool
      pool' locks) (sym is)
      (writes_in (MakesWrites hash seat p) (MakesPayment hash seat p) writes_search payment_searches seat stages.Writing
      (λ (v : CallWrites) (t : Table). ⊤) (λ v. refl)
      (λ kind v v' before behind t t' stands makes. (pays kind v v' before behind t t' makes, tt)) w w' pool pool' locks
      tt goes)
