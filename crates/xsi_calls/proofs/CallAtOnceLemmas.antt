-- A write of a call that is made in one go.
use Rattle.std.proofs.Common.{◌≡◌, ℕ, Bool, true, refl, sym, ap, ◌∙◌, subst}
use Rattle.std.specs.Prelude.{⊤}
use Rattle.xsi_calls.specs.declared.conclusion.Conclusion.{Conclusion}
use Rattle.xsi_calls.specs.CallSteps.{MakesCall}
use Rattle.xsi_calls.specs.Machine.{CallView, call_locks, is_searching, is_undecided, undecided_searches}
use Rattle.call_writes.specs.Payments.{payment_access}
use Rattle.xsi_calls.specs.Stages.{Stage, Paying, Undecided}
use Rattle.xsi_calls.specs.UndecidedSteps.{MakesUndecided}
use Rattle.call_writes.specs.WriteWords.{searches_under}
use Rattle.xsi_calls.specs.Words.{AreNames, Call, Caller, IsSeat, Kind, MakesPayment, Moved, PaymentStage, PoolState, RecordKey, Table, UndecidedCall, WritesAtOnce, its_plan, payment_locks, row_of}
use Rattle.xsi_calls.proofs.AtOnceLemmas.{moves}
use Rattle.xsi_calls.proofs.GoLemmas.{asking, at_undecided, with_stage}
use Rattle.xsi_calls.proofs.PayLemmas.{pays_on}
use Rattle.xsi_calls.proofs.WriteRunLemmas.{HasItsRow, row_behind, writes_in}

module _ (hash : RecordKey → ℕ) (seat : ℕ) (stopped : Bool) (caller : Caller) (call : Call) (stage : Stage)
    (now : CallView) where
  -- ---- a trial

  module _ (u u' : UndecidedCall) (view : with_stage caller call u stage ≡ now)
      (undecided : is_undecided now.stage ≡ true) (pool pool' : PoolState) (locks : Table)
      (goes : WritesAtOnce (MakesUndecided hash seat call) undecided_searches seat u u' pool pool' locks) where
    there : stage ≡ Undecided
    there = at_undecided stage (subst (λ (m : CallView). is_undecided m.stage ≡ true) (sym view) undecided)

    tries : WritesAtOnce (MakesCall hash seat stopped) is_searching seat (asking caller call u) (asking caller call u')
        pool pool' locks
    tries =
        writes_in (MakesUndecided hash seat call) (MakesCall hash seat stopped) undecided_searches is_searching seat
        (asking caller call) (λ (v : UndecidedCall) (t : Table). ⊤) (λ v. refl)
        (λ kind v v' before behind t t' stands makes.
        (moves hash seat caller call stopped kind v v' before behind t t' makes, tt)) u u' pool pool' locks tt goes

    pub tries_from : WritesAtOnce (MakesCall hash seat stopped) is_searching seat now
        (with_stage caller call u' stage) pool pool' locks
    tries_from =
        subst (λ (m : CallView). WritesAtOnce (MakesCall hash seat stopped) is_searching seat m
        (with_stage caller call u' stage) pool pool' locks) view
        (subst (λ (x : Stage). WritesAtOnce (MakesCall hash seat stopped) is_searching seat
        (with_stage caller call u x) (with_stage caller call u' x) pool pool' locks) (sym there) tries)

  -- ---- a write that it owes

  module _ (u : UndecidedCall) (view : with_stage caller call u stage ≡ now) (v v' : PaymentStage)
      (conclusion : Conclusion) (is : stage ≡ Paying v conclusion) (ordered : AreNames u.questions.names)
      (pool pool' : PoolState) (locks : Table) (seated : IsSeat locks seat) (row : row_of locks seat ≡ call_locks now)
      (goes : WritesAtOnce (MakesPayment hash seat (its_plan call u.questions))
      (λ (y : PaymentStage). searches_under (payment_access y)) seat v v' pool pool' locks) where
    sees_now : with_stage caller call u (Paying v conclusion) ≡ now
    sees_now = ap (with_stage caller call u) (sym is) ∙ view

    abbrev Stands : PaymentStage → Table → Type 0
    Stands y t = HasItsRow seat t (payment_locks y u.questions.names)

    pays : (kind : Kind) (y y' : PaymentStage) (before behind : PoolState) (t t' : Table) → Stands y t →
        MakesPayment hash seat (its_plan call u.questions) (Moved kind) y y' before behind t t' →
        MakesCall hash seat stopped (Moved kind) (with_stage caller call u (Paying y conclusion))
        (with_stage caller call u (Paying y' conclusion)) before behind t t' × Stands y' t'
    pays kind y y' before behind t t' stands makes = (
      pays_on hash seat caller call u conclusion ordered y y' (Moved kind) before behind t t' stands.1 makes
          (λ e. absurd cc) stopped,
      row_behind seat t t' (payment_locks y' u.questions.names) stands.0
          (makes.row u.questions.names ordered.no_file stands.1),
    )

    pub pays_at_once : WritesAtOnce (MakesCall hash seat stopped) is_searching seat now
        (with_stage caller call u (Paying v' conclusion)) pool pool' locks
    pays_at_once =
        subst (λ (m : CallView). WritesAtOnce (MakesCall hash seat stopped) is_searching seat m
        (with_stage caller call u (Paying v' conclusion)) pool pool' locks) sees_now
        (writes_in (MakesPayment hash seat (its_plan call u.questions)) (MakesCall hash seat stopped)
        (λ (y : PaymentStage). searches_under (payment_access y)) is_searching seat
        (λ (y : PaymentStage). with_stage caller call u (Paying y conclusion)) Stands (λ y. refl) pays v v' pool pool'
        locks (seated, subst (λ (m : CallView). row_of locks seat ≡ call_locks m) (sym sees_now) row) goes)
