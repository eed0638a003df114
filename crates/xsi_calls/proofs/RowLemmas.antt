-- A call that is over, and one that has just begun, holds no lock.
use Rattle.std.proofs.Common.{◌≡◌, ap, ◌∙◌, [], Option}
use Rattle.xsi_calls.proofs.Names.{Question, locks_behind, locks_in}
use Rattle.xsi_calls.proofs.PayLemmas.{paid_locks}
use Rattle.xsi_calls.specs.Stages.{Stage, Undecided, Paying, Releasing}
use Rattle.xsi_calls.specs.Machine.{CallView, IsNew, IsOver, IsOverAt, call_locks, locks_at}
use Rattle.xsi_calls.specs.Words.{Call, UndecidedCall, its_plan}

over_at : (call : Call) (u : UndecidedCall) (stage : Stage) → IsOverAt call u stage → locks_at u stage ≡ []
over_at call u Undecided over = absurd over
over_at call u (Paying v conclusion) over = paid_locks (its_plan call u.questions) v u.questions.names over.0 ∙ over.1
over_at call u (Releasing conclusion) over = over

pub over_holds_nothing : (m : CallView) → IsOver m → call_locks m ≡ []
over_holds_nothing m over = over_at m.call m.undecided m.stage over

pub new_holds_nothing : (m : CallView) → IsNew m → call_locks m ≡ []
new_holds_nothing m new =
    ap (λ (x : Stage). locks_at m.undecided x) new.stage
    ∙ ap (locks_in m.undecided.questions) new.fresh.untried
    ∙ ap (λ (q : Option Question). locks_behind q m.undecided.questions.names) new.fresh.bare.question
    ∙ new.fresh.bare.names
