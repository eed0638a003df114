-- What a call asks for while it searches is what its seat knows.
use Rattle.std.proofs.Common.{ℕ}
use Rattle.xsi_calls.proofs.PaymentAimLemmas.{payment_aimed}
use Rattle.xsi_calls.proofs.UndecidedAimLemmas.{undecided_aimed}
use Rattle.step_rules.specs.Searching.{IsAimed}
use Rattle.xsi_calls.specs.Machine.{CallView, call_facts, call_turn, facts_at, turn_at}
use Rattle.xsi_calls.specs.Stages.{Stage, Undecided, Paying, Releasing}
use Rattle.xsi_calls.specs.Words.{RecordKey, Store, its_plan}

pub call_aimed : (hash : RecordKey → ℕ) (m : CallView) (s : Store) → IsAimed (call_turn hash m s).ask (call_facts m)
call_aimed hash m s = by m.stage
  where
    by : (stage : Stage) → IsAimed (turn_at hash m.call m.undecided stage s).ask (facts_at m.undecided stage)
    by Undecided = undecided_aimed hash m.call m.undecided s
    by (Paying payment conclusion) = payment_aimed hash (its_plan m.call m.undecided.questions) payment s
    by (Releasing conclusion) = tt
