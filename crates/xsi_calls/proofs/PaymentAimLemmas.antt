-- What a payment asks for while it searches is what its seat knows.
use Rattle.std.proofs.Common.{ℕ}
use Rattle.xsi_calls.proofs.WriteAimLemmas.{writes_aimed}
use Rattle.call_writes.proofs.of_xsi_remove.AimLemmas.{sweep_aimed}
use Rattle.xsi_calls.specs.stale_search.step_rules.Searching.{IsAimed}
use Rattle.call_writes.specs.Payments.{payment_facts, payment_turn}
use Rattle.call_writes.specs.PaymentStages.{Stage, Sweeping, Writing}
use Rattle.call_writes.specs.PaymentWords.{Plan, RecordKey, Store}

pub payment_aimed : (hash : RecordKey → ℕ) (p : Plan) (v : Stage) (s : Store) →
    IsAimed (payment_turn hash p v s).ask (payment_facts v)
payment_aimed hash p (Sweeping v) s = sweep_aimed v s
payment_aimed hash p (Writing w) s = writes_aimed hash p w s
