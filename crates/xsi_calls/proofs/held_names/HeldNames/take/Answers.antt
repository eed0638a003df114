use Rattle.std.proofs.Common.{ap, ◌∙◌, [], arith, length}
use Rattle.std.proofs.lemmas.List.{length_push}
use Rattle.step_rules.specs.Words.{Page}
use Rattle.call_writes.specs.call_decisions.stale_search.Words.{kind_of}
use Rattle.call_writes.specs.call_decisions.stale_search.Steps.{world}
use Rattle.call_writes.proofs.of_call_decisions.of_stale_search.StepLemmas.{granted_to}
use Rattle.xsi_calls.proofs.OrderLemmas.{last_is_new, last_is_not, next_may}
use Rattle.xsi_calls.proofs.held_names.HeldNames.take.Goals as goal

pub try_grant-requires-clause-fresh : goal.try_grant-requires-clause-fresh
try_grant-requires-clause-fresh c =
    ap (λ row. kind_of row c.args.lock.name) c.requires.row
    ∙ last_is_new c.args.self.now c.args.lock c.requires.next.ordered

pub returns-in-Granted-clause-step : goal.returns-in-Granted-clause-step
returns-in-Granted-clause-step c = λ hash pool change write sees.
    granted_to hash c.args.seat [] pool c.args.locks.now change sees write [] c.try_grant.new.self c.args.lock.name
    c.args.lock.kind tt (λ new g named kinded. tt) c.requires.seat
    (let size = ap length c.requires.row in let few = c.requires.next.few in
    let more = length_push c.args.self.now c.args.lock in omega (arith, size, few, more))
    (ap (λ row. kind_of row c.args.lock.name) c.requires.row
    ∙ last_is_new c.args.self.now c.args.lock c.requires.next.ordered)
    c.in-Granted.ensures.busy.1
    (λ page same.
    absurd (last_is_not c.args.self.now c.args.lock (Page page) (c.requires.next.no_file.pages page) same))
    (next_may c.args.self.now c.args.lock c.args.seat (world pool.images c.args.locks.now change) c.requires.next
    c.requires.row)
    c.in-Granted.ensures.ok
