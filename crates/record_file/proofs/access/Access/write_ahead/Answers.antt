-- A delete takes nothing of the page from which its record was taken out.
use Rattle.std.proofs.Common.{Some, subst}
use Rattle.record_file.specs.AccessRuns.{WritesThere}
use Rattle.record_file.specs.Accesses.{AccessView}
use Rattle.record_file.proofs.TakenLemmas.{delete_there}
use Rattle.record_file.proofs.access.Access.write_ahead.Goals as goal

pub returns-in-Some-remove_ahead-clause-made : goal.returns-in-Some-remove_ahead-clause-made
returns-in-Some-remove_ahead-clause-made g c =
    let a = c.self.inside in
    let page = c.args.page in
    let len = c.in-Some-remove_ahead.len in
    subst (λ (v : AccessView). WritesThere page (Some len) c.args.pool.now c.remove_ahead.new.pool v v) c.self.view_is
    (delete_there c.args.pool.now c.requires.ready a.written page a.value c.remove_ahead.new.pool a.operation a.links
    a.key c.self.invariant.key_is c.in-Delete.field-0 c.in-Delete.is len
    (c.in-Some-remove_ahead.ensures.made a.value))
