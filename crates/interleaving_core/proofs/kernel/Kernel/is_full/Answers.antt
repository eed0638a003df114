-- Where the journal has few entries, one for each seat and one for a stop are not too many.
use Rattle.std.proofs.Common.{◌≡◌, ◌+◌, ◌<◌, false, length, nat_lt, subst, vec_capacity, arith}
use Rattle.std.proofs.lemmas.Grind.{common_steps}
use Rattle.std.specs.Option.{is_some}
use Rattle.interleaving_core.specs.Kernel.{KernelState, entries_of}
use Rattle.interleaving_core.specs.declared.kernel.TheConstants.{MAX_DECIDED}
use Rattle.interleaving_core.proofs.BeginLemmas.{is_few}
use Rattle.interleaving_core.proofs.kernel.Kernel.is_full.Goals as goal

pub returns-then-len-lt-MAX_DECIDED : goal.returns-then-len-lt-MAX_DECIDED
returns-then-len-lt-MAX_DECIDED g c =
    let now : KernelState g.row.K.Denot = record {
      keys = c.self.inside.keys;
      pool = c.self.inside.pool;
      locks = c.self.inside.locks;
      callers = c.self.inside.callers.items;
      seats = c.self.inside.seats.items;
      journal = c.self.inside.journal.items;
      room = vec_capacity c.self.inside.journal;
      stopped = c.self.inside.stopped;
      failed = is_some c.self.inside.failure;
      failure = c.self.inside.failure;
      searches = c.self.inside.searches;
    } in
    let few : length now.journal + length now.seats < MAX_DECIDED = grind (arith, common_steps) in
    subst (λ (k : KernelState g.row.K.Denot). false ≡ nat_lt MAX_DECIDED (entries_of k)) c.self.view_is (is_few now few)
