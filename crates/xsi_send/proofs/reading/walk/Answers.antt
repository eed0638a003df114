use Rattle.xsi_send.proofs.Names.{IsWalked, MAX_MESSAGES, None, subst, sym, to_z-of_z, w64}
use Rattle.xsi_send.proofs.Walked.{lowest_fits, nothing_between, walk_begins}
use Rattle.xsi_send.proofs.reading.walk.Goals as goal

-- the queue is empty
pub returns-in-None-clause-told : goal.returns-in-None-clause-told
returns-in-None-clause-told c s filed known none =
    (known, nothing_between c.args.caller c.args.arguments.now c.args.queue.now s filed known c.in-None.is)

-- the way begins at the lowest type
pub returns-in-Some-clause-told : goal.returns-in-Some-clause-told
returns-in-Some-clause-told c s filed known none =
    let a = c.args.arguments.now in
    let fits = lowest_fits c.args.caller a c.args.queue.now s filed known c.in-Some.next c.in-Some.is in
    let begins = walk_begins c.args.caller a c.args.queue.now s filed known c.in-Some.next c.in-Some.is none in (
      known,
      subst (λ n. IsWalked a.mtype (record { queue = c.args.queue.now; lower = None; next = n; left = MAX_MESSAGES })
          known.queue) (sym (to_z-of_z w64 c.in-Some.next fits)) begins,
    )
