use Rattle.std.proofs.Common.{rules, drop_of_length-le}
use Rattle.msgq_cli.proofs.OutputLemmas.{IsTaking-none, IsTaking-more, IsTaking-kept, Takes-all, Takes-part}
use Rattle.msgq_cli.proofs.output.write_all.Goals as goal
use Rattle.msgq_cli.proofs.output.write_all.Goals.{in-Ok, in-Err}

pub loop-init : goal.loop-init
loop-init g c = IsTaking-none _ _

-- nothing is left
pub returns-then-is_empty : goal.returns-then-is_empty
returns-then-is_empty g c = Takes-all _ _ c.args.text.now c.loop.rest.now c.loop.invariant
    (drop_of_length-le c.loop.rest.now {i = 0} (search rules))

-- the writer takes no byte more
pub returns-in-Ok-eq0 : goal.returns-in-Ok-eq0
returns-in-Ok-eq0 g c =
    Takes-part _ _ _ _ (IsTaking-more _ _ _ c.args.text.now c.loop.rest.now 0 c.loop.invariant (search rules))

pub returns-in-Err-2 : goal.returns-in-Err-2
returns-in-Err-2 g c =
    Takes-part _ _ _ _ (IsTaking-kept _ _ _ c.args.text.now c.loop.rest.now c.loop.invariant c.in-Err-2.ensures.bytes)

pub loop-preserved : goal.loop-preserved
loop-preserved g c = elim c.match-write.branch [
  | in-Ok w ↦ rw w.rest-is
      (IsTaking-more _ _ _ c.args.text.now c.loop.rest.now _ c.loop.invariant w.in-Ok.ensures.bytes)
  | in-Err w ↦ rw w.rest-is
      (IsTaking-kept _ _ _ c.args.text.now c.loop.rest.now c.loop.invariant w.in-Err.ensures.bytes)
]

-- the turns are over
pub returns : goal.returns
returns g c = Takes-part _ _ _ _ c.loop.invariant
