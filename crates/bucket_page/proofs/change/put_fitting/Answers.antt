use Rattle.std.proofs.Common.{arith}
use Rattle.bucket_page.proofs.ChangeLaws.{opened}
use Rattle.bucket_page.proofs.change.put_fitting.Goals as goal

pub put_at-requires-clause-room : goal.put_at-requires-clause-room
put_at-requires-clause-room c =
    let says = opened c.args.payload.now c.requires.bucket in
    omega (arith, says.used, c.requires.room)
