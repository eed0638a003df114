-- It is pinned, sealed, and its pin given back; or it did not come to a frame.
use Rattle.std.proofs.Common.{◌<◌, ℕ, refl, sym, subst, length, vec_capacity}
use Rattle.page_device.specs.Sealed.{IsSealed, payload_of}
use Rattle.std.specs.Option.{is_some}
use Rattle.interleaving_core.specs.Kernel.{KernelState}
use Rattle.interleaving_core.specs.Renewing.{FailsToRead, IsRead}
use Rattle.interleaving_core.proofs.RenewLemmas.{fails_to_read, page_read, read_whole}
use Rattle.interleaving_core.proofs.kernel.Kernel.page.Goals as goal

pub invariant_of-self : goal.invariant_of-self
invariant_of-self g c =
    let old : KernelState g.row.K.Denot = record {
      keys = c.self.inside.keys;
      pool = c.self.inside.pool;
      locks = c.self.inside.locks;
      callers = c.self.inside.callers.items;
      seats = c.self.inside.seats.items;
      journal = c.self.inside.journal.items;
      room = vec_capacity c.self.inside.journal;
      stopped = c.self.inside.stopped;
      failed = is_some c.self.inside.failure;
      failure = c.self.inside.failure;
      searches = c.self.inside.searches;
    } in
    read_whole old c.self.invariant c.args.page c.in-Ok.frame c.pin.new.self c.unpin.new.self c.in-Ok.ensures.ok.0
    c.in-Ok.ensures.ok.1 c.in-Ok.ensures.pins c.in-Ok.ensures.keeps c.in-Ok.ensures.cause.later
    (rw c.sealed-bytes.ensures.same at c.unpin.ensures)

pub returns-in-Ok : goal.returns-in-Ok
returns-in-Ok g c =
    let old : KernelState g.row.K.Denot = record {
      keys = c.self.inside.keys;
      pool = c.self.inside.pool;
      locks = c.self.inside.locks;
      callers = c.self.inside.callers.items;
      seats = c.self.inside.seats.items;
      journal = c.self.inside.journal.items;
      room = vec_capacity c.self.inside.journal;
      stopped = c.self.inside.stopped;
      failed = is_some c.self.inside.failure;
      failure = c.self.inside.failure;
      searches = c.self.inside.searches;
    } in
    subst (λ (k : KernelState g.row.K.Denot). IsRead c.args.page c.sealed-bytes.result k
    (record old { pool = c.unpin.new.self })) c.self.view_is
    (page_read old c.self.invariant c.args.page c.in-Ok.frame c.pin.new.self c.unpin.new.self c.in-Ok.ensures.ok.0
    c.in-Ok.ensures.ok.1 c.in-Ok.ensures.pins c.in-Ok.ensures.keeps c.in-Ok.ensures.cause.later
    (rw c.sealed-bytes.ensures.same at c.unpin.ensures) c.sealed-bytes.result (payload_of c.sealed-bytes.result)
    c.sealed-bytes.ensures.image refl
    (subst (λ (n : ℕ). IsSealed n c.sealed-bytes.result) c.in-Ok.ensures.ok.0 c.sealed-bytes.ensures.sealed))

pub returns-in-Err : goal.returns-in-Err
returns-in-Err g c =
    let old : KernelState g.row.K.Denot = record {
      keys = c.self.inside.keys;
      pool = c.self.inside.pool;
      locks = c.self.inside.locks;
      callers = c.self.inside.callers.items;
      seats = c.self.inside.seats.items;
      journal = c.self.inside.journal.items;
      room = vec_capacity c.self.inside.journal;
      stopped = c.self.inside.stopped;
      failed = is_some c.self.inside.failure;
      failure = c.self.inside.failure;
      searches = c.self.inside.searches;
    } in
    subst (λ (k : KernelState g.row.K.Denot). FailsToRead c.args.page c.in-Err.fault k c.fail.new.self) c.self.view_is
    (fails_to_read old c.fail.new.self c.args.page c.in-Err.fault c.pin.new.self c.self.invariant
    (subst (λ (k : KernelState g.row.K.Denot). c.args.page < length k.pool.images) (sym c.self.view_is)
    c.requires.within) c.fail.ensures c.in-Err.ensures.pins c.in-Err.ensures.keeps c.in-Err.ensures.past.0
    c.in-Err.ensures.crowded.0 c.in-Err.ensures.cause)
