-- The next seat is idle, and holds no lock.
use Rattle.std.proofs.Common.{arith, rules, refl, ◌≡◌, ◌∙◌, sym, subst, ◌+◌, ◌<◌, [], length, Some, None, slice_get}
use Rattle.page_locks.specs.Table.{row_of}
use Rattle.record_file.specs.BucketAccesses.{BucketView, bucket_locks}
use Rattle.record_file.specs.Words.{EndsRow}
use Rattle.machine_trials.proofs.SeatLemmas.{Holds-at, idle_read}
use Rattle.machine_trials.proofs.trial.Trial.heads_for.Goals as goal

pub heads_for-requires-clause-row : goal.heads_for-requires-clause-row
heads_for-requires-clause-row g c =
    let within : c.self.inside.begun < length c.self.inside.seats.items = search rules in
    let idle : slice_get c.self.inside.seats.items c.self.inside.begun ≡ Some None =
    idle_read c.self.inside.seats.items c.self.inside.begun c.index.result.now within c.index.ensures
    (sym c.is_some.ensures ∙ c.if-is_some.false)
    in
    let empty : row_of c.self.inside.locks (c.self.inside.begun + 1) ≡ [] =
    Holds-at c.self.inside.pool c.self.inside.locks c.self.inside.seats.items c.self.invariant c.self.inside.begun
    (c.self.inside.begun + 1) None (omega arith) idle in
    subst (λ (b : BucketView). EndsRow (bucket_locks b) 2 (row_of c.self.inside.locks (c.self.inside.begun + 1)))
    (sym c.new-find.ensures) (record {
      before = [];
      bare = record { directory = refl; pages = λ n. refl };
      room = omega arith;
      is = empty;
    })
