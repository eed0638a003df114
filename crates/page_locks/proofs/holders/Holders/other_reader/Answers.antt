use Rattle.std.proofs.Common.{arith, rules, ◌<◌, ◌-◌, ◌^◌}
use Rattle.std.proofs.Math.Nat.{add-sub_cancel}
use Rattle.page_locks.proofs.HolderLemmas.{nobody_else, first_else}
use Rattle.page_locks.proofs.holders.Holders.other_reader.Goals as goal

-- where no bit is left, none but the seat's was set
pub returns-then-others-eq0-clause-none : goal.returns-then-others-eq0-clause-none
returns-then-others-eq0-clause-none c =
    let small : c.args.self.readers < 2 ^ 64 = search rules in
    nobody_else c.args.self.readers (c.args.seat - 1) small (omega arith) c.if-others-eq0.true

-- the first bit that is left is not the seat's
pub returns-clause-another : goal.returns-clause-another
returns-clause-another c =
    let small : c.args.self.readers < 2 ^ 64 = search rules in
    let first = first_else c.args.self.readers (c.args.seat - 1) small (omega arith) c.if-others-eq0.false in
    λ same. first.0 (omega (arith, same))

-- and was set
pub returns-clause-reads : goal.returns-clause-reads
returns-clause-reads c =
    let small : c.args.self.readers < 2 ^ 64 = search rules in
    let first = first_else c.args.self.readers (c.args.seat - 1) small (omega arith) c.if-others-eq0.false in
    rw (add-sub_cancel _ 1) first.1
