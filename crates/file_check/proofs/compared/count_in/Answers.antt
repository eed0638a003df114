-- Record by record, up to the last.
use Rattle.std.proofs.Common.{suc, ◌≡◌, ◌+◌, List, [], length, ap, arith, rules}
use Rattle.file_check.specs.Words.{Pair}
use Rattle.file_check.proofs.GatheredLemmas.{counted_all}
use Rattle.file_check.proofs.RecordLemmas.{tested_more}
use Rattle.file_check.proofs.compared.count_in.Goals as goal

pub loop-record-preserved : goal.loop-record-preserved
loop-record-preserved c =
    let steps = c.in-Some.ensures.steps in
    let sum : c.in_ok-count.count ≡ c.loop-record.count + 1 = search rules in
    let long : length c.loop-record.record-iterator ≡ suc (length c.next.new.self) =
    ap (λ (xs : List Pair). length xs) steps in
    let before = c.loop-record.invariant.3 in (
      tt,
      tt,
      tested_more _ _ _ _ _ c.loop-record.invariant.2 steps (c.is_of.ensures c.if-not-is_of.false),
      omega (arith, sum, long, before),
    )

pub returns : goal.returns
returns c =
    let ended : c.loop-record.record-iterator ≡ [] = search rules in
    counted_all c.args.layout.now c.args.system.now c.args.bucket.now.records c.loop-record.record-iterator
    c.loop-record.count
    c.loop-record.invariant.2 c.loop-record.invariant.3 ended
