use Rattle.std.proofs.Common.{◌≡◌}
use Rattle.std.specs.Slice.Iter.{chunks_rest, chunks_size}
use Rattle.msgq_cli.proofs.OutputLemmas.{IsSpelling}
use Rattle.msgq_cli.specs.declared.printed_word.TheConstants.{BLOCK}
use Rattle.msgq_cli.proofs.output.Output.digits.Given as goal

abbrev pub invariant-loop-block : goal.invariant-loop-block
invariant-loop-block g l =
    (goal.iterator-loop-block g).can_next l.block-iterator
    × (goal.iterator-loop-block g).is_finite l.block-iterator
    × (chunks_size l.block-iterator ≡ BLOCK)
    × IsSpelling l.initial.self l.self l.bytes (chunks_rest l.block-iterator)
