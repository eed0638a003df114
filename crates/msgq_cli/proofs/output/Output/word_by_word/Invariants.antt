use Rattle.std.proofs.Common.{map, take}
use Rattle.msgq_cli.specs.Outputs.{Prints}
use Rattle.msgq_cli.specs.Texts.{text_of}
use Rattle.msgq_cli.proofs.OutputLemmas.{spaced}
use Rattle.msgq_cli.proofs.output.Output.word_by_word.Given as goal

abbrev pub invariant-loop-word : goal.invariant-loop-word
invariant-loop-word g l =
    Prints l.initial.self l.self (spaced (map text_of (take l.word-index l.rest)))
