use Rattle.std.specs.Prelude.{◌≡◌, drop}
use Rattle.msgq_cli.specs.Options.{no_options, options_after}
use Rattle.schedules.specs.Words.{texts}
use Rattle.msgq_cli.proofs.options.Options.read.Given as goal

-- what the words that are left make of the options so far is what all of them say
abbrev pub invariant-loop-word : goal.invariant-loop-word
invariant-loop-word l =
    options_after l.options (texts (drop l.word-index l.words)) ≡ options_after no_options (texts l.words)
