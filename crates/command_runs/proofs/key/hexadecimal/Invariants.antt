-- The digits so far were read.
use Rattle.std.proofs.Common.{◌≡◌, Some, take}
use Rattle.std.specs.List.{fold}
use Rattle.command_runs.specs.Keys.{with_digit}
use Rattle.command_runs.proofs.key.hexadecimal.Given as goal

abbrev pub invariant-loop-digit : goal.invariant-loop-digit
invariant-loop-digit l = l.value ≡ fold with_digit (Some 0) (take l.digit-index l.word)
