use Rattle.std.proofs.Common.{◌≡◌, ◌+◌, ◌≤◌, length}
use Rattle.msgq_cli.specs.Lines.{lines_of}
use Rattle.msgq_cli.specs.Scripts.{script_from, script_of}
use Rattle.msgq_cli.proofs.script.read_script.Given as goal

-- the lines that are left go on to what all of them give, and are at most as many as the bytes that are left
pub record IsReading (l : goal.Live-lines) : Type 0 where
  pub goes_on : script_from (l.number + 1) l.script (lines_of l.rest) ≡ script_of l.bytes
  pub count : l.number + length l.rest ≤ length l.bytes

abbrev pub invariant-lines : goal.invariant-lines
invariant-lines l = IsReading l

abbrev pub decreases-lines : goal.decreases-lines
decreases-lines l = length l.rest
