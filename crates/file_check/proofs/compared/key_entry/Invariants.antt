-- Nothing is kept.
use Rattle.std.specs.Prelude.{⊤}
use Rattle.file_check.proofs.compared.key_entry.Given as goal

abbrev pub invariant-loop-place : goal.invariant-loop-place
invariant-loop-place l = ⊤
