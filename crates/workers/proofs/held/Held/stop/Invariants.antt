use Rattle.std.specs.Prelude.{drop, length}
use Rattle.workers.specs.Held.{known_of}
use Rattle.workers.proofs.held.Held.stop.Given as goal

-- what the kernel leaves, and what joined its journal
abbrev pub ghosts-tell_stop : goal.ghosts-tell_stop
ghosts-tell_stop g a = record {
  desk = known_of a.kernel.now;
  told = drop (length a.own.now.journal) a.kernel.now.journal;
}
