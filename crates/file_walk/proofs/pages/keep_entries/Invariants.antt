-- As many entries as were looked at are kept, up to the most.
use Rattle.std.proofs.Common.{◌≡◌, ◌≤◌, ◌++◌, take, length}
use Rattle.file_walk.proofs.pages.keep_entries.Given as goal

abbrev pub invariant-loop-slot : goal.invariant-loop-slot
invariant-loop-slot l = record {
  room : length l.entries.items ≤ l.most;
  kept : l.entries.items ≡ l.fn.entries.items ++ take l.slot l.directory;
}
