-- So many seats, and so many lines.
use Rattle.std.proofs.Common.{◌≡◌, None, replicate}
use Rattle.replays.specs.Places.{places_at}
use Rattle.replays.proofs.progress.Progress.new.Given as goal

abbrev pub invariant-loop-place : goal.invariant-loop-place
invariant-loop-place l = l.places.items ≡ places_at l.lines l.place

abbrev pub invariant-loop : goal.invariant-loop
invariant-loop l = l.replies.items ≡ replicate l.counter None
