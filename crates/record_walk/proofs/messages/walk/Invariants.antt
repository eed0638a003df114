-- The messages so far are the first of each queue that is walked, and the serial to come is that of the next.
use Rattle.std.proofs.Common.{◌≡◌, ◌-◌, ◌≤◌, IsTrue, length}
use Rattle.numbers.specs.declared.limits.TheConstants.{MAX_MESSAGES}
use Rattle.record_walk.specs.Held.{AreLinked, IsStill}
use Rattle.record_walk.specs.Systems.{HasQueue}
use Rattle.record_walk.specs.Words.{Queue, first_of, serials}
use Rattle.record_walk.proofs.WalkLemmas.{IsWalkedTo}
use Rattle.record_walk.proofs.messages.walk.Given as goal

abbrev pub invariant-walk : goal.invariant-walk
invariant-walk g l = record {
  still : IsStill g.F.Records.held g.F.Records.pages g.F.Records.is_honest g.F.Records.fault_count l.fn.file l.file;
  few : length l.messages ≤ MAX_MESSAGES;
  walked : IsTrue (g.F.Records.is_honest l.fn.file) → (q : Queue) → HasQueue (g.F.Records.held l.fn.file) q →
      q.id ≡ l.fn.id → l.fn.first ≡ first_of (serials q.messages) → IsWalkedTo q l.messages l.next;
  linked : IsTrue (g.F.Records.is_honest l.fn.file) →
      AreLinked (g.F.Records.held l.fn.file) l.fn.id l.messages l.links.items;
  number : length l.links.items ≡ length l.messages;
}

-- each message brings the most messages nearer
abbrev pub decreases-walk : goal.decreases-walk
decreases-walk g l = MAX_MESSAGES - length l.messages
