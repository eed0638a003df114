-- The messages so far keep their limits, and their serials ascend.
use Rattle.queue_model.proofs.PartsLemmas.{AscendSoFar}
use Rattle.queue_model.proofs.Words.{Message}
use Rattle.queue_model.specs.Lawful.{IsLawfulMessage}
use Rattle.queue_model.proofs.message.are_lawful.Given as goal

abbrev pub invariant-loop-message : goal.invariant-loop-message
invariant-loop-message l =
    AscendSoFar (IsLawfulMessage l.next_serial) (λ (m : Message). m.serial) l.messages l.message-index l.low
