use Rattle.std.proofs.Common.{refl}
use Rattle.call_writes.proofs.WriteDecidedLemmas.{can_try, can_undo, can_write}
use Rattle.call_writes.proofs.write_laws.what_is_decided_is_owed.Goals as goal

pub returns-clause-begins : goal.returns-clause-begins
returns-clause-begins c = can_try

pub returns-clause-decided : goal.returns-clause-decided
returns-clause-decided c = λ p place old new leads. (can_write p old new leads, leads.leads)

pub returns-clause-full : goal.returns-clause-full
returns-clause-full c = λ p standing records can. (can_undo p standing records can, refl)
