use Rattle.interleavings.proofs.SettleLemmas.{leaves_what_it_does_not_write, others_answer, others_sweep}
use Rattle.interleavings.proofs.seat_laws.a_call_goes_over_to_what_others_settle.Goals as goal

pub returns-clause-idle : goal.returns-clause-idle
returns-clause-idle c = leaves_what_it_does_not_write

pub returns-clause-answers : goal.returns-clause-answers
returns-clause-answers c = others_answer

pub returns-clause-sweeps : goal.returns-clause-sweeps
returns-clause-sweeps c = others_sweep
