use Rattle.std.proofs.Common.{refl}
use Rattle.command_runs.proofs.AskLemmas.{answers_call, lacks_answer}
use Rattle.command_runs.proofs.asker.AskerAnswering.answer.Goals as goal

pub returns-in-Ok : goal.returns-in-Ok
returns-in-Ok c = λ content a s stands answers.
    answers_call content a c.args.call s c.args.self.now _ stands c.in-Ok.answer c.in-Ok.ensures

-- it is not answered
pub returns-in-Err : goal.returns-in-Err
returns-in-Err c = λ content a s stands answers.
    lacks_answer content a c.args.call s c.args.self.now _ stands answers c.in-Err.fault c.in-Err.ensures refl
