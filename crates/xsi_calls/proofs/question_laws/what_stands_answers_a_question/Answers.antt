use Rattle.xsi_calls.proofs.KnowLemmas.{files_answer}
use Rattle.xsi_calls.proofs.question_laws.what_stands_answers_a_question.Goals as goal

pub returns : goal.returns
returns c = files_answer
