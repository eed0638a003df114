use Rattle.hash_file.proofs.Searches.{looks_answer}
use Rattle.hash_file.specs.Chain.{chain}
use Rattle.hash_file.proofs.laws.a_look_answers_what_the_file_holds.Goals as goal

pub returns : goal.returns
returns c = λ hash s d n key h. looks_answer hash s d (chain s) n key h
