use Rattle.step_rules.proofs.RestLemmas.{rest_is_sound, rest_is_quiet}
use Rattle.step_rules.proofs.laws.a_world_at_rest_is_a_quiet_file.Goals as goal

pub returns : goal.returns
returns c = record {
  sound = λ hash s t sound lawful rest. rest_is_sound hash s t sound lawful rest;
  quiet = λ hash w sound rest. rest_is_quiet hash w sound rest;
}
