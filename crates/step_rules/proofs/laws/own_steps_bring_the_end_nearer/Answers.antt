use Rattle.step_rules.proofs.FallLemmas.{searches_fall, step_falls, copies_on, retargets_on, split_deepens}
use Rattle.step_rules.proofs.laws.own_steps_bring_the_end_nearer.Goals as goal

pub returns : goal.returns
returns c = record {
  searches = λ hash w k sound. searches_fall hash w k sound;
  steps = λ kind hash seat old new does. step_falls kind hash seat old new does;
  copies = λ hash seat old new does sound room. copies_on hash seat old new does sound room;
  retargets = λ hash seat old new does sound. retargets_on hash seat old new does sound;
  splits = λ hash seat old new does sound. split_deepens hash seat old new does sound;
}
