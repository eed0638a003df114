use Rattle.step_rules.proofs.OwnLemmas.{own_locks_keep, own_grant_keeps}
use Rattle.step_rules.proofs.learns.own_locks_keep_what_is_known.Goals as goal

pub returns : goal.returns
returns c = record {
  kept = λ seat w t fact h anchor. own_locks_keep seat w t fact h anchor;
  grant = λ seat old new fact g h. own_grant_keeps seat old new g fact h;
}
