use Rattle.step_rules.proofs.BoundLemmas.{depth_is_exact, kind_parts, entry_is_near, hop_is_nearer}
use Rattle.step_rules.proofs.WalkLemmas.{walks_go_on, search_hops_little}
use Rattle.step_rules.proofs.laws.a_search_hops_once_more_at_most.Goals as goal

pub returns : goal.returns
returns c = record {
  walk = λ hash seat k. walks_go_on hash seat k;
  few = λ seat k walk w on. search_hops_little seat k walk w on;
  depth = λ hash w k sound. depth_is_exact hash w k sound;
  parts = λ kind hash seat i old new depth k sound does apart there.
      kind_parts kind hash seat i old new depth k sound does apart there;
  entry = λ hash seat w depth k sound deep. entry_is_near hash seat w depth k sound deep;
  hop = λ hash w page k sound leads other. hop_is_nearer hash w page k sound leads other;
}
