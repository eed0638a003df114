use Rattle.step_rules.proofs.OwnLemmas.{frees_nobodys, links_nobodys}
use Rattle.step_rules.proofs.learns.a_freed_page_is_nobodys.Goals as goal

pub returns : goal.returns
returns c = record {
  freed = λ hash seat other old new does sound apart aim. frees_nobodys hash seat other old new sound apart does aim;
  linked = λ hash seat other old new does sound apart aim. links_nobodys hash seat other old new sound apart does aim;
}
