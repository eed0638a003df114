use Rattle.step_rules.proofs.WayLemmas.{kind_lengthens, schedules_lengthen}
use Rattle.step_rules.proofs.laws.two_kinds_lengthen_a_way_by_a_hop.Goals as goal

pub returns : goal.returns
returns c = record {
  step = λ kind hash seat i old new page k sound does apart aim leads.
      kind_lengthens kind hash seat i old new page k sound does apart aim leads;
  schedule = λ hash moves old new i page k sound leads still h.
      schedules_lengthen hash moves old new i page k sound leads still h;
}
