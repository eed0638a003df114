use Rattle.durable_desk.proofs.HistoryLemmas.{all_outlast, none_is_lost, opens_up_to_date}
use Rattle.durable_desk.proofs.laws.what_is_committed_outlasts_a_crash.Goals as goal

pub returns : goal.returns
returns g c = record {
  opened = opens_up_to_date g.P.PagePair.is_honest g.P.PagePair.may_leave;
  outlasts = all_outlast g.P.PagePair.is_honest g.P.PagePair.moment g.P.PagePair.left_since g.P.PagePair.may_leave
      c.a_desk_answers_by_the_rules.ensures c.refusals_leave_the_system.ensures
      g.met.P.PagePair.only_now;
  committed = none_is_lost g.P.PagePair.is_honest g.P.PagePair.moment g.P.PagePair.left_since g.P.PagePair.may_leave
      c.a_desk_answers_by_the_rules.ensures c.refusals_leave_the_system.ensures
      g.met.P.PagePair.only_now;
}
