use Rattle.std.proofs.Common.{refl, rules}
use Rattle.std.proofs.lemmas.Fn.{filter_same}
use Rattle.desk.specs.Desk.{is_on_connection}
use Rattle.desk.proofs.ServingLemmas.{withdrawn}
use Rattle.desk.proofs.desk.Desk.leave.Goals as goal

pub returns : goal.returns
returns c =
    let left = filter_same _ _ _ (λ x b f' k. search rules) _ _ c.retain.ensures.filtered in
    rw (← c.self.view_is) (withdrawn (is_on_connection c.args.connection) _ _ _ left
    (rw (c.len.ensures, c.len-many.ensures, c.retain.new.self.ok.0, c.self.inside.waiting.ok.0) refl))
