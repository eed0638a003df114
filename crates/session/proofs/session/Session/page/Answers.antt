use Rattle.std.proofs.Common.{◌<◌, sym, subst}
use Rattle.session.specs.Session.{SessionState, pages_of}
use Rattle.session.proofs.PageLemmas.{is_given, none_given, page_kept}
use Rattle.session.proofs.KeepLemmas.{still_session}
use Rattle.session.proofs.session.Session.page.Goals as goal

-- it is not between calls, and so holds no system
pub returns-then-not-is_between_calls : goal.returns-then-not-is_between_calls
returns-then-not-is_between_calls g c =
    rw (← c.self.view_is) (none_given c.args.page c.self.inside.kernel c.if-not-is_between_calls.ensures.1)

pub returns : goal.returns
returns g c =
    let within = subst (λ (k : SessionState). c.args.page < pages_of k) (sym c.self.view_is) c.requires in
    rw c.ok.ensures.value (rw (← c.self.view_is)
    (is_given c.args.page c.page.result c.self.inside.kernel c.page.new.self within c.self.invariant c.page.ensures))

pub invariant_of-self : goal.invariant_of-self
invariant_of-self g c =
    still_session c.self.inside.kernel c.page.new.self
    (page_kept c.args.page c.page.result c.self.inside.kernel c.page.new.self c.page.ensures) c.self.invariant
