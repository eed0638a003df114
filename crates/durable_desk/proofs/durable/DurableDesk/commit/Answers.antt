use Rattle.durable_desk.proofs.durable.DurableDesk.commit.Goals as goal

pub returns-clause-any_moment : goal.returns-clause-any_moment
returns-clause-any_moment g c = rw (← c.self.view_is) (λ sound. c.keep-kept.ensures.any_moment)
