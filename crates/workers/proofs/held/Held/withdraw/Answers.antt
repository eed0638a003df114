use Rattle.workers.proofs.WithdrawalLemmas.{is_taken_back, kept_at_withdrawal, withdrawn_at_desk}
use Rattle.workers.proofs.held.Held.withdraw.Goals as goal

-- the seat has no call, and nothing joins the journal
pub tell-requires-clause-change : goal.tell-requires-clause-change
tell-requires-clause-change g c =
    withdrawn_at_desk _ _ _ _ c.in-Some.ensures.call _ _ c.self.invariant.held.known c.requires.seat

pub invariant_of-self-2 : goal.invariant_of-self-2
invariant_of-self-2 g c =
    kept_at_withdrawal _ _ _ _ c.in-Some.ensures.call _ _ _ _ _
    c.withdrawals_refine.ensures c.self.invariant c.tell.ensures.own

pub returns-clause-pass : goal.returns-clause-pass
returns-clause-pass g c =
    is_taken_back _ _ _ _ c.in-Some.ensures.call c.self.inside.pass _ _ c.self.invariant.held.known c.requires.seat
    c.tell.ensures.right c.tell.ensures.seat
