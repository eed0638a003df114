-- What the inquiry of the call's kind knows at the beginning.
use Rattle.call_decisions.proofs.any_inquiry.AnyInquiry.begin_anew.Goals as goal

pub returns-in-Get-clause-knows : goal.returns-in-Get-clause-knows
returns-in-Get-clause-knows c room s has = rw c.in-Get.is (c.begin.ensures.knows room s tt)

-- a Send is refused before anything is read, or begins with its Queue
pub returns-then-is_refused_unread-clause-knows : goal.returns-then-is_refused_unread-clause-knows
returns-then-is_refused_unread-clause-knows c room s has = rw (c.in-Send.is, c.refused.ensures)
    (c.is_refused_unread.ensures.refused c.if-is_refused_unread.true c.args.by s)

pub returns-else-is_refused_unread-clause-knows : goal.returns-else-is_refused_unread-clause-knows
returns-else-is_refused_unread-clause-knows c room s has = rw (c.in-Send.is, c.unread.ensures)
    (c.is_refused_unread.ensures.begun c.if-is_refused_unread.false c.args.by s)

pub returns-in-Stat-clause-knows : goal.returns-in-Stat-clause-knows
returns-in-Stat-clause-knows c room s has = rw c.in-Stat.is (c.begin-in-Stat.ensures.knows room s tt)

pub returns-in-Set-clause-knows : goal.returns-in-Set-clause-knows
returns-in-Set-clause-knows c room s has = rw c.in-Set.is (c.begin-in-Set.ensures.knows room s tt)

pub returns-in-Remove-clause-knows : goal.returns-in-Remove-clause-knows
returns-in-Remove-clause-knows c room s has = rw c.in-Remove.is (c.begin-in-Remove.ensures.knows room s tt)
