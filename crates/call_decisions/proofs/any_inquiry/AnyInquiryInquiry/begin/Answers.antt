-- What the inquiry of the call's kind knows at the beginning.
use Rattle.call_decisions.proofs.any_inquiry.AnyInquiryInquiry.begin.Goals as goal

pub returns-in-Get-clause-knows : goal.returns-in-Get-clause-knows
returns-in-Get-clause-knows c room s has = rw c.in-Get.is (c.begin.ensures.knows room s tt)

pub returns-in-Send-clause-knows : goal.returns-in-Send-clause-knows
returns-in-Send-clause-knows c room s has = rw c.in-Send.is (c.begin-in-Send.ensures.knows room s tt)

pub returns-in-Stat-clause-knows : goal.returns-in-Stat-clause-knows
returns-in-Stat-clause-knows c room s has = rw c.in-Stat.is (c.begin-in-Stat.ensures.knows room s tt)

pub returns-in-Set-clause-knows : goal.returns-in-Set-clause-knows
returns-in-Set-clause-knows c room s has = rw c.in-Set.is (c.begin-in-Set.ensures.knows room s tt)

pub returns-in-Remove-clause-knows : goal.returns-in-Remove-clause-knows
returns-in-Remove-clause-knows c room s has = rw c.in-Remove.is (c.begin-in-Remove.ensures.knows room s tt)
