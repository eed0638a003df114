-- Until the file is restored a crash leaves what it might have left before, and then what was restored.
use Rattle.std.proofs.Common.{rules}
use Rattle.safe_device.specs.Safe.{Fits}
use Rattle.safe_device.proofs.Moments.{goes_on}
use Rattle.safe_device.proofs.Recovering.{at_images, at_clear, at_rest, outlasts, stands}
use Rattle.safe_device.proofs.recovery.recover.Goals as goal

pub returns-in_err-put_back-clause-any_moment : goal.returns-in_err-put_back-clause-any_moment
returns-in_err-put_back-clause-any_moment g c honest =
    let P = g.P.PagePair in
    let old = c.args.pair.now in
    let synced = c.sync_journal.new.self in
    let mid = c.put_back.new.pair in
    let sync = c.sync_journal.ensures in
    at_images P.file P.journal P.may_leave P.moment P.left_since old synced mid
    (g.met.P.PagePair.only_now old) sync.file sync.journal sync.crash sync.time (c.put_back.ensures.any_moment honest)

pub returns-in_err-clear-clause-any_moment : goal.returns-in_err-clear-clause-any_moment
returns-in_err-clear-clause-any_moment g c honest =
    let P = g.P.PagePair in
    let old = c.args.pair.now in
    let synced = c.sync_journal.new.self in
    let mid = c.put_back.new.pair in
    let sync = c.sync_journal.ensures in
    let restoring = c.put_back.ensures.restoring honest in
    let same = restoring.journal_kept (record { file = P.file mid; journal = P.journal mid })
    (g.met.P.PagePair.seen_may_stay mid honest) in
    let fits : Fits (P.journal old) (P.file old) = (c.in_ok-fits.ensures honest).0 (search rules) in
    at_clear P.file P.journal P.may_leave P.moment P.left_since old synced mid
    (g.met.P.PagePair.only_now old) sync.file sync.journal sync.crash sync.time (c.put_back.ensures.any_moment honest)
    c.clear.new.pair fits (c.in_ok-put_back.ensures.file honest) c.in_ok-put_back.ensures.durable restoring
    (c.clear.ensures.crash honest) same
    c.clear.ensures.time

pub returns-in_err-sync_journal-2-clause-any_moment : goal.returns-in_err-sync_journal-2-clause-any_moment
returns-in_err-sync_journal-2-clause-any_moment g c honest =
    let P = g.P.PagePair in
    let old = c.args.pair.now in
    let synced = c.sync_journal.new.self in
    let mid = c.put_back.new.pair in
    let sync = c.sync_journal.ensures in
    let restoring = c.put_back.ensures.restoring honest in
    let same = restoring.journal_kept (record { file = P.file mid; journal = P.journal mid })
    (g.met.P.PagePair.seen_may_stay mid honest) in
    let fits : Fits (P.journal old) (P.file old) = (c.in_ok-fits.ensures honest).0 (search rules) in
    let so_far = at_clear P.file P.journal P.may_leave P.moment P.left_since old synced mid
    (g.met.P.PagePair.only_now old) sync.file sync.journal sync.crash sync.time (c.put_back.ensures.any_moment honest)
    c.clear.new.pair fits (c.in_ok-put_back.ensures.file honest) c.in_ok-put_back.ensures.durable restoring
    (c.clear.ensures.crash honest) same
    c.clear.ensures.time in
    let kept = stands P.file P.journal P.may_leave P.moment P.left_since old synced mid
    (g.met.P.PagePair.only_now old) sync.file sync.journal sync.crash sync.time (c.put_back.ensures.any_moment honest)
    c.clear.new.pair fits (c.in_ok-put_back.ensures.file honest) c.in_ok-put_back.ensures.durable restoring
    (c.clear.ensures.crash honest) same in
    goes_on P.moment P.left_since P.may_leave old c.clear.new.pair c.sync_journal-2.new.self _ so_far
    c.sync_journal-2.ensures.time (λ f now. kept f (c.sync_journal-2.ensures.crash f now))

pub returns-clause-any_moment : goal.returns-clause-any_moment
returns-clause-any_moment g c honest =
    let P = g.P.PagePair in
    let old = c.args.pair.now in
    let synced = c.sync_journal.new.self in
    let mid = c.put_back.new.pair in
    let sync = c.sync_journal.ensures in
    let restoring = c.put_back.ensures.restoring honest in
    let same = restoring.journal_kept (record { file = P.file mid; journal = P.journal mid })
    (g.met.P.PagePair.seen_may_stay mid honest) in
    let fits : Fits (P.journal old) (P.file old) = (c.in_ok-fits.ensures honest).0 (search rules) in
    let so_far = at_clear P.file P.journal P.may_leave P.moment P.left_since old synced mid
    (g.met.P.PagePair.only_now old) sync.file sync.journal sync.crash sync.time (c.put_back.ensures.any_moment honest)
    c.clear.new.pair fits (c.in_ok-put_back.ensures.file honest) c.in_ok-put_back.ensures.durable restoring
    (c.clear.ensures.crash honest) same
    c.clear.ensures.time in
    let kept = stands P.file P.journal P.may_leave P.moment P.left_since old synced mid
    (g.met.P.PagePair.only_now old) sync.file sync.journal sync.crash sync.time (c.put_back.ensures.any_moment honest)
    c.clear.new.pair fits (c.in_ok-put_back.ensures.file honest) c.in_ok-put_back.ensures.durable restoring
    (c.clear.ensures.crash honest) same in
    goes_on P.moment P.left_since P.may_leave old c.clear.new.pair c.sync_journal-2.new.self _ so_far
    c.sync_journal-2.ensures.time (λ f now. kept f (c.sync_journal-2.ensures.crash f now))

pub returns-clause-at_rest : goal.returns-clause-at_rest
returns-clause-at_rest g c honest =
    let P = g.P.PagePair in
    let old = c.args.pair.now in
    let synced = c.sync_journal.new.self in
    let mid = c.put_back.new.pair in
    let sync = c.sync_journal.ensures in
    let restoring = c.put_back.ensures.restoring honest in
    let same = restoring.journal_kept (record { file = P.file mid; journal = P.journal mid })
    (g.met.P.PagePair.seen_may_stay mid honest) in
    let fits : Fits (P.journal old) (P.file old) = (c.in_ok-fits.ensures honest).0 (search rules) in
    at_rest P.file P.journal P.may_leave P.moment P.left_since old synced mid
    (g.met.P.PagePair.only_now old) sync.file sync.journal sync.crash sync.time (c.put_back.ensures.any_moment honest)
    c.clear.new.pair fits (c.in_ok-put_back.ensures.file honest) c.in_ok-put_back.ensures.durable restoring
    (c.clear.ensures.crash honest) same
    c.sync_journal-2.new.self (c.in_ok-clear.ensures.ok honest) c.clear.ensures.file c.sync_journal-2.ensures.file
    c.sync_journal-2.ensures.journal c.sync_journal-2.ensures.crash c.in_ok-sync_journal-2.ensures.ok

pub returns-clause-durable : goal.returns-clause-durable
returns-clause-durable g c honest =
    let P = g.P.PagePair in
    let old = c.args.pair.now in
    let synced = c.sync_journal.new.self in
    let mid = c.put_back.new.pair in
    let sync = c.sync_journal.ensures in
    let restoring = c.put_back.ensures.restoring honest in
    let same = restoring.journal_kept (record { file = P.file mid; journal = P.journal mid })
    (g.met.P.PagePair.seen_may_stay mid honest) in
    let fits : Fits (P.journal old) (P.file old) = (c.in_ok-fits.ensures honest).0 (search rules) in
    outlasts P.file P.journal P.may_leave P.moment P.left_since old synced mid
    (g.met.P.PagePair.only_now old) sync.file sync.journal sync.crash sync.time (c.put_back.ensures.any_moment honest)
    c.clear.new.pair fits (c.in_ok-put_back.ensures.file honest) c.in_ok-put_back.ensures.durable restoring
    (c.clear.ensures.crash honest) same
    c.sync_journal-2.new.self (c.in_ok-clear.ensures.ok honest) c.clear.ensures.file c.sync_journal-2.ensures.file
    c.sync_journal-2.ensures.journal c.sync_journal-2.ensures.crash c.in_ok-sync_journal-2.ensures.ok
