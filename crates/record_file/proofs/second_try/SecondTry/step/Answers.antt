use Rattle.std.proofs.Common.{sym, ◌∙◌}
use Rattle.record_file.proofs.ApproachLemmas.{arrives, goes_on as way_goes_on}
use Rattle.record_file.proofs.InsertReleaseLemmas.{gives_page_back, gives_directory_back}
use Rattle.record_file.proofs.SplitLemmas.{goes_on, is_full, is_split}
use Rattle.record_file.proofs.second_try.SecondTry.step.Goals as goal

-- ---- on the way to the bucket

pub returns-in_default : goal.returns-in_default
returns-in_default g c =
    let v = c.self.inside in
    let way = rw c.in-Approaching.is at c.self.invariant in
    let e = c.step-did.ensures in
    rw (← c.self.view_is, c.in-Approaching.is) (way_goes_on _ c.args.seat v.key v.pseudokey v.bytes c.args.value.now
    c.args.pool.now c.step-did.new.pool c.args.locks.now c.step-did.new.locks c.in-Approaching.approach
    c.step-did.new.self c.step-did.result way e.reads e.goal e.row e.progress e.step)

pub returns-in-At : goal.returns-in-At
returns-in-At g c =
    let v = c.self.inside in
    let way = rw c.in-Approaching.is at c.self.invariant in
    let e = c.step-did.ensures in
    rw (← c.self.view_is, c.in-Approaching.is) (arrives _ c.args.seat v.key v.pseudokey v.bytes c.args.value.now
    c.args.pool.now c.step-did.new.pool c.args.locks.now c.step-did.new.locks c.in-Approaching.approach
    c.step-did.new.self c.step-did.result way e.reads e.goal e.row e.progress e.step c.requires.seat c.in-At.depth
    c.in-At.page (sym c.place.ensures.place ∙ c.in-At.is))

-- ---- at the page

pub returns-in-Look : goal.returns-in-Look
returns-in-Look g c =
    let lent = rw (← c.self.view_is) at c.requires.lent in
    rw (← c.self.view_is, c.in-Look.is) (c.look_at.ensures c.args.value.now lent _ c.args.seat c.args.locks.now)

pub returns-in-Hop : goal.returns-in-Hop
returns-in-Hop g c = rw (← c.self.view_is, c.in-Hop.is) (c.hop_from.ensures _ c.args.value.now)

pub returns-in-Write : goal.returns-in-Write
returns-in-Write g c = rw (← c.self.view_is, c.in-Write.is) (c.write_on.ensures _ c.args.seat c.args.locks.now)

-- ---- the bucket is split

pub returns-in-Done : goal.returns-in-Done
returns-in-Done g c =
    let v = c.self.inside in
    let split = rw c.in-Splitting.is at c.self.invariant in
    let lent = rw (← c.self.view_is) at c.requires.lent in
    let row = rw (← c.self.view_is, c.in-Splitting.is) at c.requires.row in
    let e = c.step-did-in-Splitting.ensures in
    rw (← c.self.view_is, c.in-Splitting.is, c.depth.ensures.value) (is_split _ c.args.seat v.key v.pseudokey v.bytes
    c.args.value.now c.args.pool.now c.step-did-in-Splitting.new.pool c.args.locks.now
    c.step-did-in-Splitting.new.locks c.in-Splitting.page c.in-Splitting.split c.step-did-in-Splitting.new.self
    c.step-did-in-Splitting.result split lent e.writes e.aim e.row e.progress e.step e.answer row
    (sym c.place-in-Splitting.ensures ∙ c.in-Done.is))

pub returns-in-Full : goal.returns-in-Full
returns-in-Full g c =
    let v = c.self.inside in
    let split = rw c.in-Splitting.is at c.self.invariant in
    let lent = rw (← c.self.view_is) at c.requires.lent in
    let e = c.step-did-in-Splitting.ensures in
    rw (← c.self.view_is, c.in-Splitting.is) (is_full _ c.args.seat v.key v.pseudokey v.bytes
    c.args.value.now c.args.pool.now c.step-did-in-Splitting.new.pool c.args.locks.now
    c.step-did-in-Splitting.new.locks c.in-Splitting.page c.in-Splitting.split c.step-did-in-Splitting.new.self
    c.step-did-in-Splitting.result split lent e.writes e.aim e.row e.progress e.step e.answer
    (sym c.place-in-Splitting.ensures ∙ c.in-Full.is))

pub returns-in_default-place : goal.returns-in_default-place
returns-in_default-place g c =
    let v = c.self.inside in
    let split = rw c.in-Splitting.is at c.self.invariant in
    let lent = rw (← c.self.view_is) at c.requires.lent in
    let e = c.step-did-in-Splitting.ensures in
    rw (← c.self.view_is, c.in-Splitting.is) (goes_on _ c.args.seat v.key v.pseudokey v.bytes
    c.args.value.now c.args.pool.now c.step-did-in-Splitting.new.pool c.args.locks.now
    c.step-did-in-Splitting.new.locks c.in-Splitting.page c.in-Splitting.split c.step-did-in-Splitting.new.self
    c.step-did-in-Splitting.result split lent e.writes e.aim e.row e.progress e.step e.answer)

-- ---- its end

pub returns-in-GiveBackPage : goal.returns-in-GiveBackPage
returns-in-GiveBackPage g c =
    let v = c.self.inside in
    rw (← c.self.view_is, c.in-GiveBackPage.is) (gives_page_back _ c.args.seat v.key v.pseudokey v.bytes
    c.args.value.now c.args.pool.now c.args.locks.now c.release.new.self c.requires.ready c.requires.seat
    c.in-GiveBackPage.tried c.in-GiveBackPage.page c.release.ensures)

pub returns-in-GiveBackDirectory : goal.returns-in-GiveBackDirectory
returns-in-GiveBackDirectory g c =
    let v = c.self.inside in
    rw (← c.self.view_is, c.in-GiveBackDirectory.is) (gives_directory_back _ c.args.seat v.key v.pseudokey v.bytes
    c.args.value.now c.args.pool.now c.args.locks.now c.release-in-GiveBackDirectory.new.self c.requires.ready
    c.requires.seat c.in-GiveBackDirectory.tried c.release-in-GiveBackDirectory.ensures)
