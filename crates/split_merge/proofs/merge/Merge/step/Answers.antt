use Rattle.std.proofs.Common.{sym, ap, ◌∙◌, List}
use Rattle.page_locks.specs.Locks.{kind_of}
use Rattle.step_rules.proofs.LockLemmas.{IsHeld-some}
use Rattle.split_merge.specs.MergeWords.{Lock, Selective, Exclusive, Directory, Page, row_of, GrantRight, GrantLeft, GrantRightAgain, Convert, GrantAlone}
use Rattle.split_merge.specs.Places.{MergeView}
use Rattle.split_merge.proofs.MergeRowLemmas.{directory_held, no_page_held, no_other_held}
use Rattle.split_merge.proofs.LookLemmas.{row_at}
use Rattle.split_merge.proofs.ArmLemmas.{converts}
use Rattle.split_merge.proofs.LockArms.{grant_right, grant_left, grant_right_again, grant_alone, give_back, release_right, release_left, give_up_right, give_up, release_directory, release_alone}
use Rattle.split_merge.proofs.JoinLemmas.{joins, buries, names_left}
use Rattle.split_merge.proofs.MergeFreeLemmas.{counts, frees, links}
use Rattle.split_merge.proofs.ApproachLemmas.{not_reached, approaches}
use Rattle.split_merge.proofs.merge.Merge.step.Goals as goal

-- ---- on the way to the bucket
pub returns-in_default : goal.returns-in_default
returns-in_default g c =
    rw (← c.self.view_is, c.in-Approaching.is)
    (approaches c.args.seat c.self.inside.key c.self.inside.approach c.step.new.self c.args.pool.now c.step.new.pool
    c.args.locks.now c.step.new.locks c.step.result
    (not_reached c.self.inside.approach.place
    (λ depth page same. c.in_default.not-At depth page (c.place.ensures.place ∙ same)))
    c.step.ensures.reads c.step.ensures.goal c.step.ensures.row c.step.ensures.progress c.step.ensures.step)

-- ---- locks
pub grant-requires-clause-fresh : goal.grant-requires-clause-fresh
grant-requires-clause-fresh g c =
    let is = ap (λ (v : MergeView). v.place) (sym c.self.view_is) ∙ c.in-GrantRight.is in
    let r = row_at c.args.self.now (GrantRight c.in-GrantRight.b c.in-GrantRight.seen)
    (row_of c.args.locks.now c.args.seat) is c.requires.row in
    ap (λ (xs : List Lock). kind_of xs (Page c.in-GrantRight.b.right)) r.is ∙ no_other_held r.before r.bare
    Selective Selective
    c.in-GrantRight.b.left c.in-GrantRight.b.right (let are = rw c.in-GrantRight.is at c.self.invariant in are.apart)

pub grant-requires-in-GrantLeft-clause-fresh : goal.grant-requires-in-GrantLeft-clause-fresh
grant-requires-in-GrantLeft-clause-fresh g c =
    let is = ap (λ (v : MergeView). v.place) (sym c.self.view_is) ∙ c.in-GrantLeft.is in
    let r = row_at c.args.self.now (GrantLeft c.in-GrantLeft.b) (row_of c.args.locks.now c.args.seat) is
    c.requires.row in
    ap (λ (xs : List Lock). kind_of xs (Page c.in-GrantLeft.b.left)) r.is ∙ no_page_held r.before r.bare Selective
    c.in-GrantLeft.b.left

pub grant-requires-in-GrantRightAgain-clause-fresh : goal.grant-requires-in-GrantRightAgain-clause-fresh
grant-requires-in-GrantRightAgain-clause-fresh g c =
    let is = ap (λ (v : MergeView). v.place) (sym c.self.view_is) ∙ c.in-GrantRightAgain.is in
    let r = row_at c.args.self.now (GrantRightAgain c.in-GrantRightAgain.b) (row_of c.args.locks.now c.args.seat)
    is c.requires.row in
    ap (λ (xs : List Lock). kind_of xs (Page c.in-GrantRightAgain.b.right)) r.is ∙ no_other_held r.before r.bare
    Selective Selective
    c.in-GrantRightAgain.b.left c.in-GrantRightAgain.b.right
    (let are = rw c.in-GrantRightAgain.is at c.self.invariant in are.apart)

pub grant-requires-in-GrantAlone-clause-fresh : goal.grant-requires-in-GrantAlone-clause-fresh
grant-requires-in-GrantAlone-clause-fresh g c =
    let is = ap (λ (v : MergeView). v.place) (sym c.self.view_is) ∙ c.in-GrantAlone.is in
    let r = row_at c.args.self.now (GrantAlone c.in-GrantAlone.j) (row_of c.args.locks.now c.args.seat) is
    c.requires.row in
    ap (λ (xs : List Lock). kind_of xs (Page c.in-GrantAlone.j.right)) r.is ∙ no_page_held r.before r.bare
    Exclusive c.in-GrantAlone.j.right

pub convert-requires-clause-held : goal.convert-requires-clause-held
convert-requires-clause-held g c =
    let is = ap (λ (v : MergeView). v.place) (sym c.self.view_is) ∙ c.in-Convert.is in
    let r = row_at c.args.self.now (Convert c.in-Convert.j) (row_of c.args.locks.now c.args.seat) is c.requires.row in
    IsHeld-some c.args.locks.now c.args.seat Directory Selective
    (ap (λ (xs : List Lock). kind_of xs Directory) r.is ∙ directory_held r.before r.bare Selective)

pub returns-in-GrantRight : goal.returns-in-GrantRight
returns-in-GrantRight g c =
    let is = ap (λ (v : MergeView). v.place) (sym c.self.view_is) ∙ c.in-GrantRight.is in
    let r = row_at c.args.self.now (GrantRight c.in-GrantRight.b c.in-GrantRight.seen)
    (row_of c.args.locks.now c.args.seat) is c.requires.row in
    grant_right c.args.seat c.args.pool.now c.args.locks.now c.args.self.now c.requires.ready c.requires.seat
    c.grant.result
    c.grant.new.self c.grant.new.locks c.in-GrantRight.b
    (rw c.in-GrantRight.is at c.self.invariant) c.in-GrantRight.seen is r c.grant.ensures

pub returns-in-GrantLeft : goal.returns-in-GrantLeft
returns-in-GrantLeft g c =
    let is = ap (λ (v : MergeView). v.place) (sym c.self.view_is) ∙ c.in-GrantLeft.is in
    let r = row_at c.args.self.now (GrantLeft c.in-GrantLeft.b) (row_of c.args.locks.now c.args.seat) is
    c.requires.row in
    grant_left c.args.seat c.args.pool.now c.args.locks.now c.args.self.now c.requires.ready c.requires.seat
    c.grant-in-GrantLeft.result
    c.grant-in-GrantLeft.new.self c.grant-in-GrantLeft.new.locks c.in-GrantLeft.b
    (rw c.in-GrantLeft.is at c.self.invariant) is r c.grant-in-GrantLeft.ensures

pub returns-in-GrantRightAgain : goal.returns-in-GrantRightAgain
returns-in-GrantRightAgain g c =
    let is = ap (λ (v : MergeView). v.place) (sym c.self.view_is) ∙ c.in-GrantRightAgain.is in
    let r = row_at c.args.self.now (GrantRightAgain c.in-GrantRightAgain.b) (row_of c.args.locks.now c.args.seat)
    is c.requires.row in
    grant_right_again c.args.seat c.args.pool.now c.args.locks.now c.args.self.now c.requires.ready
    c.requires.seat c.grant-in-GrantRightAgain.result
    c.grant-in-GrantRightAgain.new.self c.grant-in-GrantRightAgain.new.locks c.in-GrantRightAgain.b
    (rw c.in-GrantRightAgain.is at c.self.invariant) is r c.grant-in-GrantRightAgain.ensures

pub returns-in-GrantAlone : goal.returns-in-GrantAlone
returns-in-GrantAlone g c =
    let is = ap (λ (v : MergeView). v.place) (sym c.self.view_is) ∙ c.in-GrantAlone.is in
    let r = row_at c.args.self.now (GrantAlone c.in-GrantAlone.j) (row_of c.args.locks.now c.args.seat) is
    c.requires.row in
    grant_alone c.args.seat c.args.pool.now c.args.locks.now c.args.self.now c.requires.ready c.requires.seat
    c.grant-in-GrantAlone.result
    c.grant-in-GrantAlone.new.self c.grant-in-GrantAlone.new.locks c.in-GrantAlone.j is r c.grant-in-GrantAlone.ensures

pub returns-in-Convert : goal.returns-in-Convert
returns-in-Convert g c =
    let is = ap (λ (v : MergeView). v.place) (sym c.self.view_is) ∙ c.in-Convert.is in
    converts c.args.seat c.args.pool.now c.args.locks.now c.args.self.now c.convert.result c.in-Convert.j
    c.convert.new.self
    c.convert.new.locks is c.convert.ensures c.requires.ready c.requires.seat

pub returns-in-GiveBack : goal.returns-in-GiveBack
returns-in-GiveBack g c =
    let is = ap (λ (v : MergeView). v.place) (sym c.self.view_is) ∙ c.in-GiveBack.is in
    give_back c.args.seat c.args.pool.now c.args.locks.now c.args.self.now c.requires.ready c.requires.seat
    c.release.result
    c.release.new.self c.release.new.locks c.release.ensures.moved c.in-GiveBack.b is
    c.release.ensures.place c.release.ensures.locks

pub returns-in-ReleaseRight : goal.returns-in-ReleaseRight
returns-in-ReleaseRight g c =
    let is = ap (λ (v : MergeView). v.place) (sym c.self.view_is) ∙ c.in-ReleaseRight.is in
    release_right c.args.seat c.args.pool.now c.args.locks.now c.args.self.now c.requires.ready c.requires.seat
    c.release-in-ReleaseRight.result
    c.release-in-ReleaseRight.new.self c.release-in-ReleaseRight.new.locks c.release-in-ReleaseRight.ensures.moved
    c.in-ReleaseRight.j
    (let joint = rw c.in-ReleaseRight.is at c.self.invariant in joint.apart) is
    c.release-in-ReleaseRight.ensures.place c.release-in-ReleaseRight.ensures.locks

pub returns-in-ReleaseLeft : goal.returns-in-ReleaseLeft
returns-in-ReleaseLeft g c =
    let is = ap (λ (v : MergeView). v.place) (sym c.self.view_is) ∙ c.in-ReleaseLeft.is in
    release_left c.args.seat c.args.pool.now c.args.locks.now c.args.self.now c.requires.ready c.requires.seat
    c.release-in-ReleaseLeft.result
    c.release-in-ReleaseLeft.new.self c.release-in-ReleaseLeft.new.locks c.release-in-ReleaseLeft.ensures.moved
    c.in-ReleaseLeft.j is
    c.release-in-ReleaseLeft.ensures.place c.release-in-ReleaseLeft.ensures.locks

pub returns-in-GiveUpRight : goal.returns-in-GiveUpRight
returns-in-GiveUpRight g c =
    let is = ap (λ (v : MergeView). v.place) (sym c.self.view_is) ∙ c.in-GiveUpRight.is in
    give_up_right c.args.seat c.args.pool.now c.args.locks.now c.args.self.now c.requires.ready c.requires.seat
    c.release-in-GiveUpRight.result
    c.release-in-GiveUpRight.new.self c.release-in-GiveUpRight.new.locks c.release-in-GiveUpRight.ensures.moved
    c.in-GiveUpRight.left
    c.in-GiveUpRight.right (rw c.in-GiveUpRight.is at c.self.invariant) is
    c.release-in-GiveUpRight.ensures.place c.release-in-GiveUpRight.ensures.locks

pub returns-in-GiveUp : goal.returns-in-GiveUp
returns-in-GiveUp g c =
    let is = ap (λ (v : MergeView). v.place) (sym c.self.view_is) ∙ c.in-GiveUp.is in
    give_up c.args.seat c.args.pool.now c.args.locks.now c.args.self.now c.requires.ready c.requires.seat
    c.release-in-GiveUp.result
    c.release-in-GiveUp.new.self c.release-in-GiveUp.new.locks c.release-in-GiveUp.ensures.moved c.in-GiveUp.page is
    c.release-in-GiveUp.ensures.place c.release-in-GiveUp.ensures.locks

pub returns-in-ReleaseDirectory : goal.returns-in-ReleaseDirectory
returns-in-ReleaseDirectory g c =
    let is = ap (λ (v : MergeView). v.place) (sym c.self.view_is) ∙ c.in-ReleaseDirectory.is in
    release_directory c.args.seat c.args.pool.now c.args.locks.now c.args.self.now c.requires.ready
    c.requires.seat c.release-in-ReleaseDirectory.result
    c.release-in-ReleaseDirectory.new.self c.release-in-ReleaseDirectory.new.locks
    c.release-in-ReleaseDirectory.ensures.moved is
    c.release-in-ReleaseDirectory.ensures.place c.release-in-ReleaseDirectory.ensures.locks

pub returns-in-ReleaseAlone : goal.returns-in-ReleaseAlone
returns-in-ReleaseAlone g c =
    let is = ap (λ (v : MergeView). v.place) (sym c.self.view_is) ∙ c.in-ReleaseAlone.is in
    release_alone c.args.seat c.args.pool.now c.args.locks.now c.args.self.now c.requires.ready c.requires.seat
    c.release-in-ReleaseAlone.result
    c.release-in-ReleaseAlone.new.self c.release-in-ReleaseAlone.new.locks c.release-in-ReleaseAlone.ensures.moved
    c.in-ReleaseAlone.field-0
    c.in-ReleaseAlone.field-1 (rw c.in-ReleaseAlone.is at c.self.invariant) is
    c.release-in-ReleaseAlone.ensures.place c.release-in-ReleaseAlone.ensures.locks

-- ---- pages
pub returns-in-WriteLeft : goal.returns-in-WriteLeft
returns-in-WriteLeft g c =
    let is = ap (λ (v : MergeView). v.place) (sym c.self.view_is) ∙ c.in-WriteLeft.is in
    joins c.args.seat c.args.pool.now c.args.locks.now c.args.self.now c.write_left-done.result c.go_on.result
    c.write_left-done.new.pool c.go_on.new.self c.write_left-done.ensures.writes
    c.write_left-done.ensures.cause c.write_left-done.ensures.err
    c.in-WriteLeft.b (let h = rw c.in-WriteLeft.is at c.self.invariant in h.0)
    c.in-WriteLeft.field-1 c.in-WriteLeft.field-2 (let h = rw c.in-WriteLeft.is at c.self.invariant in h.1) is
    (rw c.joint.ensures.value at c.go_on.ensures)
    c.write_left-done.ensures.ok c.write_left-done.ensures.fault

pub returns-in-Tombstone : goal.returns-in-Tombstone
returns-in-Tombstone g c =
    let is = ap (λ (v : MergeView). v.place) (sym c.self.view_is) ∙ c.in-Tombstone.is in
    buries c.args.seat c.args.pool.now c.args.locks.now c.args.self.now c.write_tombstone-done.result
    c.go_on-in-Tombstone.result
    c.write_tombstone-done.new.pool c.go_on-in-Tombstone.new.self c.write_tombstone-done.ensures.writes
    c.write_tombstone-done.ensures.cause
    c.write_tombstone-done.ensures.err
    c.in-Tombstone.j (rw c.in-Tombstone.is at c.self.invariant) is
    (rw c.behind_tombstone.ensures.value at c.go_on-in-Tombstone.ensures)
    c.write_tombstone-done.ensures.ok c.write_tombstone-done.ensures.fault

pub returns-in-Retarget : goal.returns-in-Retarget
returns-in-Retarget g c =
    let is = ap (λ (v : MergeView). v.place) (sym c.self.view_is) ∙ c.in-Retarget.is in
    names_left c.args.seat c.args.pool.now c.args.locks.now c.args.self.now c.retarget-done.result
    c.go_on-in-Retarget.result
    c.retarget-done.new.pool c.go_on-in-Retarget.new.self c.retarget-done.ensures.writes
    c.retarget-done.ensures.cause c.retarget-done.ensures.err
    c.in-Retarget.j (let h = rw c.in-Retarget.is at c.self.invariant in h.joint) c.in-Retarget.entry
    (rw c.in-Retarget.is at c.self.invariant) is (rw c.behind_entry.ensures.value at c.go_on-in-Retarget.ensures)
    (rw (c.page_of.ensures.value, c.upper_half.ensures) at c.retarget-done.ensures.ok)
    (rw (c.page_of.ensures.value, c.upper_half.ensures) at c.retarget-done.ensures.fault)

pub returns-in-SetCounts : goal.returns-in-SetCounts
returns-in-SetCounts g c =
    let is = ap (λ (v : MergeView). v.place) (sym c.self.view_is) ∙ c.in-SetCounts.is in
    counts c.args.seat c.args.pool.now c.args.locks.now c.args.self.now c.count_merge-done.result
    c.go_on-in-SetCounts.result
    c.count_merge-done.new.pool c.go_on-in-SetCounts.new.self c.count_merge-done.ensures.writes
    c.count_merge-done.ensures.cause
    c.count_merge-done.ensures.err
    c.in-SetCounts.j (rw c.in-SetCounts.is at c.self.invariant) is c.go_on-in-SetCounts.ensures
    c.count_merge-done.ensures.ok c.count_merge-done.ensures.fault

pub returns-in-WriteFree : goal.returns-in-WriteFree
returns-in-WriteFree g c =
    let is = ap (λ (v : MergeView). v.place) (sym c.self.view_is) ∙ c.in-WriteFree.is in
    frees c.args.seat c.args.pool.now c.args.locks.now c.args.self.now c.write_free-done.result
    c.go_on-in-WriteFree.result
    c.write_free-done.new.pool c.go_on-in-WriteFree.new.self c.write_free-done.ensures.writes
    c.write_free-done.ensures.cause
    c.write_free-done.ensures.err
    c.in-WriteFree.j is c.go_on-in-WriteFree.ensures
    c.write_free-done.ensures.ok c.write_free-done.ensures.fault

pub returns-in-LinkFree : goal.returns-in-LinkFree
returns-in-LinkFree g c =
    let is = ap (λ (v : MergeView). v.place) (sym c.self.view_is) ∙ c.in-LinkFree.is in
    links c.args.seat c.args.pool.now c.args.locks.now c.args.self.now c.link_free-done.result
    c.go_on-in-LinkFree.result
    c.link_free-done.new.pool c.go_on-in-LinkFree.new.self c.link_free-done.ensures.writes
    c.link_free-done.ensures.cause c.link_free-done.ensures.err
    c.in-LinkFree.page is c.go_on-in-LinkFree.ensures
    c.link_free-done.ensures.ok c.link_free-done.ensures.fault
