use Rattle.std.proofs.Common.{ap, ◌∙◌, []}
use Rattle.page_locks.specs.Table.{Table, without_lock}
use Rattle.record_file.specs.InsertWords.{Page}
use Rattle.record_file.proofs.HopLemmas.{not_looked, hopped_back, is_itself, is_fresh, is_kept_from, moves_on}
use Rattle.record_file.proofs.second_try.SecondTry.hop_from.Goals as goal

pub returns-then-next-page : goal.returns-then-next-page
returns-then-next-page g c = λ hash value.
    let is = rw (← c.self.view_is) at c.requires.place in
    let v = c.self.inside in
    rw (← c.self.view_is, is) (is_itself hash c.args.seat v.key v.pseudokey v.bytes value c.args.pool.now
    c.args.locks.now c.args.depth c.args.page c.look.new.pool c.in-Ok-Naming.ensures.reads c.in-Ok-Naming.next
    (λ honest. rw c.in-Ok-Naming.field-0-is at (c.in-Ok-Naming.ensures.ok honest)) c.if-next-page.true)

pub try_grant-requires-clause-fresh : goal.try_grant-requires-clause-fresh
try_grant-requires-clause-fresh g c =
    let is = rw (← c.self.view_is) at c.requires.place in
    let v = c.self.inside in
    let row = rw (← c.self.view_is, is) at c.requires.row in
    is_fresh (λ key. 0) c.args.seat v.key v.pseudokey v.bytes [] c.args.pool.now c.args.locks.now c.args.depth
    c.args.page c.look.new.pool c.in-Ok-Naming.ensures.reads c.in-Ok-Naming.next
    (λ honest. rw c.in-Ok-Naming.field-0-is at (c.in-Ok-Naming.ensures.ok honest)) c.requires.seat row
    c.if-next-page.false

pub returns-in-Ok-Covering : goal.returns-in-Ok-Covering
returns-in-Ok-Covering g c = λ hash value.
    let is = rw (← c.self.view_is) at c.requires.place in
    let v = c.self.inside in
    rw (← c.self.view_is, is) (hopped_back hash c.args.seat v.key v.pseudokey v.bytes value c.args.pool.now
    c.args.locks.now c.args.depth c.args.page c.look.new.pool c.in-Ok-Covering.ensures.reads
    (λ honest. rw c.in-Ok-Covering.field-0-is at (c.in-Ok-Covering.ensures.ok honest)))

pub returns-in-Granted : goal.returns-in-Granted
returns-in-Granted g c = λ hash value.
    let is = rw (← c.self.view_is) at c.requires.place in
    let v = c.self.inside in
    let row = rw (← c.self.view_is, is) at c.requires.row in
    rw (← c.self.view_is, is) (moves_on hash c.args.seat v.key v.pseudokey v.bytes value c.args.pool.now
    c.args.locks.now c.args.depth c.args.page c.look.new.pool c.in-Ok-Naming.ensures.reads c.in-Ok-Naming.next
    (λ honest. rw c.in-Ok-Naming.field-0-is at (c.in-Ok-Naming.ensures.ok honest)) c.requires.seat row
    c.if-next-page.false c.release.new.self c.in-Granted.ensures.busy.1
    (c.release.ensures ∙ ap (λ (t : Table). without_lock t c.args.seat (Page c.args.page)) c.in-Granted.ensures.ok))

pub returns-in-Blocked : goal.returns-in-Blocked
returns-in-Blocked g c = λ hash value.
    let is = rw (← c.self.view_is) at c.requires.place in
    let v = c.self.inside in
    rw (← c.self.view_is, is, c.in-Blocked.ensures.same) (is_kept_from hash c.args.seat v.key v.pseudokey v.bytes
    value c.args.pool.now c.args.locks.now c.args.depth c.args.page c.look.new.pool c.in-Ok-Naming.ensures.reads
    c.in-Ok-Naming.next (λ honest. rw c.in-Ok-Naming.field-0-is at (c.in-Ok-Naming.ensures.ok honest))
    c.in-Blocked.other c.in-Blocked.ensures.blocked)

pub returns-in-Err : goal.returns-in-Err
returns-in-Err g c = λ hash value.
    let is = rw (← c.self.view_is) at c.requires.place in
    let v = c.self.inside in
    rw (← c.self.view_is, is) (not_looked hash c.args.seat v.key v.pseudokey v.bytes value c.args.pool.now
    c.args.locks.now c.args.depth c.args.page c.look.new.pool c.in-Err.fault c.in-Err.ensures.reads
    c.in-Err.ensures.cause c.in-Err.ensures.fault)
