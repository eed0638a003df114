use Rattle.std.proofs.Common.{sym, ◌∙◌}
use Rattle.record_file.proofs.RoomLemmas.{no_room_is}
use Rattle.record_file.proofs.LookLemmas.{not_looked, is_named, is_there, not_read, fits, is_full, is_too_deep, splits, no_length}
use Rattle.record_file.proofs.second_try.SecondTry.look_at.Goals as goal

pub returns-in-Ok-Naming : goal.returns-in-Ok-Naming
returns-in-Ok-Naming g c = λ value lent hash seat locks.
    let is = rw (← c.self.view_is) at c.requires.place in
    let v = c.self.inside in
    rw (← c.self.view_is, is) (is_named hash seat v.key v.pseudokey v.bytes value c.args.pool.now locks c.args.depth
    c.args.page c.in-Ok-Naming.field-0-0 c.look.new.pool c.in-Ok-Naming.ensures.reads
    (λ honest. rw c.in-Ok-Naming.field-0-is at (c.in-Ok-Naming.ensures.ok honest)))

pub returns-in-Err : goal.returns-in-Err
returns-in-Err g c = λ value lent hash seat locks.
    let is = rw (← c.self.view_is) at c.requires.place in
    let v = c.self.inside in
    rw (← c.self.view_is, is) (not_looked hash seat v.key v.pseudokey v.bytes value c.args.pool.now locks c.args.depth
    c.args.page c.in-Err.fault c.look.new.pool c.in-Err.ensures.reads c.in-Err.ensures.cause
    c.in-Err.ensures.fault)

pub returns-then-is_some : goal.returns-then-is_some
returns-then-is_some g c = λ value lent hash seat locks.
    let is = rw (← c.self.view_is) at c.requires.place in
    let v = c.self.inside in
    rw (← c.self.view_is, is) (is_there hash seat v.key v.pseudokey v.bytes value c.args.pool.now locks c.args.depth
    c.args.page c.in-Ok-Covering.found c.look.new.pool (sym c.is_some.ensures ∙ c.if-is_some.true)
    c.in-Ok-Covering.ensures.reads
    (λ honest. rw c.in-Ok-Covering.field-0-is at (c.in-Ok-Covering.ensures.ok honest)))

pub returns-in-Err-read_bucket : goal.returns-in-Err-read_bucket
returns-in-Err-read_bucket g c = λ value lent hash seat locks.
    let is = rw (← c.self.view_is) at c.requires.place in
    let v = c.self.inside in
    let none = no_length c.in-Ok-Covering.found (sym c.is_some.ensures ∙ c.if-is_some.false) in
    rw (← c.self.view_is, is) (not_read hash seat v.key v.pseudokey v.bytes value c.args.pool.now locks c.args.depth
    c.args.page c.look.new.pool c.read_bucket.new.pool c.in-Ok-Covering.ensures.reads
    (λ honest. rw (c.in-Ok-Covering.field-0-is, none) at (c.in-Ok-Covering.ensures.ok honest))
    c.in-Err-read_bucket.fault c.in-Err-read_bucket.ensures.reads c.in-Err-read_bucket.ensures.cause
    c.in-Err-read_bucket.ensures.fault)

pub returns-then-has_room : goal.returns-then-has_room
returns-then-has_room g c = λ value lent hash seat locks.
    let is = rw (← c.self.view_is) at c.requires.place in
    let v = c.self.inside in
    let none = no_length c.in-Ok-Covering.found (sym c.is_some.ensures ∙ c.if-is_some.false) in
    rw (← c.self.view_is, is) (fits hash seat v.key v.pseudokey v.bytes value c.args.pool.now locks c.args.depth
    c.args.page c.look.new.pool c.read_bucket.new.pool c.in-Ok-Covering.ensures.reads
    (λ honest. rw (c.in-Ok-Covering.field-0-is, none) at (c.in-Ok-Covering.ensures.ok honest))
    c.in-Ok.ensures.reads c.in-Ok.sight c.in-Ok.ensures.ok)

pub returns-then-sight-ge-GREATEST_DEPTH : goal.returns-then-sight-ge-GREATEST_DEPTH
returns-then-sight-ge-GREATEST_DEPTH g c = λ value lent hash seat locks.
    let is = rw (← c.self.view_is) at c.requires.place in
    let lent' = rw (← c.self.view_is) at lent in
    let v = c.self.inside in
    let none = no_length c.in-Ok-Covering.found (sym c.is_some.ensures ∙ c.if-is_some.false) in
    rw (← c.self.view_is, is) (is_full hash seat v.key v.pseudokey v.bytes value c.args.pool.now locks c.args.depth
    c.args.page c.look.new.pool c.read_bucket.new.pool c.in-Ok-Covering.ensures.reads
    (λ honest. rw (c.in-Ok-Covering.field-0-is, none) at (c.in-Ok-Covering.ensures.ok honest))
    c.in-Ok.ensures.reads c.in-Ok.sight c.in-Ok.ensures.ok lent'
    (no_room_is c.in-Ok.sight.used v.bytes (sym c.has_room.ensures ∙ c.if-has_room.false))
    c.if-sight-ge-GREATEST_DEPTH.true)

pub returns-then-depth-gt-GREATEST_DEPTH : goal.returns-then-depth-gt-GREATEST_DEPTH
returns-then-depth-gt-GREATEST_DEPTH g c = λ value lent hash seat locks.
    let is = rw (← c.self.view_is) at c.requires.place in
    let lent' = rw (← c.self.view_is) at lent in
    let v = c.self.inside in
    let none = no_length c.in-Ok-Covering.found (sym c.is_some.ensures ∙ c.if-is_some.false) in
    rw (← c.self.view_is, is) (is_too_deep hash seat v.key v.pseudokey v.bytes value c.args.pool.now locks
    c.args.depth c.args.page c.look.new.pool c.read_bucket.new.pool c.in-Ok-Covering.ensures.reads
    (λ honest. rw (c.in-Ok-Covering.field-0-is, none) at (c.in-Ok-Covering.ensures.ok honest))
    c.in-Ok.ensures.reads c.in-Ok.sight c.in-Ok.ensures.ok lent'
    (no_room_is c.in-Ok.sight.used v.bytes (sym c.has_room.ensures ∙ c.if-has_room.false))
    c.if-depth-gt-GREATEST_DEPTH.true)

pub returns : goal.returns
returns g c = λ value lent hash seat locks.
    let is = rw (← c.self.view_is) at c.requires.place in
    let lent' = rw (← c.self.view_is) at lent in
    let v = c.self.inside in
    let none = no_length c.in-Ok-Covering.found (sym c.is_some.ensures ∙ c.if-is_some.false) in
    rw (← c.self.view_is, is, c.new.ensures) (splits hash seat v.key v.pseudokey v.bytes value c.args.pool.now
    locks c.args.depth c.args.page c.look.new.pool c.read_bucket.new.pool c.in-Ok-Covering.ensures.reads
    (λ honest. rw (c.in-Ok-Covering.field-0-is, none) at (c.in-Ok-Covering.ensures.ok honest))
    c.in-Ok.ensures.reads c.in-Ok.sight c.in-Ok.ensures.ok lent'
    (no_room_is c.in-Ok.sight.used v.bytes (sym c.has_room.ensures ∙ c.if-has_room.false))
    c.if-sight-ge-GREATEST_DEPTH.false)
