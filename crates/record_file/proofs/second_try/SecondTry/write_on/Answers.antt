use Rattle.record_file.proofs.InsertWriteLemmas.{is_put, not_put}
use Rattle.record_file.proofs.second_try.SecondTry.write_on.Goals as goal

pub returns-in-Ok : goal.returns-in-Ok
returns-in-Ok g c = λ hash seat locks.
    let is = rw (← c.self.view_is) at c.requires.place in
    let lent = rw (← c.self.view_is) at c.requires.lent in
    let v = c.self.inside in
    let room = rw is at c.self.invariant in
    rw (← c.self.view_is, is) (is_put hash seat v.key v.pseudokey v.bytes c.args.value.now c.args.pool.now locks
    c.args.page c.args.used c.put_record.new.pool lent room c.in-Ok.ensures.writes c.in-Ok.ensures.ok)

pub returns-in-Err : goal.returns-in-Err
returns-in-Err g c = λ hash seat locks.
    let is = rw (← c.self.view_is) at c.requires.place in
    let lent = rw (← c.self.view_is) at c.requires.lent in
    let v = c.self.inside in
    let room = rw is at c.self.invariant in
    rw (← c.self.view_is, is) (not_put hash seat v.key v.pseudokey v.bytes c.args.value.now c.args.pool.now locks
    c.args.page c.args.used c.put_record.new.pool lent room c.in-Err.fault c.in-Err.ensures.writes
    c.in-Err.ensures.err c.in-Err.ensures.cause c.in-Err.ensures.fault)
