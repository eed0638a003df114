use Rattle.xsi_control.proofs.Names.{EINVAL, MAX_QBYTES, [], arith, decides_refused, false, nat_lt, nat_tests, set_to, sym, true, ◌∙◌, ◌∷◌, ◌≡◌}
use Rattle.page_locks.specs.declared.lock.LockName.TheVariants as names
use Rattle.queue_model.specs.declared.call.Call.TheVariants as calls
use Rattle.xsi_control.proofs.SettingLemmas.{refused_plan, set_answered, set_by_id, set_over, set_refused}
use Rattle.xsi_control.proofs.set_inquiry.SetInquiryInquiry.decide.Goals as goal

-- no queue may have such a limit
pub returns-then-arguments-gt-MAX_QBYTES-clause-right :
    goal.returns-then-arguments-gt-MAX_QBYTES-clause-right
returns-then-arguments-gt-MAX_QBYTES-clause-right c room s filed knows =
    let who = c.args.self.now.caller in
    let a = c.args.arguments.now in
    let over : nat_lt MAX_QBYTES a.qbytes ≡ true = grind (arith, nat_tests, c.if-arguments-gt-MAX_QBYTES.true) in
    rw (c.refuses.ensures, over)
    (decides_refused who (calls.Set a) (names.Queue a.id ∷ []) room.bytes s EINVAL (set_over who a s over))

-- the queue has the settings
pub returns-in-Ok-clause-right : goal.returns-in-Ok-clause-right
returns-in-Ok-clause-right c room s filed knows =
    let who = c.args.self.now.caller in
    let a = c.args.arguments.now in
    let small : nat_lt MAX_QBYTES a.qbytes ≡ false = grind (arith, nat_tests, c.if-arguments-gt-MAX_QBYTES.false) in
    rw c.in-Found.is (set_answered who a s c.in-Found.queue (rw c.in-Found.is at knows) small filed room.bytes
    c.in-Ok.field-0 (sym c.set_entry.ensures ∙ c.in-Ok.is))

-- the caller may not set, or not raise the limit
pub returns-in-Err-clause-right : goal.returns-in-Err-clause-right
returns-in-Err-clause-right c room s filed knows =
    let who = c.args.self.now.caller in
    let a = c.args.arguments.now in
    let small : nat_lt MAX_QBYTES a.qbytes ≡ false = grind (arith, nat_tests, c.if-arguments-gt-MAX_QBYTES.false) in
    let is = rw c.in-Found.is at knows in
    let refused = sym c.set_entry.ensures ∙ c.in-Err.is in
    rw (c.refuses-in-Err.ensures, c.in-Found.is, refused_plan who a s c.in-Found.queue is small c.in-Err.errno refused)
    (decides_refused who (calls.Set a) (names.Queue a.id ∷ []) room.bytes s c.in-Err.errno
    (set_refused who a s c.in-Found.queue is small c.in-Err.errno refused))

-- the id has no queue
pub returns-in-Refused-clause-right : goal.returns-in-Refused-clause-right
returns-in-Refused-clause-right c room s filed knows =
    let who = c.args.self.now.caller in
    let a = c.args.arguments.now in
    let small : nat_lt MAX_QBYTES a.qbytes ≡ false = grind (arith, nat_tests, c.if-arguments-gt-MAX_QBYTES.false) in
    let refused = rw c.in-Refused.is at knows in
    rw (c.refuses-in-Refused.ensures, c.in-Refused.is, small)
    (decides_refused who (calls.Set a) (names.Queue a.id ∷ []) room.bytes s c.in-Refused.errno
    (set_by_id who a s small ∙ refused (set_to who a s)))
