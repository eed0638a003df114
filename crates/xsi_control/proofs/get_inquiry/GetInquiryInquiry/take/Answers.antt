use Rattle.xsi_control.proofs.Names.{clash, refl}
use Rattle.xsi_control.proofs.ReadingLemmas.{absent_told, counter_is, counter_missing, found_told, key_told, same_counter}
use Rattle.xsi_control.proofs.get_inquiry.GetInquiryInquiry.take.Goals as goal

-- no queue has the key
pub returns-in_default-clause-told : goal.returns-in_default-clause-told
returns-in_default-clause-told c s filed knows told =
    let a = c.args.arguments.now in
    rw c.absent_or_counted-self.ensures (absent_told c.args.self.now.caller a s a.key refl (rw c.in-AtKey.is at knows)
    (rw c.in_default.is at (rw c.in-AtKey.is at told)))

-- what stands at the key of a Key is one
pub returns-in_err-key_in-in-AtKey-clause-told : goal.returns-in_err-key_in-in-AtKey-clause-told
returns-in_err-key_in-in-AtKey-clause-told c s filed knows told =
    let (e, is) = key_told c.args.arguments.now.key s c.in-Some.entry (rw c.in-AtKey.is at knows)
    (rw c.in-Some.is at (rw c.in-AtKey.is at told)) in
    absurd (clash c.key_in.result e (c.key_in.ensures.only e is) c.in_err-key_in-in-AtKey.field-0.0
    c.in_err-key_in-in-AtKey.was)

-- a queue has the key
pub returns-in_ok-key_in-in-AtKey-clause-told : goal.returns-in_ok-key_in-in-AtKey-clause-told
returns-in_ok-key_in-in-AtKey-clause-told c s filed knows told =
    let a = c.args.arguments.now in
    let given = c.in_ok-key_in-in-AtKey.ensures.ok in
    found_told c.args.self.now.caller a s a.key refl (rw c.in-AtKey.is at knows) c.in_ok-key_in-in-AtKey.field-0
    (rw given at (rw c.in-Some.is at (rw c.in-AtKey.is at told)))

-- the Counter always stands
pub returns-in_default-found-clause-told : goal.returns-in_default-found-clause-told
returns-in_default-found-clause-told c s filed knows told =
    counter_missing s (rw c.in_default-found.is at (rw c.in-AtCounter.is at told))

pub returns-in_err-counter_in-in-AtCounter-clause-told : goal.returns-in_err-counter_in-in-AtCounter-clause-told
returns-in_err-counter_in-in-AtCounter-clause-told c s filed knows told =
    let is = counter_is s c.in-Some-found.entry (rw c.in-Some-found.is at (rw c.in-AtCounter.is at told)) in
    absurd (clash c.counter_in.result _ (c.counter_in.ensures.only _ is) c.in_err-counter_in-in-AtCounter.field-0.0
    c.in_err-counter_in-in-AtCounter.was)

pub returns-in_ok-counter_in-in-AtCounter-clause-told : goal.returns-in_ok-counter_in-in-AtCounter-clause-told
returns-in_ok-counter_in-in-AtCounter-clause-told c s filed knows told =
    let given = c.in_ok-counter_in-in-AtCounter.ensures.ok in (
      rw c.in-AtCounter.is at knows,
      same_counter s c.in_ok-counter_in-in-AtCounter.field-0
          (rw given at (rw c.in-Some-found.is at (rw c.in-AtCounter.is at told))),
    )
