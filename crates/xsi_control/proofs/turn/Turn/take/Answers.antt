use Rattle.xsi_control.proofs.turn.Turn.take.Goals as goal
use Rattle.xsi_control.specs.RemoveWords.{clash}
use Rattle.xsi_control.proofs.TurnLemmas.{is_found, is_message, turn_taken}

-- the Message stands
pub returns-in_default-clause-told : goal.returns-in_default-clause-told
returns-in_default-clause-told c count q s filed turn told =
    is_found count q s c.args.self.now filed turn (rw c.in_default.is at told)

pub returns-in_err-message-clause-told : goal.returns-in_err-message-clause-told
returns-in_err-message-clause-told c count q s filed turn told =
    let (e, is) = is_message count q s c.args.self.now filed turn c.in-Some.entry (rw c.in-Some.is at told) in
    absurd (clash c.message_in.result e (c.message_in.ensures.only e is) _ c.in_err-message.was)

-- and goes
pub returns-clause-told : goal.returns-clause-told
returns-clause-told c count q s filed turn told =
    let given = c.in_ok-message.ensures.ok in
    rw c.of.ensures (turn_taken count q s c.args.self.now filed turn c.in_ok-message.message
    (rw given at (rw c.in-Some.is at told)))
