-- A call that has just begun, that holds the names which it needs, or that is on trial, is kept apart.
use Rattle.std.proofs.Common.{sym, subst, List}
use Rattle.xsi_calls.proofs.QuestionOwnLemmas.{own_names}
use Rattle.xsi_inquiry.proofs.AgreeLemmas.{agrees_itself}
use Rattle.interleavings.specs.SeatWords.{HasBegun, Holds, HoldsOwn, Lock, names_in}
use Rattle.interleavings.specs.DecisionLaws.{BeginApart, HoldApart, TryApart}

pub begin_apart : BeginApart
begin_apart call q knows = HasBegun (λ s filed. knows s s filed (agrees_itself call _ s))

pub hold_apart : HoldApart
hold_apart call q s filed near is =
    let own : HoldsOwn call (names_in q.names) =
    subst (λ (ls : List Lock). HoldsOwn call (names_in ls)) (sym is)
    (own_names call q.inquiry q.room s (near s filed (agrees_itself call _ s))) in
    (own, Holds own)

pub try_apart : TryApart
try_apart hash seat call s q t records pool locks change y = (hold_apart call q s y.filed y.knows y.names).1
