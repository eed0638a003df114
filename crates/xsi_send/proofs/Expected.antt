-- What stands at a key that a Send asks for: a Queue where its queue is sought, else a Type.
use Rattle.xsi_send.proofs.Names.{Caller, IsFiled, IsTold, KnowsAt, None, Record, SendArguments, Some, State, Walk, same_Some, subst, sym}
use Rattle.std.specs.Prelude.{⊤}
use Rattle.queue_records.specs.declared.record.Record.TheVariants as records
use Rattle.xsi_inquiry.specs.Telling.{AsksRecord}
use Rattle.xsi_inquiry.specs.declared.sought.Sought.TheVariants as sought
use Rattle.xsi_inquiry.proofs.SeekLemmas.{queue_told}
use Rattle.xsi_send.proofs.Told.{type_told}
use Rattle.xsi_send.proofs.Walked.{next_told}
use Rattle.xsi_send.specs.Knowing.{asked}
use Rattle.xsi_send.specs.declared.stage.Stage.{Stage}
use Rattle.xsi_send.specs.declared.stage.Stage.TheVariants as stages

abbrev pub IsQueue : Record → Type 0
IsQueue (records.Counter c) = ⊥
IsQueue (records.Key k) = ⊥
IsQueue (records.Queue q) = ⊤
IsQueue (records.Type t) = ⊥
IsQueue (records.Message m) = ⊥

abbrev pub IsType : Record → Type 0
IsType (records.Counter c) = ⊥
IsType (records.Key k) = ⊥
IsType (records.Queue q) = ⊥
IsType (records.Type t) = ⊤
IsType (records.Message m) = ⊥

-- the record is of the kind that the stage asks for
abbrev pub Expects : Stage → Record → Type 0
Expects (stages.Seeking x) r = IsQueue r
Expects (stages.Refused errno) r = ⊥
Expects stages.Full r = ⊥
Expects (stages.AtType e) r = IsType r
Expects (stages.AtNeighbour w) r = IsType r
Expects (stages.Done e place) r = ⊥

pub expected : (c : Caller) (a : SendArguments) (stage : Stage) (s : State) (r : Record) → IsFiled s →
    KnowsAt c a stage s → AsksRecord (asked a stage) → IsTold s (asked a stage) (Some r) → Expects stage r
expected c a (stages.Seeking sought.Unread) s r filed known asks told =
    let (e, is) = queue_told a.id s r told in
    subst IsQueue (sym is) tt
expected c a (stages.Seeking sought.Absent) s r filed known asks told = absurd asks
expected c a (stages.Seeking (sought.Found e)) s r filed known asks told = absurd asks
expected c a (stages.Seeking (sought.Refused errno)) s r filed known asks told = absurd asks
expected c a (stages.Refused errno) s r filed known asks told = absurd asks
expected c a stages.Full s r filed known asks told = absurd asks
expected c a (stages.AtType e) s r filed known asks told =
    let (stands, is) = type_told c a e s filed known r told in
    subst IsType (sym is) tt
expected c a (stages.AtNeighbour w) s r filed (known, walked) asks told =
    let is = next_told c a w.queue s filed known w walked (Some r) told in
    subst IsType (sym (same_Some _ _ is)) tt
expected c a (stages.Done e place) s r filed known asks told = absurd asks

-- so it is of one of the two kinds
abbrev pub IsEither : Record → Type 0
IsEither (records.Counter c) = ⊥
IsEither (records.Key k) = ⊥
IsEither (records.Queue q) = ⊤
IsEither (records.Type t) = ⊤
IsEither (records.Message m) = ⊥

of_queue : (r : Record) → IsQueue r → IsEither r
of_queue (records.Counter c) is = is
of_queue (records.Key k) is = is
of_queue (records.Queue q) is = is
of_queue (records.Type t) is = absurd is
of_queue (records.Message m) is = is

of_type : (r : Record) → IsType r → IsEither r
of_type (records.Counter c) is = is
of_type (records.Key k) is = is
of_type (records.Queue q) is = absurd is
of_type (records.Type t) is = is
of_type (records.Message m) is = is

pub either : (stage : Stage) (r : Record) → Expects stage r → IsEither r
either (stages.Seeking x) r is = of_queue r is
either (stages.Refused errno) r is = absurd is
either stages.Full r is = absurd is
either (stages.AtType e) r is = of_type r is
either (stages.AtNeighbour w) r is = of_type r is
either (stages.Done e place) r is = absurd is

-- and what a way up asks for stands
pub next_stands : (c : Caller) (a : SendArguments) (w : Walk) (s : State) → IsFiled s →
    KnowsAt c a (stages.AtNeighbour w) s → IsTold s (asked a (stages.AtNeighbour w)) None → ⊥
next_stands c a w s filed (known, walked) told =
    let is = next_told c a w.queue s filed known w walked None told in
    absurd cc
