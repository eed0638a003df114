-- What stands at a key that a Receive asks for: the Queue, the Message, or a Type of it.
use Rattle.xsi_receive.proofs.Names.{At, Caller, IsFiled, IsTold, KnowsAt, KnowsHead, KnowsSerial, MessageHead, None, Option, QueueEntry, ReceiveArguments, Record, SelectsType, Some, State, TypeEntry, ap, inl, inr, pos, same_Some, subst, sym, ℕ, ℤ, ◌<ℤ◌}
use Rattle.std.specs.Prelude.{⊤}
use Rattle.queue_records.specs.Keys.{key_of_message, key_of_type}
use Rattle.queue_records.specs.declared.record.Record.TheVariants as records
use Rattle.xsi_inquiry.proofs.SeekLemmas.{queue_told}
use Rattle.xsi_inquiry.specs.Rooms.{Roomful}
use Rattle.xsi_inquiry.specs.Telling.{AsksRecord}
use Rattle.xsi_inquiry.specs.declared.sought.Sought.TheVariants as sought
use Rattle.xsi_receive.proofs.KnowingLemmas.{its_message, its_type, type_told}
use Rattle.xsi_receive.specs.Asking.{asked}
use Rattle.xsi_receive.specs.declared.stage.Stage.{Stage}
use Rattle.xsi_receive.specs.declared.stage.Stage.TheVariants as stages

abbrev pub IsQueue : Record → Type 0
IsQueue (records.Counter c) = ⊥
IsQueue (records.Key k) = ⊥
IsQueue (records.Queue q) = ⊤
IsQueue (records.Type t) = ⊥
IsQueue (records.Message m) = ⊥

abbrev pub IsType : Record → Type 0
IsType (records.Counter c) = ⊥
IsType (records.Key k) = ⊥
IsType (records.Queue q) = ⊥
IsType (records.Type t) = ⊤
IsType (records.Message m) = ⊥

abbrev pub IsMessage : Record → Type 0
IsMessage (records.Counter c) = ⊥
IsMessage (records.Key k) = ⊥
IsMessage (records.Queue q) = ⊥
IsMessage (records.Type t) = ⊥
IsMessage (records.Message m) = ⊤

-- the record is of the kind that the stage asks for
abbrev pub Expects : Stage → Record → Type 0
Expects (stages.Seeking x) r = IsQueue r
Expects (stages.Refused errno) r = ⊥
Expects stages.PutOff r = ⊥
Expects (stages.AtType e mtype) r = IsType r
Expects (stages.AtMessage e t serial) r = IsMessage r
Expects (stages.AtTypeOf e m) r = IsType r
Expects (stages.Taken removal) r = ⊥

pub expected : (c : Caller) (a : ReceiveArguments) (stage : Stage) (room : Roomful) (s : State) (r : Record) →
    IsFiled s → KnowsAt c a stage room s → AsksRecord (asked a.id stage) → IsTold s (asked a.id stage) (Some r) →
    Expects stage r
expected c a (stages.Seeking sought.Unread) room s r filed known asks told =
    let (e, is) = queue_told a.id s r told in
    subst IsQueue (sym is) tt
expected c a (stages.Seeking sought.Absent) room s r filed known asks told = absurd asks
expected c a (stages.Seeking (sought.Found e)) room s r filed known asks told = absurd asks
expected c a (stages.Seeking (sought.Refused errno)) room s r filed known asks told = absurd asks
expected c a (stages.Refused errno) room s r filed known asks told = absurd asks
expected c a stages.PutOff room s r filed known asks told = absurd asks
expected c a (stages.AtType e mtype) room s r filed known asks told =
    elim (type_told c a e s filed mtype known.1 (Some r) told) [
      | inl (it, is) ↦ subst IsType (sym (same_Some _ _ is)) tt
      | inr (none, above, empty) ↦ absurd cc
    ]
expected c a (stages.AtMessage e t serial) room s r filed known asks told =
    let is = its_message c a e s filed known.1.selects serial known.1.is_its (Some r) told in
    subst IsMessage (sym (same_Some _ _ is)) tt
expected c a (stages.AtTypeOf e m) room s r filed known asks told =
    let is = its_type c a e s filed known.0.selects m.mtype (ap (λ (h : MessageHead). h.mtype) known.0.entry) (Some r)
    told in
    subst IsType (sym (same_Some _ _ is)) tt
expected c a (stages.Taken removal) room s r filed known asks told = absurd asks

-- so it is of one of the three kinds
abbrev pub IsOfThree : Record → Type 0
IsOfThree (records.Counter c) = ⊥
IsOfThree (records.Key k) = ⊥
IsOfThree (records.Queue q) = ⊤
IsOfThree (records.Type t) = ⊤
IsOfThree (records.Message m) = ⊤

of_queue : (r : Record) → IsQueue r → IsOfThree r
of_queue (records.Counter c) is = is
of_queue (records.Key k) is = is
of_queue (records.Queue q) is = is
of_queue (records.Type t) is = absurd is
of_queue (records.Message m) is = absurd is

of_type : (r : Record) → IsType r → IsOfThree r
of_type (records.Counter c) is = is
of_type (records.Key k) is = is
of_type (records.Queue q) is = absurd is
of_type (records.Type t) is = is
of_type (records.Message m) is = absurd is

of_message : (r : Record) → IsMessage r → IsOfThree r
of_message (records.Counter c) is = is
of_message (records.Key k) is = is
of_message (records.Queue q) is = absurd is
of_message (records.Type t) is = absurd is
of_message (records.Message m) is = is

pub of_three : (stage : Stage) (r : Record) → Expects stage r → IsOfThree r
of_three (stages.Seeking x) r is = of_queue r is
of_three (stages.Refused errno) r is = absurd is
of_three stages.PutOff r is = absurd is
of_three (stages.AtType e mtype) r is = of_type r is
of_three (stages.AtMessage e t serial) r is = of_message r is
of_three (stages.AtTypeOf e m) r is = of_type r is
of_three (stages.Taken removal) r is = absurd is

-- ---- what does not stand

-- there is no Type only where one above 0 is asked for
pub lacks_above : (c : Caller) (a : ReceiveArguments) (e : QueueEntry) (mtype : ℤ) (s : State) → IsFiled s →
    SelectsType c a e mtype s → IsTold s (Some (At (key_of_type a.id mtype))) None → pos 0 <ℤ a.mtype
lacks_above c a e mtype s filed known told = elim (type_told c a e s filed mtype known None told) [
  | inl (it, is) ↦ absurd cc
  | inr (none, above, empty) ↦ above
]

-- the message stands
pub message_stands : (c : Caller) (a : ReceiveArguments) (e : QueueEntry) (t : Option TypeEntry) (serial : ℕ)
    (s : State) → IsFiled s → KnowsSerial c a e t serial s → IsTold s (Some (At (key_of_message a.id serial))) None → ⊥
message_stands c a e t serial s filed known told =
    let is = its_message c a e s filed known.selects serial known.is_its None told in
    absurd cc

-- and its Type
pub type_stands : (c : Caller) (a : ReceiveArguments) (e : QueueEntry) (m : MessageHead) (t : Option TypeEntry)
    (room : Roomful) (s : State) → IsFiled s → KnowsHead c a e m t room s →
    IsTold s (Some (At (key_of_type a.id m.mtype))) None → ⊥
type_stands c a e m t room s filed known told =
    let is = its_type c a e s filed known.selects m.mtype (ap (λ (h : MessageHead). h.mtype) known.entry) None told in
    absurd cc
