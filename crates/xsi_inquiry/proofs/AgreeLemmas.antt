-- Systems that agree for a call, and the records that they have in common.
use Rattle.std.proofs.Common.{◌≡◌, ℕ, List, Option, Some, None, refl, ap, ◌∙◌, subst}
use Rattle.std.specs.Prelude.{option_map, option_and_then, Result, Ok, Err}
use Rattle.std.specs.List.{Contains}
use Rattle.type_chains.specs.page_locks.declared.lock.LockName.{LockName}
use Rattle.type_chains.specs.page_locks.declared.lock.LockName.TheVariants.{Counter}
use Rattle.queue_model.specs.declared.call.Call.{Call}
use Rattle.queue_model.specs.declared.call.Call.TheVariants.{Get, Send, Receive, Stat, Set, Remove}
use Rattle.queue_model.specs.declared.queue.Queue.{Queue}
use Rattle.queue_model.specs.State.{State}
use Rattle.type_chains.specs.queue_records.declared.record.Record.TheVariants as records
use Rattle.type_chains.specs.Entries.{queue_entry}
use Rattle.type_chains.specs.queue_records.Keys.{key_of_queue}
use Rattle.type_chains.specs.RecordOf.{message_record, record_of, type_record}
use Rattle.xsi_inquiry.specs.Agreeing.{AgreeOnCall, AgreeOnId, AgreeOnKey, AgreesFor, IsSoNear}
use Rattle.xsi_inquiry.specs.Telling.{Gives}

-- ---- agreement is an equivalence

pub id_same : (id : ℕ) (s : State) → AgreeOnId id s s
id_same id s = record { queue = refl; given = refl }

pub id_after : (id : ℕ) (s t u : State) → AgreeOnId id s t → AgreeOnId id t u → AgreeOnId id s u
id_after id s t u first second = record {
  queue = first.queue ∙ second.queue;
  given = first.given ∙ second.given;
}

key_same : (key : Option ℕ) (s : State) → AgreeOnKey key s s
key_same None s = tt
key_same (Some key) s = refl

key_after : (key : Option ℕ) (s t u : State) → AgreeOnKey key s t → AgreeOnKey key t u → AgreeOnKey key s u
key_after None s t u first second = tt
key_after (Some key) s t u first second = first ∙ second

call_same : (call : Call) (s : State) → AgreeOnCall call s s
call_same (Get a) s = key_same a.key s
call_same (Send a) s = id_same a.id s
call_same (Receive a) s = id_same a.id s
call_same (Stat id) s = id_same id s
call_same (Set a) s = id_same a.id s
call_same (Remove id) s = id_same id s

call_after : (call : Call) (s t u : State) → AgreeOnCall call s t → AgreeOnCall call t u → AgreeOnCall call s u
call_after (Get a) s t u first second = key_after a.key s t u first second
call_after (Send a) s t u first second = id_after a.id s t u first second
call_after (Receive a) s t u first second = id_after a.id s t u first second
call_after (Stat id) s t u first second = id_after id s t u first second
call_after (Set a) s t u first second = id_after a.id s t u first second
call_after (Remove id) s t u first second = id_after id s t u first second

pub agrees_itself : (call : Call) (names : List LockName) (s : State) → AgreesFor call names s s
agrees_itself call names s = record {
  asked = call_same call s;
  counter = λ _. record { next_id = refl; alive = refl };
}

pub agrees_after : (call : Call) (names : List LockName) (s t u : State) → AgreesFor call names s t →
    AgreesFor call names t u → AgreesFor call names s u
agrees_after call names s t u first second = record {
  asked = call_after call s t u first.asked second.asked;
  counter = λ held. record {
    next_id = (first.counter held).next_id ∙ (second.counter held).next_id;
    alive = (first.counter held).alive ∙ (second.counter held).alive;
  };
}

-- with fewer names it can tell no more systems apart
pub agrees_less : (call : Call) (less more : List LockName) (s t : State) →
    ((name : LockName) → Contains less name → Contains more name) → AgreesFor call more s t → AgreesFor call less s t
agrees_less call less more s t among agrees = record {
  asked = agrees.asked;
  counter = λ held. agrees.counter (among Counter held);
}

pub near_after : (call : Call) (names : List LockName) (Knows : State → Type 0) (s t : State) →
    AgreesFor call names s t → IsSoNear call names Knows s → IsSoNear call names Knows t
near_after call names Knows s t agrees near u filed further =
    near u filed (agrees_after call names s t u agrees further)

pub near_more : (call : Call) (less more : List LockName) (Knows : State → Type 0) (s : State) →
    ((name : LockName) → Contains less name → Contains more name) → IsSoNear call less Knows s →
    IsSoNear call more Knows s
near_more call less more Knows s among near t filed agrees =
    near t filed (agrees_less call less more s t among agrees)

-- ---- records of the queue of an id

module _ (id : ℕ) (s t : State) (agrees : AgreeOnId id s t) where
  pub same_queue_record : record_of s (key_of_queue id) ≡ record_of t (key_of_queue id)
  same_queue_record = ap (option_map (λ (q : Queue). records.Queue (queue_entry q))) agrees.queue

  pub same_type_record : (number : ℕ) → record_of s (record { kind = 4; queue = id; number = number })
      ≡ record_of t (record { kind = 4; queue = id; number = number })
  same_type_record number = ap (option_and_then (type_record number)) agrees.queue

  pub same_message_record : (number : ℕ) → record_of s (record { kind = 5; queue = id; number = number })
      ≡ record_of t (record { kind = 5; queue = id; number = number })
  same_message_record number = ap (option_and_then (message_record number)) agrees.queue

-- ---- what succeeds

pub gives_at : {T E : Type 0} (r : Result T E) (x : T) (IsSo : T → Type 0) → r ≡ Ok x → Gives r IsSo → IsSo x
gives_at {T} {E} r x IsSo is gives = subst (λ (o : Result T E). Gives o IsSo) is gives

pub gives_each : {T E : Type 0} (r : Result T E) (IsSo IsMore : T → Type 0) → Gives r IsSo →
    ((x : T) → r ≡ Ok x → IsMore x) → Gives r IsMore
gives_each (Ok x) IsSo IsMore gives more = more x refl
gives_each (Err e) IsSo IsMore gives more = absurd gives
