-- What another call leaves to one that holds other names.
use Rattle.std.proofs.Common.{◌≡◌, inl, inr, ℕ, List, Option, Some, None, refl, sym, ap, ◌∙◌, subst}
use Rattle.std.specs.Prelude.{option_map}
use Rattle.std.specs.List.{Contains, find}
use Rattle.call_decisions.proofs.Names.{AgreeOnCall, AgreeOnCounter, AgreeOnId, AgreeOnKey, AnyInquiry, IsFiled, agrees_by_others, caller_of, counter_key, has_key, key_entry, key_of_key, locked_of, queue_of}
use Rattle.page_locks.specs.declared.lock.LockName.TheVariants as names
use Rattle.queue_model.specs.declared.call.Call.TheVariants.{Get, Send, Receive, Stat, Set, Remove}
use Rattle.queue_records.specs.declared.record.Record.TheVariants as records
use Rattle.call_decisions.specs.Words.{Call, LockName, Queue, Record, RecordKey, State, guard_of, record_of}
use Rattle.call_decisions.specs.Others.{DecidesApart, HoldsKey, HoldsOwn, LeavesOthers}
use Rattle.call_decisions.proofs.ChangeLemmas.{changes_under}

-- ---- what records say

-- the id of a Key
abbrev key_says : Option Record → Option ℕ
key_says (Some (records.Key e)) = Some e.id
key_says found = None

key_said : (key : ℕ) (found : Option Queue) →
    key_says (option_map (λ (q : Queue). records.Key (key_entry key q)) found)
    ≡ option_map (λ (q : Queue). q.id) found
key_said key None = refl
key_said key (Some q) = refl

abbrev next_says : Option Record → ℕ
next_says (Some (records.Counter n)) = n.next_id
next_says found = 0

abbrev alive_says : Option Record → ℕ
alive_says (Some (records.Counter n)) = n.queues_alive
alive_says found = 0

module _ (held : List LockName) (other : Call) (i : AnyInquiry) (s after : State) (filed : IsFiled s)
    (d : DecidesApart held other i s after) where
  -- what stands under a name that is held stands after it too
  stands : (key : RecordKey) (name : LockName) → guard_of key ≡ name → Contains held name →
      record_of after key ≡ record_of s key
  stands key name is has = d.rest key (λ theirs. d.apart name has (subst (Contains (locked_of other i)) is theirs))

  on_key : (key : Option ℕ) → HoldsKey key held → AgreeOnKey key s after
  on_key None has = tt
  on_key (Some key) has =
      let same = stands (key_of_key key) (names.Key key) refl has in
      sym (key_said key (find (has_key key) s.queues)) ∙ ap key_says (sym same)
      ∙ key_said key (find (has_key key) after.queues)

  on_counter : Contains held names.Counter → AgreeOnCounter s after
  on_counter has =
      let same = stands counter_key names.Counter refl has in
      record { next_id = ap next_says (sym same); alive = ap alive_says (sym same) }

  on_id : (id : ℕ) → Contains held (names.Queue id) → AgreeOnId id s after
  on_id id has = elim (changes_under other i d.room s d.answer after filed d.knows d.ready d.outcome) [
    | inl same ↦ subst (AgreeOnId id s) (sym same) (record { queue = refl; given = refl })
    | inr theirs ↦ agrees_by_others id (caller_of i) other d.answer s after
        (λ (is : id ≡ queue_of other s). d.apart (names.Queue id) has
        (subst (λ (n : ℕ). Contains (locked_of other i) (names.Queue n)) (sym is) theirs)) d.outcome
  ]

  asked : (call : Call) → HoldsOwn call held → AgreeOnCall call s after
  asked (Get a) has = on_key a.key has
  asked (Send a) has = on_id a.id has
  asked (Receive a) has = on_id a.id has
  asked (Stat id) has = on_id id has
  asked (Set a) has = on_id a.id has
  asked (Remove id) has = on_id id has

pub leaves_others : LeavesOthers
leaves_others call other held i s after filed has d =
    record { asked = asked held other i s after filed d call has; counter = on_counter held other i s after filed d }
