-- A trial that has no room, where no other seat owes a record: the records of the system after its call are more than
-- a bucket holds.
use Rattle.std.proofs.Common.{ℕ, ◌≡◌, ◌<◌, inl, inr, refl, sym, ap, ◌∙◌, subst, Bool, true, false, List, Option, Some, None, IsSome}
use Rattle.std.specs.List.{All, Contains}
use Rattle.std.specs.Option.{option_map}
use Rattle.std.proofs.lemmas.Option.{none-some, same_Some}
use Rattle.bucket_page.specs.declared.layout.TheConstants.{ROOM_BYTES}
use Rattle.bucket_page.specs.declared.record_key.RecordKey.{RecordKey}
use Rattle.bucket_page.specs.Records.{pair}
use Rattle.call_decisions.proofs.OverlayLemmas.{overlaid_rest}
use Rattle.call_decisions.specs.Anything.{plan_of}
use Rattle.call_decisions.specs.Asked.{any_inserts}
use Rattle.call_decisions.specs.Owing.{overlaid, owes_at}
use Rattle.hash_file.specs.Chain.{contents}
use Rattle.page_locks.specs.Table.{Table}
use Rattle.queue_model.specs.Lawful.{IsLawful}
use Rattle.queue_model.specs.State.{State}
use Rattle.queue_model.specs.declared.call.Call.{Call}
use Rattle.queue_records.specs.Spelling.{key_of, value_of}
use Rattle.queue_records.specs.declared.record.Record.{Record}
use Rattle.step_rules.specs.Rooms.{HasNoRoom}
use Rattle.step_rules.specs.Sound.{IsSoundWorld}
use Rattle.type_chains.proofs.Images.{image_agrees}
use Rattle.type_chains.specs.Image.{image}
use Rattle.type_chains.specs.RecordOf.{record_of}
use Rattle.xsi_inquiry.specs.Writing.{KeepsAll, Leads, Plan, Records, inserted}
use Rattle.xsi_calls.proofs.HeldLemmas.{is_among}
use Rattle.xsi_calls.specs.call_writes.Dues.{owes}
use Rattle.xsi_calls.specs.Knowing.{IsTrying, standing}
use Rattle.xsi_calls.specs.Undecided.{Trials}
use Rattle.xsi_calls.specs.UndecidedWords.{Change, Exclusive, PoolState, QuestionsView, guard_of, kind_of, store_of, world}
use Rattle.xsi_calls.specs.call_writes.WriteWords.{StandsAt}
use Rattle.interleavings.specs.Sizes.{bytes_of_system}
use Rattle.interleavings.proofs.PlanLemmas.{StandsAsLong, first_ones, its_own, plan_long, stood_still}
use Rattle.interleavings.proofs.SizeLemmas.{IsAmong, over_a_bucket}
use Rattle.interleavings.proofs.TrialLemmas.{gone}
use Rattle.interleavings.specs.Doing.{HasAsLong}

-- one that stands as long is among the records of a lawful system
among : (t : State) (key : RecordKey) (r : Record) → IsLawful t → StandsAsLong (record_of t) key r →
    IsAmong (image t) key (value_of r)
among t key r lawful at =
    let both = (image_agrees t lawful key at.entry).0 at.there in
    record { entry = at.entry; its = both.0; keyed = both.1; long = at.long }

module _ (hash : RecordKey → ℕ) (seat : ℕ) (call : Call) (s : State) (q : QuestionsView) (t : Trials)
    (records : Records) (pool : PoolState) (locks : Table) (change : Change)
    (tries : IsTrying hash seat call s q t records pool locks change) (then : State) (lawful : IsLawful then)
    (leads : Leads (plan_of call q.inquiry) (record_of s) (record_of then))
    (own : (key : RecordKey) → owes_at (owes (plan_of call q.inquiry) t.writes.due) key ≡ true →
    kind_of q.names (guard_of key) ≡ Some Exclusive)
    (stands : (key : RecordKey) → StandsAt (store_of pool.images) key (records key))
    (will : (key : RecordKey) →
    overlaid (owes (plan_of call q.inquiry) t.writes.due) records key ≡ record_of s key) where
  abbrev plan : Plan
  plan = plan_of call q.inquiry

  -- where it inserts something it deletes nothing
  keeps : (r : Record) → Contains plan.trials r → All KeepsAll plan.slots
  keeps r has = elim (any_inserts call q.inquiry) [
    | inl none ↦ absurd (gone none has)
    | inr both ↦ both.1
  ]

  -- what stands in the file is of the system, or was inserted
  is_inserted : (key : RecordKey) (r : Record) → records key ≡ Some r →
      inserted plan.trials (record_of s) key ≡ Some r
  is_inserted key r there = by (owes_at (owes plan t.writes.due) key) refl
    where
      by : (b : Bool) → owes_at (owes plan t.writes.due) key ≡ b → inserted plan.trials (record_of s) key ≡ Some r
      by false free = stood_still plan.trials (record_of s) key r leads.absent
          (sym (will key) ∙ overlaid_rest (owes plan t.writes.due) records key free ∙ there)
      by true owed = first_ones (standing t.writes.due) plan.trials (record_of s) key r leads.absent
          (sym (tries.alike key (is_among q.names (guard_of key) (subst IsSome (sym (own key owed)) refl))) ∙ there)

  module _ (its : Record) (has : Contains plan.trials its) where
    stays : (key : RecordKey) (r : Record) → inserted plan.trials (record_of s) key ≡ Some r →
        IsAmong (image then) key (value_of r)
    stays key r there =
        among then key r lawful (plan_long plan (record_of s) (record_of then) key r leads (keeps its has) there)

    held : (key : RecordKey) (value : List ℕ) → contents (store_of pool.images) key ≡ Some value →
        IsAmong (image then) key value
    held key value is = by (records key) refl
      where
        by : (o : Option Record) → records key ≡ o → IsAmong (image then) key value
        by None none = absurd (none-some value (sym (ap (option_map value_of) none) ∙ sym (stands key).holds ∙ is))
        by (Some r) there = subst (IsAmong (image then) key)
            (same_Some (value_of r) value (sym (ap (option_map value_of) there) ∙ sym (stands key).holds ∙ is))
            (stays key r (is_inserted key r there))

  -- a record as long as one of its trials has no room
  pub over : (c : Change) (r : Record) → HasAsLong plan.trials r → IsSoundWorld hash (world pool.images locks c) →
      HasNoRoom hash (pair (key_of r) (value_of r)) (world pool.images locks c) → ROOM_BYTES < bytes_of_system then
  over c r has sound none =
      let at = stays has.entry has.its (key_of has.entry) has.entry
      (its_own plan.trials (record_of s) has.entry leads.absent has.its) in
      over_a_bucket hash (world pool.images locks c) (key_of r) (value_of r) then sound none
      (held has.entry has.its) (record {
        entry = at.entry;
        its = at.its;
        keyed = at.keyed ∙ has.keyed;
        long = at.long ∙ has.long;
      })
