-- A call that was answered and left the Counter and each Queue left the system.
use Rattle.std.proofs.Common.{ℕ, ◌≡◌, ◌+◌, sym, ap, ◌∙◌, List, length, Option, Some}
use Rattle.std.specs.Prelude.{option_map, slice_set}
use Rattle.std.proofs.lemmas.List.{set-get_or}
use Rattle.std.proofs.lemmas.List.Edits.{length-remove}
use Rattle.queue_model.proofs.EffectLemmas.{Makes, Removes}
use Rattle.queue_model.specs.Rules.{outcome}
use Rattle.queue_model.specs.declared.answer.Answer.{Answer}
use Rattle.queue_model.specs.declared.call.GetArguments.{GetArguments}
use Rattle.queue_model.specs.declared.caller.Caller.{Caller}
use Rattle.queue_model.specs.declared.queue.Queue.{Queue}
use Rattle.queue_records.specs.Keys.{key_of_queue}
use Rattle.queue_records.specs.declared.queue_entry.QueueEntry.{QueueEntry}
use Rattle.queue_records.specs.declared.record.Record.TheVariants as records
use Rattle.type_chains.specs.Entries.{queue_entry}
use Rattle.interleavings.specs.SeatWords.{Call, Record, State, counter_key, record_of}
use Rattle.interleavings.proofs.DeedLemmas.{Alters, Alters_it, Deed, Leaves, Makes_it, Removes_it, deed_of, found_at, found_then, one_more}

-- ---- what records say

abbrev pub next_says : Option Record → ℕ
next_says (Some (records.Counter n)) = n.next_id
next_says found = 0

abbrev pub alive_says : Option Record → ℕ
alive_says (Some (records.Counter n)) = n.queues_alive
alive_says found = 0

abbrev entry_of : QueueEntry → Option Record → QueueEntry
entry_of other (Some (records.Queue e)) = e
entry_of other found = other

abbrev pub entry_at : Option Queue → Option Record
entry_at found = option_map (λ (q : Queue). records.Queue (queue_entry q)) found

-- ---- what was done

-- where the Counter is the same, no queue was made and none removed
module _ (s t : State) (counts : record_of t counter_key ≡ record_of s counter_key) where
  pub none_made : (c : Caller) (a : GetArguments) → Makes c a s t → ⊥
  none_made c a made =
      one_more s.next_id t.next_id (ap (λ (x : State). x.next_id) made.after) (ap next_says counts)

  pub none_gone : (id : ℕ) → Removes id s t → ⊥
  none_gone id did =
      one_more (length t.queues) (length s.queues)
      (sym (length-remove s.queues did.place did.stands.place_of.within)
      ∙ ap (λ (x : State). length x.queues + 1) (sym did.after)) (ap alive_says (sym counts))

-- a queue that was altered and has the Queue that it had was that before
module _ (id : ℕ) (s t : State) (d : Alters id s t) where
  same_entry : record_of t (key_of_queue id) ≡ record_of s (key_of_queue id) → queue_entry d.new ≡ queue_entry d.q
  same_entry same =
      ap (entry_of (queue_entry d.q)) (sym (ap entry_at (found_then id s t d)) ∙ same
      ∙ ap entry_at (found_at id s d.place d.q d.changes.stands))

  set_back : d.new ≡ d.q → t ≡ s
  set_back same =
      d.changes.after ∙ ap (λ (qs : List Queue). record s { queues = qs })
      (ap (slice_set s.queues d.place) (same ∙ sym (d.changes.stands.is_it d.q)) ∙ set-get_or s.queues d.place d.q)

  pub unaltered : record_of t (key_of_queue id) ≡ record_of s (key_of_queue id) → t ≡ s
  unaltered same = set_back (d.told (same_entry same))

module _ (s t : State) (counts : record_of t counter_key ≡ record_of s counter_key)
    (queues : (id : ℕ) → record_of t (key_of_queue id) ≡ record_of s (key_of_queue id)) where
  by_deed : (c : Caller) (id : ℕ) → Deed c id s t → t ≡ s
  by_deed c id (Leaves same) = same
  by_deed c id (Makes_it a is made) = absurd (none_made s t counts c a made)
  by_deed c id (Alters_it d) = unaltered id s t d (queues id)
  by_deed c id (Removes_it did) = absurd (none_gone s t counts id did)

  pub same_system : (c : Caller) (call : Call) (a : Answer) → outcome c call s ≡ Some (a, t) → t ≡ s
  same_system c call a answered = by_deed c _ (deed_of c s t call a answered)
