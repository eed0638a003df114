-- What a call that was answered did, in one of four ways.
use Rattle.std.proofs.Common.{ℕ, ◌≡◌, ◌+◌, ◌<◌, ◌≤◌, refl, sym, ap, ◌∙◌, Bool, true, cond, List, [], ◌∷◌, length, Option, Some, None, inl, inr, arith}
use Rattle.std.specs.Prelude.{slice_get, slice_set}
use Rattle.std.specs.Option.{option_or}
use Rattle.std.specs.List.{find, position_or_len, remove}
use Rattle.std.proofs.lemmas.List.Edits.{length-remove}
use Rattle.std.proofs.lemmas.Bool.Decides.{Decides-eqb}
use Rattle.std.proofs.lemmas.List.Folds.{find-append, find_at}
use Rattle.std.proofs.lemmas.Option.{slice_get-get_or, slice_get_within}
use Rattle.queue_model.proofs.EffectLemmas.{Accepts, Changes, Effect, Effect-outcome, Gives, Makes, Removes, Sets, Stands}
use Rattle.queue_model.proofs.ListLemmas.{find-Some}
use Rattle.queue_model.specs.Rules.{has_id, new_queue, outcome, with_message, with_settings, without_message}
use Rattle.queue_model.specs.Selection.{selects}
use Rattle.queue_model.specs.declared.answer.Answer.{Answer}
use Rattle.queue_model.specs.declared.answer.Answer.TheVariants.{Sent, Received, Done}
use Rattle.queue_model.specs.declared.call.Call.TheVariants as calls
use Rattle.queue_model.specs.declared.call.GetArguments.{GetArguments}
use Rattle.queue_model.specs.declared.call.ReceiveArguments.{ReceiveArguments}
use Rattle.queue_model.specs.declared.call.SendArguments.{SendArguments}
use Rattle.queue_model.specs.declared.call.SetArguments.{SetArguments}
use Rattle.queue_model.specs.declared.caller.Caller.{Caller}
use Rattle.queue_model.specs.declared.message.Message.{Message}
use Rattle.queue_model.specs.declared.queue.Queue.{Queue}
use Rattle.queue_records.specs.declared.queue_entry.QueueEntry.{QueueEntry}
use Rattle.type_chains.proofs.Cases.{found_id}
use Rattle.type_chains.proofs.Elements.{image_has}
use Rattle.type_chains.proofs.OneQueueChanged.{found_new}
use Rattle.type_chains.specs.Entries.{queue_entry}
use Rattle.type_chains.specs.Others.{queue_of}
use Rattle.interleavings.specs.SeatWords.{Call, IsFiled, State}

-- the queue of an id became another of its id and key, which it was before where its Queue was the same
pub record Alters (id : ℕ) (s t : State) : Type 0 where
  pub place : ℕ
  pub q : Queue
  pub new : Queue
  pub changes : Changes id s place q new t
  pub same_id : new.id ≡ q.id
  pub same_key : new.key ≡ q.key
  pub told : queue_entry new ≡ queue_entry q → new ≡ q

-- the system was left, or the queue of the id was made, altered or removed
pub data Deed (c : Caller) (id : ℕ) (s t : State) : Type 0 where
  Leaves : t ≡ s → Deed c id s t
  Makes_it : (a : GetArguments) → id ≡ s.next_id → Makes c a s t → Deed c id s t
  Alters_it : Alters id s t → Deed c id s t
  Removes_it : Removes id s t → Deed c id s t

-- ---- the Queue tells the queue

pub one_more : (n m : ℕ) → m ≡ n + 1 → m ≡ n → ⊥
one_more n m more same = omega (arith, more, same)

-- a list without what was found on it is shorter
shorter : {X : Type 0} (p : X → Bool) (xs : List X) (x : X) → find p xs ≡ Some x →
    length xs ≡ length (remove xs (position_or_len p xs)) + 1
shorter p xs x found = sym (length-remove xs (position_or_len p xs)
    (slice_get_within xs (position_or_len p xs) x (sym (find_at p xs) ∙ found)))

-- settings that the Queue does not tell from those before are the same
settings_same : (a : SetArguments) (q : Queue) → queue_entry (with_settings a q) ≡ queue_entry q →
    with_settings a q ≡ q
settings_same a q same = λ i. record q {
  permissions = record q.permissions {
    uid = ap (λ (e : QueueEntry). e.uid) same i;
    gid = ap (λ (e : QueueEntry). e.gid) same i;
    mode = ap (λ (e : QueueEntry). e.mode) same i;
  };
  qbytes = ap (λ (e : QueueEntry). e.qbytes) same i;
  ctime = ap (λ (e : QueueEntry). e.ctime) same i;
}

-- ---- what was done

module _ (c : Caller) (s t : State) where
  sends : (x : SendArguments) → Accepts c x s t → Deed c x.id s t
  sends x did = Alters_it (record {
    place = did.place;
    q = did.q;
    new = with_message c.pid x did.q;
    changes = did.changes;
    same_id = refl;
    same_key = refl;
    told = λ same. absurd (one_more did.q.next_serial (did.q.next_serial + 1) refl
        (ap (λ (e : QueueEntry). e.next_serial) same));
  })

  receives : (x : ReceiveArguments) (m : Message) → Gives c x m s t → Deed c x.id s t
  receives x m did = Alters_it (record {
    place = did.place;
    q = did.q;
    new = without_message c.pid x did.q;
    changes = did.changes;
    same_id = refl;
    same_key = refl;
    told = λ same. absurd (one_more _ (length did.q.messages)
        (shorter (selects x.mtype did.q.messages) did.q.messages did.m did.selects)
        (sym (ap (λ (e : QueueEntry). e.qnum) same)));
  })

  sets : (x : SetArguments) → Sets x s t → Deed c x.id s t
  sets x did = Alters_it (record {
    place = did.place;
    q = did.q;
    new = with_settings x did.q;
    changes = did.changes;
    same_id = refl;
    same_key = refl;
    told = settings_same x did.q;
  })

  by_effect : (call : Call) (a : Answer) → Effect c call a s t → Deed c (queue_of call s) s t
  by_effect (calls.Get x) a (inl same) = Leaves same
  by_effect (calls.Get x) a (inr made) = Makes_it x refl made
  by_effect (calls.Send x) (Sent serial) did = sends x did
  by_effect (calls.Send x) _ same = Leaves same
  by_effect (calls.Receive x) (Received m) did = receives x m did
  by_effect (calls.Receive x) _ same = Leaves same
  by_effect (calls.Stat id) a same = Leaves same
  by_effect (calls.Set x) a (inl same) = Leaves same
  by_effect (calls.Set x) a (inr did) = sets x did
  by_effect (calls.Remove id) Done did = Removes_it did
  by_effect (calls.Remove id) _ same = Leaves same

  pub deed_of : (call : Call) (a : Answer) → outcome c call s ≡ Some (a, t) → Deed c (queue_of call s) s t
  deed_of call a answered = by_effect call a (Effect-outcome c call a s t answered)

-- ---- the queue of the id

module _ (id : ℕ) (s : State) where
  pub found_at : (place : ℕ) (q : Queue) → Stands id s place q → find (has_id id) s.queues ≡ Some q
  found_at place q stands =
      find_at (has_id id) s.queues ∙ ap (slice_get s.queues) stands.place_of.first
      ∙ slice_get-get_or s.queues place q stands.place_of.within ∙ ap Some (stands.is_it q)

  pub found_then : (t : State) (d : Alters id s t) → find (has_id id) t.queues ≡ Some d.new
  found_then t d =
      ap (λ (x : State). find (has_id id) x.queues) d.changes.after
      ∙ ap (λ (i : ℕ). find (has_id id) (slice_set s.queues i d.new)) (sym d.changes.stands.place_of.first)
      ∙ found_new id s d.q d.new (found_at d.place d.q d.changes.stands) d.same_id d.same_key

-- no queue has the next id
pub unused : (s : State) → IsFiled s → find (has_id s.next_id) s.queues ≡ None
unused s filed = by (find (has_id s.next_id) s.queues) refl
  where
    by : (o : Option Queue) → find (has_id s.next_id) s.queues ≡ o → o ≡ None
    by None found = refl
    by (Some q) found =
        let stands = (find-Some (has_id s.next_id) s.queues q found).1 in
        let given = image_has (λ (q : Queue). q.id) (λ (id : ℕ). (1 ≤ id) × (id < s.next_id)) s.queues q
        filed.lawful.ids_given stands in
        absurd (omega (arith, given.1, found_id s s.next_id q found))

-- a queue that was made has it
pub found_made : (c : Caller) (a : GetArguments) (s t : State) → IsFiled s → Makes c a s t →
    find (has_id s.next_id) t.queues ≡ Some (new_queue s.next_id c a)
found_made c a s t filed made =
    let new : Queue = new_queue s.next_id c a in
    let passes : has_id s.next_id new ≡ true = (Decides-eqb s.next_id s.next_id).1 refl in
    ap (λ (x : State). find (has_id s.next_id) x.queues) made.after
    ∙ find-append (has_id s.next_id) s.queues (new ∷ [])
    ∙ (λ i. option_or (unused s filed i) (cond (passes i) (Some new) None))
