-- What the record of a queue tells.
use Rattle.std.proofs.Common.{◌≡◌, ℕ, Option, Some, None, refl, subst}
use Rattle.std.specs.Prelude.{option_map}
use Rattle.std.specs.List.{find}
use Rattle.queue_model.specs.declared.queue.Queue.{Queue}
use Rattle.queue_model.specs.Rules.{has_id}
use Rattle.queue_model.specs.State.{State}
use Rattle.queue_records.specs.declared.queue_entry.QueueEntry.{QueueEntry}
use Rattle.queue_records.specs.declared.record.Record.TheVariants as records
use Rattle.type_chains.specs.Entries.{queue_entry}
use Rattle.type_chains.specs.Reading.{TellsOf, IsReadable}
use Rattle.type_chains.proofs.Tests.{mapped}

tells_of_its_own : (q : Queue) → TellsOf (queue_entry q) q
tells_of_its_own q = record { permissions = refl; room = λ len. refl; serial = refl; info = refl }

none_mapped : {X Y : Type 0} (f : X → Y) (o : Option X) → option_map f o ≡ None → o ≡ None
none_mapped f None none = refl
none_mapped f (Some x) none = absurd cc

pub is_readable : (s : State) (id : ℕ) → IsReadable s id
is_readable s id = record {
  present = λ e at.
      let (q, found, is) = mapped (λ (q : Queue). records.Queue (queue_entry q)) (find (has_id id) s.queues)
      (records.Queue e) at in
      let same : queue_entry q ≡ e = cc in
      (q, found, subst (λ (x : QueueEntry). TellsOf x q) same (tells_of_its_own q));
  absent = λ none. none_mapped (λ (q : Queue). records.Queue (queue_entry q)) (find (has_id id) s.queues) none;
}
