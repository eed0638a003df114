-- An access of the one seat as it begins, and what an insert comes to.
use Rattle.std.proofs.Common.{◌≡◌, ℕ, Some, None, refl, sym, subst}
use Rattle.bucket_page.specs.declared.record_key.RecordKey.{RecordKey}
use Rattle.buffer_pool.specs.Pool.{PoolState}
use Rattle.file_pages.specs.Fault.{IsDevicesFault}
use Rattle.file_pages.specs.Files.{store_of}
use Rattle.file_pages.specs.declared.fault.FileFault.{FileFault}
use Rattle.lone_access.specs.OneAccess.{IsAtRest, IsBegun, IsLeft}
use Rattle.lone_access.proofs.UnderWayLemmas.{own_value}
use Rattle.numbers.specs.Numbers.{four}
use Rattle.queue_records.specs.Spelling.{counter_key, key_of}
use Rattle.queue_records.specs.declared.counter.Counter.{Counter}
use Rattle.queue_records.specs.declared.record.Record.{Record}
use Rattle.queue_records.specs.declared.record.Record.TheVariants as records
use Rattle.record_file.specs.Accesses.{AccessView, Serves, begun}
use Rattle.record_file.specs.Files.{new_counter}
use Rattle.record_file.specs.Purposes.{ToInsert, ToWrite}
use Rattle.xsi_inquiry.specs.declared.write.Write.TheVariants.{Replace}
use Rattle.migration.specs.Fault.{of_file}
use Rattle.migration.specs.Filling.{HasCounter, MayNotPut, MayNotWrite, Puts, held_in}
use Rattle.migration.specs.declared.fault.MakingFault.{MakingFault}
use Rattle.migration.specs.declared.fault.MakingFault.TheVariants as makings

pub begun_insert : (hash : RecordKey → ℕ) (r : Record) (k : ℕ) (a : AccessView) (pool : PoolState) →
    a ≡ begun (ToInsert r) k → Serves (ToInsert r) a → k ≡ hash (key_of r) → IsAtRest hash pool →
    held_in pool (key_of r) ≡ None → IsBegun hash (ToInsert r) None a pool
begun_insert hash r k a pool is serves keyed rest none =
    subst (λ (x : AccessView). IsBegun hash (ToInsert r) None x pool) (sym is) (record {
      serves = subst (Serves (ToInsert r)) is serves;
      keyed = sym keyed;
      facts = refl;
      stands = record { holds = none; spelled = tt };
      allows = record { stands = refl; came_to = tt };
      room = refl;
      rest = rest;
    })

pub begun_replace : (hash : RecordKey → ℕ) (counter : Counter) (k : ℕ) (a : AccessView) (pool : PoolState) →
    a ≡ begun (ToWrite (Replace (records.Counter counter))) k → Serves (ToWrite (Replace (records.Counter counter))) a →
    k ≡ hash counter_key → IsAtRest hash pool → HasCounter pool →
    IsBegun hash (ToWrite (Replace (records.Counter counter))) (Some (records.Counter new_counter)) a pool
unfolding four
begun_replace hash counter k a pool is serves keyed rest stands =
    subst (λ (x : AccessView). IsBegun hash (ToWrite (Replace (records.Counter counter)))
    (Some (records.Counter new_counter)) x pool) (sym is) (record {
      serves = subst (Serves (ToWrite (Replace (records.Counter counter)))) is serves;
      keyed = sym keyed;
      facts = refl;
      stands = stands;
      allows = record { fits = refl; due = λ unwritten. record { searches = refl; told = λ none. none } };
      room = refl;
      rest = rest;
    })

-- a fault is the device's
pub of_device : (fault : FileFault) (old new : PoolState) → IsDevicesFault old new fault → MayNotWrite (of_file fault)
of_device fault old new is = subst (λ (f : FileFault). MayNotWrite (of_file f)) (sym is.told) tt

pub told_put : (hash : RecordKey → ℕ) (r : Record) (old : PoolState) (fault : MakingFault) → MayNotWrite fault →
    MayNotPut hash r old fault
told_put hash r old (makings.Device fault) is = tt
told_put hash r old (makings.Pool fault) is = tt
told_put hash r old makings.NoRoom is = absurd is
told_put hash r old makings.NoMemory is = tt
told_put hash r old (makings.Wrong fault) is = tt
told_put hash r old makings.Failed is = absurd is

pub puts_it : (hash : RecordKey → ℕ) (r : Record) (old : PoolState) (a : AccessView) (new : PoolState) →
    IsLeft hash (ToInsert r) old a new → Puts hash r old new
puts_it hash r old a new left = record {
  rest = left.rest;
  others = left.others;
  own = own_value (store_of new.images) (key_of r) a left.found r left.stands left.allows;
}
