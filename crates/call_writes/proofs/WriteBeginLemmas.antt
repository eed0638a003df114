-- An access of a deed that has just begun.
use Rattle.std.proofs.Common.{◌≡◌, refl, ℕ, false, List, []}
use Rattle.call_writes.specs.declared.deed.Deed.TheVariants as deeds
use Rattle.call_writes.specs.WriteWords.{RecordKey, Replace, Relink, Delete, Lock, HasEnded, IsKeyed, Deed, access_facts, access_key, access_locks, has_no_room}
use Rattle.call_writes.specs.Dues.{deed_key}
use Rattle.call_writes.specs.Views.{begun_deed}

module _ (hash : RecordKey → ℕ) where
  pub not_ended : (d : Deed) → HasEnded (begun_deed hash d).operation → ⊥
  not_ended (deeds.Trial r) ended = absurd cc
  not_ended (deeds.Write (Replace r)) ended = absurd cc
  not_ended (deeds.Write (Relink key links)) ended = absurd cc
  not_ended (deeds.Write (Delete key)) ended = ended

  pub begun_locks : (d : Deed) (before : List Lock) → access_locks (begun_deed hash d) before ≡ before
  begun_locks (deeds.Trial r) before = refl
  begun_locks (deeds.Write (Replace r)) before = refl
  begun_locks (deeds.Write (Relink key links)) before = refl
  begun_locks (deeds.Write (Delete key)) before = refl

  pub begun_facts : (d : Deed) → access_facts (begun_deed hash d) ≡ []
  begun_facts (deeds.Trial r) = refl
  begun_facts (deeds.Write (Replace r)) = refl
  begun_facts (deeds.Write (Relink key links)) = refl
  begun_facts (deeds.Write (Delete key)) = refl

  pub begun_key : (d : Deed) → access_key (begun_deed hash d) ≡ deed_key d
  begun_key (deeds.Trial r) = refl
  begun_key (deeds.Write (Replace r)) = refl
  begun_key (deeds.Write (Relink key links)) = refl
  begun_key (deeds.Write (Delete key)) = refl

  pub begun_keyed : (d : Deed) → IsKeyed hash (begun_deed hash d).operation
  begun_keyed (deeds.Trial r) = refl
  begun_keyed (deeds.Write (Replace r)) = refl
  begun_keyed (deeds.Write (Relink key links)) = refl
  begun_keyed (deeds.Write (Delete key)) = refl

  pub begun_unwritten : (d : Deed) → (begun_deed hash d).written ≡ false
  begun_unwritten (deeds.Trial r) = refl
  begun_unwritten (deeds.Write (Replace r)) = refl
  begun_unwritten (deeds.Write (Relink key links)) = refl
  begun_unwritten (deeds.Write (Delete key)) = refl

  pub begun_room : (d : Deed) → has_no_room (begun_deed hash d) ≡ false
  begun_room (deeds.Trial r) = refl
  begun_room (deeds.Write (Replace r)) = refl
  begun_room (deeds.Write (Relink key links)) = refl
  begun_room (deeds.Write (Delete key)) = refl
