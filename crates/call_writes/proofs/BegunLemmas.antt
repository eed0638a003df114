-- The access that makes the step, over the records that stand.
use Rattle.std.proofs.Common.{◌≡◌, refl, sym, ap, ◌∙◌, subst, ℕ, List, Option, Some, IsSome}
use Rattle.std.proofs.lemmas.Bool.{true≢false}
use Rattle.record_file.specs.Purposes.{CanBegin}
use Rattle.call_writes.proofs.WriteBeginLemmas.{begun_facts, begun_key, begun_keyed, begun_unwritten}
use Rattle.call_writes.proofs.DueLemmas.{own_deed}
use Rattle.call_writes.proofs.WriteNames.{FileFault}
use Rattle.call_writes.proofs.NextLemmas.{is_next}
use Rattle.call_writes.proofs.SortLemmas.{Anew, StartsAs, Under}
use Rattle.call_writes.proofs.WriteStepLemmas.{start_row}
use Rattle.call_writes.specs.declared.deed.Deed.TheVariants as deeds
use Rattle.call_writes.specs.declared.writes.CallWrites.{CallWrites}
use Rattle.call_writes.specs.WriteWords.{RecordKey, Record, guard_of, Replace, Relink, Delete, Plan, Records, kind_of, Owns, Progress, PoolState, Table, Lock, Change, Known, row_of, Sees, Allows, AccessView, access_facts, access_key, access_locks, Deed}
use Rattle.call_writes.specs.Carrying.{IsCarrying, IsDoing, IsUnderWay}
use Rattle.call_writes.specs.Dues.{deed_key, next_deed, purpose_of}
use Rattle.call_writes.specs.Views.{begun_deed, facts_under, writes_facts}

allows_begun : (hash : RecordKey → ℕ) (d : Deed) (found : Option Record) → CanBegin (purpose_of d) found →
    Allows (purpose_of d) (begun_deed hash d) found
allows_begun hash (deeds.Trial r) found can = record { stands = can; came_to = tt }
allows_begun hash (deeds.Write (Replace r)) found can =
    record { fits = can; due = λ unwritten. record { searches = refl; told = λ none. none } }
allows_begun hash (deeds.Write (Relink key links)) found can =
    record { fits = (can, refl); due = λ unwritten. record { searches = refl; told = λ none. none } }
allows_begun hash (deeds.Write (Delete key)) found can =
    record { fits = λ unwritten. can; due = λ unwritten. record { searches = refl; told = λ none. none } }

module _ (hash : RecordKey → ℕ) (seat : ℕ) (names : List Lock) (p : Plan) (old : CallWrites) (records : Records)
    (pool : PoolState) (locks : Table) (change : Change)
    (c : IsCarrying hash seat names p old records pool locks change) where
  begins_on : (d : Deed) → next_deed p old.due ≡ Some d → (k : RecordKey) → k ≡ deed_key d →
      Allows (purpose_of d) (begun_deed hash d) (records k)
  begins_on d next k is =
      subst (λ (x : RecordKey). Allows (purpose_of d) (begun_deed hash d) (records x)) (sym is)
      (allows_begun hash d (records (deed_key d)) (is_next p records old.due d next c.can).can)

  pub doing_start : (a : AccessView) → StartsAs hash p old a → (d : Deed) × IsDoing hash names p old.due records d a
  doing_start a (Under was) = subst (IsUnderWay hash names p old.due records) was c.doing
  doing_start a (Anew d rests next serves same) = (
    d,
    subst (λ (x : AccessView). IsDoing hash names p old.due records d x) (sym same) (record {
      serves = serves;
      keyed = begun_keyed hash d;
      owns = subst (Owns names) (sym (begun_key hash d))
          (own_deed (Owns names) p c.own.trials c.own.writes old.due d next);
      allows = begins_on d next (access_key (begun_deed hash d)) (begun_key hash d);
      next = λ unwritten. next;
      paid = λ written. absurd (true≢false (sym written ∙ begun_unwritten hash d));
    }),
  )

  start_facts : (a : AccessView) → StartsAs hash p old a → writes_facts old ≡ access_facts a
  start_facts a (Under was) = ap facts_under was
  start_facts a (Anew d rests next serves same) =
      ap facts_under rests ∙ sym (begun_facts hash d) ∙ ap (λ (x : AccessView). access_facts x) (sym same)

  pub sees_start : (a : AccessView) → StartsAs hash p old a → Sees hash seat (access_facts a) pool locks change
  sees_start a starts =
      subst (λ (facts : List Known). Sees hash seat facts pool locks change) (start_facts a starts) c.sees

  pub owned_start : (a : AccessView) (d : Deed) → IsDoing hash names p old.due records d a →
      IsSome (kind_of names (guard_of (access_key a)))
  owned_start a d doing = subst IsSome (sym doing.owns) refl

  pub row_start : (did : Progress FileFault) (new : CallWrites) (pool' : PoolState) (locks' : Table) (a : AccessView) →
      StartsAs hash p old a → row_of locks seat ≡ access_locks a names
  row_start did new pool' locks' a starts =
      c.row ∙ start_row hash seat p did old new pool pool' locks locks' a starts names
