-- A new file that is opened holds the Counter alone.
use Rattle.std.proofs.Common.{◌≡◌, ◌≢◌, ℕ, Bool, IsTrue, List, [], length, inl, inr, Option, Some, None, Result, Ok, Err, IfOk, IfErr, refl, sym, ap, subst, ◌∙◌, arith}
use Rattle.std.specs.Prelude.{◌⊎◌}
use Rattle.std.specs.Option.{option_map}
use Rattle.std.proofs.lemmas.List.{length-map}
use Rattle.bucket_page.specs.declared.record_key.RecordKey.{RecordKey}
use Rattle.buffer_pool.specs.Pool.{opened, payloads_of}
use Rattle.directory.proofs.MemberLaws.{contains_none}
use Rattle.files_at_rest.specs.Files.{no_queues}
use Rattle.files_at_rest.proofs.NewLaws.{new_has_no_queues}
use Rattle.files_at_rest.proofs.OpenedOpenLemmas.{opens_at_rest}
use Rattle.page_device.specs.Sealed.{payload_of}
use Rattle.queue_model.specs.Lawful.{IsLawful}
use Rattle.queue_model.specs.State.{State}
use Rattle.queue_records.specs.Spelling.{counter_key, key_of, value_of}
use Rattle.queue_records.specs.declared.record.Record.{Record}
use Rattle.queue_records.specs.declared.record.Record.TheVariants as records
use Rattle.record_file.specs.Files.{IsNewFile, new_counter}
use Rattle.type_chains.specs.RecordOf.{record_of}
use Rattle.type_chains.proofs.Images.{image_agrees}
use Rattle.type_chains.proofs.Members.{head_or_tail}
use Rattle.migration.specs.Filling.{IsNew, MayNotFill, MayNotWrite}
use Rattle.migration.specs.Rescues.{IsFoundIn, IsRescuedFrom, IsWhole}
use Rattle.migration.specs.Rooms.{IsToldOfNew}
use Rattle.migration.specs.declared.salvaged.Rescue.{Rescue}
use Rattle.migration.specs.declared.salvage_fault.SalvageFault.{SalvageFault}
use Rattle.migration.specs.declared.fault.MakingFault.{MakingFault}
use Rattle.migration.specs.declared.fault.MakingFault.TheVariants as makings

-- the system without queues has no record but the Counter
none_elsewhere : IsLawful no_queues → (key : RecordKey) → counter_key ≢ key → record_of no_queues key ≡ None
none_elsewhere lawful key other = by (record_of no_queues key) refl
  where
    by : (found : Option Record) → record_of no_queues key ≡ found → found ≡ None
    by None is = refl
    by (Some r) is =
        let both = (image_agrees no_queues lawful key r).0 is in
        elim (head_or_tail (records.Counter new_counter) r [] both.0) [
          | inl first ↦ absurd (other (ap key_of first ∙ both.1))
          | inr none ↦ absurd (contains_none r none)
        ]

pub new_file : (hash : RecordKey → ℕ) (pages : ℕ) (content : List (List ℕ)) (frames faults : ℕ) (honest synced : Bool) →
    IsNewFile pages content → IsTrue honest → IsNew hash (opened frames content honest synced faults)
new_file hash pages content frames faults honest synced it true_to_it =
    let rest = (opens_at_rest hash content no_queues frames 1 faults honest synced
    (new_has_no_queues hash pages content it).file true_to_it (omega arith) (omega arith)).rest in
    record {
      rest = record { honest = rest.honest; file = rest.file; sound = rest.sound.file };
      counter = record { holds = rest.holds counter_key; spelled = rest.spelled counter_key };
      none = λ key other. rest.holds key
          ∙ ap (option_map value_of) (none_elsewhere rest.filed.lawful key other);
    }

-- it has as many pages
pub as_many_images : (pages : ℕ) (content : List (List ℕ)) → IsNewFile pages content →
    length (payloads_of content) ≡ pages
as_many_images pages content it = length-map content payload_of ∙ it.as_many

-- what is told by what the file is checked with
pub told_wrong : (hash : RecordKey → ℕ) (pages : ℕ) (s : State) (fault : MakingFault) → MayNotWrite fault →
    MayNotFill hash pages s fault
told_wrong hash pages s (makings.Device fault) is = tt
told_wrong hash pages s (makings.Pool fault) is = tt
told_wrong hash pages s makings.NoRoom is = absurd is
told_wrong hash pages s makings.NoMemory is = tt
told_wrong hash pages s (makings.Wrong fault) is = tt
told_wrong hash pages s makings.Failed is = absurd is

-- what is so of the fault that is told, and of what is answered

pub err_told : {T E : Type 0} (P : E → Type 0) (r : Result T E) (fault : E) → r ≡ Err fault → IfErr r P → P fault
err_told {T} {E} P r fault is x = subst (λ (y : Result T E). IfErr y P) is x

pub ok_told : {T E : Type 0} (P : T → Type 0) (r : Result T E) (value : T) → r ≡ Ok value → IfOk r P → P value
ok_told {T} {E} P r value is x = subst (λ (y : Result T E). IfOk y P) is x

-- of a system of which this is known
pub known_told : (hash : RecordKey → ℕ) (pages : ℕ) (Known : State → Type 0) (s : State) → Known s →
    (fault : MakingFault) → MayNotFill hash pages s fault → IsToldOfNew hash pages Known fault
known_told hash pages Known s known (makings.Device fault) is = tt
known_told hash pages Known s known (makings.Pool fault) is = tt
known_told hash pages Known s known makings.NoRoom is = (is.0, subst Known (sym is.1) known, is.2)
known_told hash pages Known s known makings.NoMemory is = tt
known_told hash pages Known s known (makings.Wrong fault) is = tt
known_told hash pages Known s known makings.Failed is = absurd is

-- ---- what was salvaged

-- what is put into a new file is what was found
pub found_in : (hash : RecordKey → ℕ) (content : List (List ℕ)) (Honest Failed : Type 0) (rescue : Rescue)
    (found : Result Rescue SalvageFault) → found ≡ Ok rescue → (Honest → IsRescuedFrom hash content Failed found) →
    IsFoundIn hash content Honest Failed rescue.system
found_in hash content Honest Failed rescue found is told honest t file =
    by (subst (λ (r : Result Rescue SalvageFault). IfOk r (λ x. IsWhole t x ⊎ Failed)) is
    ((told honest).whole t file))
  where
    by : IsWhole t rescue ⊎ Failed → (rescue.system ≡ t) ⊎ Failed
    by (inl whole) = inl whole.system
    by (inr failed) = inr failed
