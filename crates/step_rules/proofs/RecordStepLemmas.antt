-- A record that is written keeps the world sound, and leaves the others what they know.
use Rattle.std.proofs.Common.{◌≡◌, ◌≢◌, ◌⊎◌, ◌<◌, ℕ, List, Bool, true, if◌then◌else◌, Some, length, refl, sym, ap, ◌∙◌, subst, inl, inr, arith}
use Rattle.std.proofs.lemmas.Bool.{cases_eq, cases_Bool, true≢false}
use Rattle.std.specs.List.{Contains}
use Rattle.step_rules.proofs.Names.{Bucket, Directory, Exclusive, IsWriter, Page, PageKind, Pair, RecordKey, Store, bucket_at, bucket_of, held, is_bucket, is_same, page_at, records_at}
use Rattle.bucket_page.specs.declared.page.PageKind.TheVariants as kinds
use Rattle.bucket_page.proofs.KeyLaws.{same_is}
use Rattle.hash_file.specs.Chain.{chain, contents}
use Rattle.hash_file.specs.Change.{busy, aside}
use Rattle.hash_file.specs.Changes.{RecordWrite, key_of, value_after, records_after, write_record}
use Rattle.hash_file.specs.Kept.{ChangesRecord}
use Rattle.hash_file.specs.Laws as laws
use Rattle.hash_file.proofs.Frames.{page_other, page_same}
use Rattle.hash_file.proofs.Roles.{numbered}
use Rattle.hash_file.proofs.WriteRecord.{writes_record}
use Rattle.step_rules.specs.World.{World, guard_of}
use Rattle.step_rules.specs.Sound.{IsSoundWorld}
use Rattle.step_rules.specs.Structure.{bare}
use Rattle.step_rules.specs.PageSteps.{WritesRecord}
use Rattle.step_rules.specs.Does.{KeepsOthers}
use Rattle.step_rules.specs.Turns.{WritesJust}
use Rattle.step_rules.proofs.StructureLemmas.{chain-same}
use Rattle.step_rules.proofs.ChangeLemmas.{stands_led, other_writer, other_page}
use Rattle.step_rules.proofs.LockStepLemmas.{none_busy}

-- a bucket with other records is bare as it was
bare-records : (p : PageKind) (records : List Pair) → is_bucket p ≡ true →
    bare (kinds.Bucket (record (bucket_of p) { records = records })) ≡ bare p
bare-records (kinds.Bucket b) records is = refl
bare-records (kinds.Directory es) records is = absurd (true≢false (sym is))
bare-records (kinds.Tombstone link) records is = absurd (true≢false (sym is))
bare-records (kinds.Free link) records is = absurd (true≢false (sym is))

module _ (hash : RecordKey → ℕ) (seat : ℕ) (old : World) (sound : IsSoundWorld hash old) (new : World)
    (does : WritesRecord hash seat old new) where
  abbrev s : Store
  s = old.store

  abbrev t : Store
  t = write_record does.page does.write s

  -- the phase does not speak of the page: who makes the change is another, and could not both write it
  pub idle : Contains (busy old.change) does.page → ⊥
  idle there =
      let by = sound.guarded does.page there (inl does.home.0) in
      elim (cases_eq by.0 seat) [
        | inl own ↦ none_busy old.change does.page
            (does.between (subst (λ (x : ℕ). IsWriter old.locks x Directory) own by.1.directory)) there
        | inr apart ↦ other_writer hash old by.0 seat (Page does.page) sound apart by.1.page_too does.page_owned
      ]

  law : laws.KeepsOtherRecords hash s old.change t does.write
  law = writes_record hash s old.change does.page does.write sound.file does.home idle does.may

  within : does.page < length s.pages
  within = (numbered hash s old.change (chain s) sound.file does.page (inl does.home.0)).1

  same_bare : (n : ℕ) → bare (page_at t n) ≡ bare (page_at s n)
  same_bare n = elim (cases_eq n does.page) [
    | inr other ↦ ap bare (page_other s does.page n (kinds.Bucket written_here) other)
    | inl here ↦
        ap (λ (m : ℕ). bare (page_at t m)) here
        ∙ ap bare (page_same s does.page (kinds.Bucket written_here) within)
        ∙ bare-records (page_at s does.page) (records_after does.write (records_at s does.page))
        (sound.file.chained.buckets does.page does.home.0)
        ∙ ap (λ (m : ℕ). bare (page_at s m)) (sym here)
  ]
    where
      written_here : Bucket
      written_here = record (bucket_at s does.page) { records = records_after does.write (records_at s does.page) }

  same_chain : chain t ≡ chain s
  same_chain = chain-same s t.pages same_bare

  -- another record than the written one is another's, or nobody's
  others : (key : RecordKey) → held old.locks seat (guard_of key) ≢ Some Exclusive → contents t key ≡ contents s key
  others key free = elim (cases_Bool (is_same (key_of does.write) key)) [
    | inr other ↦
        law.contents key
        ∙ ap (λ (b : Bool). if b then value_after does.write else contents s key) other
    | inl same ↦ absurd (free
        (ap (λ (k : RecordKey). held old.locks seat (guard_of k)) (sym (same_is (key_of does.write) key same))
        ∙ does.record_owned))
  ]

  pub KeepsOthers-record : KeepsOthers hash seat old new
  KeepsOthers-record = subst (KeepsOthers hash seat old) (sym does.is) (record {
    sound = record {
      file = law.sound;
      lawful = sound.lawful;
      led = sound.led;
      guarded = λ page there on. sound.guarded page there
          (subst (λ (ns : List ℕ). Contains ns page ⊎ Contains (aside old.change) page) same_chain on);
      standing = λ i page there. elim (sound.standing i page there) [
        | inl reached ↦ inl (stands_led s t old.change old.change page (law.leads page) reached)
        | inr w ↦ inr w
      ];
    };
    leaves = record {
      seats = refl;
      rows = λ i apart. refl;
      pages = λ i n apart w. page_other s does.page n
          (kinds.Bucket (record (bucket_at s does.page)
          { records = records_after does.write (records_at s does.page) }))
          (other_page hash old i seat n does.page sound apart w does.page_owned);
      live = λ i n apart w on. subst (λ (ns : List ℕ). Contains ns n) (sym same_chain) on;
      structure = λ no_writer. record {
        change = refl;
        header = refl;
        entries = refl;
        chain = same_chain;
        pages = same_bare;
      };
      leads = λ i n k apart aim leads. law.leads n k leads;
      depth = λ i apart there. omega arith;
      records = others;
    };
  })

  pub changes_record : ChangesRecord does.write old.store new.store
  changes_record = subst (λ (w : World). ChangesRecord does.write old.store w.store) (sym does.is) law.contents

pub changes_just : (hash : RecordKey → ℕ) (seat : ℕ) (write : RecordWrite) (old new : World) → IsSoundWorld hash old →
    WritesJust hash write seat old new → ChangesRecord write old.store new.store
changes_just hash seat write old new sound does =
    subst (λ (w : RecordWrite). ChangesRecord w old.store new.store) does.write_is
    (changes_record hash seat old sound new does.writes)
