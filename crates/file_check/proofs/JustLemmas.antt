-- A file of which a system needs each record has exactly the records of that system, and then none is stray.
use Rattle.std.proofs.Common.{ℕ, ◌≡◌, List, [], Option, Some, None, refl, sym, subst, ◌∙◌}
use Rattle.std.specs.List.{Contains}
use Rattle.std.specs.Prelude.{slice_index, slice_index_or}
use Rattle.std.proofs.lemmas.List.{get_or_default}
use Rattle.std.proofs.lemmas.List.Elements.{All-contains}
use Rattle.bucket_page.specs.Records.{pair}
use Rattle.file_walk.specs.Laws.{IsQuietFile}
use Rattle.hash_file.proofs.Contents.{contents_are_pairs}
use Rattle.hash_file.specs.Change.{Quiet}
use Rattle.record_walk.specs.Held.{Holds}
use Rattle.record_walk.specs.Systems.{HasSystem}
use Rattle.type_chains.specs.Image.{image}
use Rattle.type_chains.specs.RecordOf.{record_of}
use Rattle.type_chains.proofs.Images.{image_agrees}
use Rattle.type_chains.proofs.Members.{from_flat_map, in_flat_map}
use Rattle.file_check.specs.declared.fault.CheckFault.TheVariants as faults
use Rattle.file_check.specs.Strays.{AreNeeded, IsFirstStray, IsNeeded, IsStrayIn}
use Rattle.file_check.specs.Whole.{HasJust}
use Rattle.record_walk.proofs.VersionLemmas.{held_none, held_some}
use Rattle.file_check.specs.Words.{CheckFault, Layout, Pair, Record, RecordKey, SpellsRecord, State, Store, bucket_at, contents, held_in, pairs_on, records_at}
use Rattle.file_check.proofs.RecordLemmas.{stands_on}

-- ---- exactly the records of a system

-- a record that the system has at a key stands there
has_each : (held : RecordKey → Option (List ℕ)) (s : State) → HasSystem held s → (key : RecordKey) (r : Record) →
    record_of s key ≡ Some r → (value : List ℕ) × (held key ≡ Some value) × SpellsRecord r key value
has_each held s has key r at =
    let in_image = (image_agrees s has.lawful key r).0 at in
    let stands : Holds held r = All-contains (Holds held) (image s) r has.stand in_image.0 in (
      stands.value,
      subst (λ (k : RecordKey). held k ≡ Some stands.value) in_image.1 stands.found,
      subst (λ (k : RecordKey). SpellsRecord r k stands.value) in_image.1 stands.spelled,
    )

module _ (l : Layout) (hash : RecordKey → ℕ) (st : Store) (ns : List ℕ) (quiet : IsQuietFile hash st ns) where
  -- what is held at a key is a record on a page of the chain
  held_on : (key : RecordKey) (value : List ℕ) → contents st key ≡ Some value →
      (n : ℕ) × Contains ns n × Contains (records_at st n) (pair key value)
  held_on key value found =
      let on = ((contents_are_pairs hash st Quiet quiet.sound).pairs key value).0 found in
      from_flat_map (records_at st) ns (pair key value)
      (subst (λ ms. Contains (pairs_on st ms) (pair key value)) quiet.chained on)

  -- and such a record is held at its key
  on_held : (n : ℕ) (p : Pair) → Contains ns n → Contains (records_at st n) p → contents st p.key ≡ Some p.value
  on_held n p on stands =
      ((contents_are_pairs hash st Quiet quiet.sound).pairs p.key p.value).1
      (subst (λ ms. Contains (pairs_on st ms) p) (sym quiet.chained) (in_flat_map (records_at st) ns n p on stands))

  -- where the system needs all of them, nothing stands at another key
  no_other : (s : State) → AreNeeded s st ns → (key : RecordKey) → record_of s key ≡ None → held_in l st key ≡ None
  no_other s needed key none = by_value (contents st key) refl
    where
      by_value : (o : Option (List ℕ)) → contents st key ≡ o → held_in l st key ≡ None
      by_value None e = held_none l st key e
      by_value (Some value) e =
          let (n, on, stands) = held_on key value e in
          let there = All-contains (λ (m : ℕ). (p : Pair) → Contains (records_at st m) p → IsNeeded s p) ns n
          (λ k d within p has. All-contains (IsNeeded s) (records_at st (slice_index_or ns k d)) p
          (needed k d within) has) on in
          absurd (there (pair key value) stands none)

  pub has_just : (s : State) → HasSystem (held_in l st) s → AreNeeded s st ns → HasJust (held_in l st) s
  has_just s has needed = record { stand = has_each (held_in l st) s has; others = no_other s needed }

  -- and then none is stray
  pub none_stray : (s : State) (fault : CheckFault) → HasJust (held_in l st) s → IsFirstStray s st ns fault → ⊥
  none_stray s fault just w = by_fault fault w.stray
    where
      n : ℕ
      n = slice_index ns w.place

      by_fault : (fault : CheckFault) → IsStrayIn s (bucket_at st n) n fault → ⊥
      by_fault (faults.Stray p kind queue number) h =
          let d : Pair = pair (record { kind = kind; queue = queue; number = number }) [] in
          let q : Pair = slice_index_or (records_at st n) h.1.slot d in
          let stands : Contains (records_at st n) q =
          (h.1.slot, h.1.within, get_or_default (records_at st n) h.1.slot q d h.1.within) in
          let held = on_held n q (stands_on ns w.place w.within) stands in
          let clash = sym (held_some l st q.key q.value held) ∙ just.others q.key (h.1.wrong d) in
          absurd cc
      by_fault fault h = absurd h
