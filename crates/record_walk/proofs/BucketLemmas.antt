-- The bucket that the directory names for a pseudokey has what the file holds.
use Rattle.std.proofs.Common.{ℕ, ◌≡◌, ◌<◌, ◌≤◌, ◌⊎◌, ◌%◌, ◌^◌, List, length, sym, ap, subst, ◌∙◌, inl, inr, arith}
use Rattle.std.proofs.lemmas.Nat.{mod_below, pow_pos}
use Rattle.std.proofs.lemmas.List.{get_or-take}
use Rattle.file_walk.specs.Structure.{IsRightStructureIn}
use Rattle.file_walk.proofs.SoundLemmas.{structure_sound}
use Rattle.hash_file.specs.Chain.{IsBucketOn, IsChain, pairs_on}
use Rattle.hash_file.specs.Store.{range_at}
use Rattle.hash_file.proofs.Lookups.{look_at}
use Rattle.page_device.specs.Sealed.{payload_of}
use Rattle.directory.proofs.PartitionLaws.{partition_tiles}
use Rattle.directory.proofs.RangeLaws.{covers_truncated}
use Rattle.record_walk.specs.Answers.{AnswersFor, entry_for}
use Rattle.record_walk.specs.Files.{HasRecords, IsRecord}
use Rattle.record_walk.specs.Versions.{found_in, held_in}
use Rattle.record_walk.specs.LookupWords.{IsLayout, IsOfMachine, Layout, RecordKey, SpellsRecord, Store, WalkFault, bucket_at, contents, entry_at, file_in, lookup, payload_on, records_at}
use Rattle.record_walk.proofs.PageLemmas.{looked_up, read_as, within}
use Rattle.record_walk.proofs.VersionLemmas.{found_back, held_is}

-- ---- the bucket of a key

module _ (l : Layout) (laid : IsLayout l) (hash : RecordKey → ℕ) (content : List (List ℕ)) (outline : Store)
    (h : HasRecords l hash content outline) (key : RecordKey) where
  abbrev s : Store
  s = file_in l content

  abbrev n : ℕ
  n = entry_for outline (hash key)

  abbrev right : IsRightStructureIn l content h.chain
  right = h.structure.right

  below : hash key % 2 ^ s.header.depth < 2 ^ s.header.depth
  below = mod_below (hash key) (2 ^ s.header.depth) (pow_pos s.header.depth)

  named : n ≡ entry_at s (hash key % 2 ^ s.header.depth)
  named =
      ap (λ (o : Store). entry_for o (hash key)) h.structure.outline_is
      ∙ get_or-take (2 ^ s.header.depth) s.entries (hash key % 2 ^ s.header.depth) 0 below

  -- the directory names the bucket whose range has the pseudokey
  its_bucket : IsBucketOn s h.chain (hash key) n
  its_bucket =
      let i : ℕ = hash key % 2 ^ s.header.depth in
      let at : IsBucketOn s h.chain i n = subst (IsBucketOn s h.chain i) (sym named) (right.index.entries i below) in
      (at.0, (covers_truncated (range_at s n) s.header.depth (hash key) (right.index.shallow n at.0)).0 at.1)

  chained : IsChain s h.chain
  chained = record {
    linked = right.chain.linked;
    tiled = partition_tiles (range_at s) h.chain right.chain.partition;
    buckets = right.chain.buckets;
    shallow = right.index.shallow;
  }

  -- which has of the key what the file holds
  held_here : contents s key ≡ lookup key (records_at s n)
  held_here =
      let quiet = structure_sound l laid hash content h.chain right h.placed in
      ap (λ (ns : List ℕ). lookup key (pairs_on s ns)) quiet.chained
      ∙ look_at hash s key h.chain n chained h.placed its_bucket

module _ (l : Layout) (laid : IsLayout l) (hash : RecordKey → ℕ) (content : List (List ℕ)) (outline : Store)
    (h : HasRecords l hash content outline) (key : RecordKey) (m : ℕ) (is : m ≡ entry_for outline (hash key)) where
  -- so its page answers for the key
  pub named_answers : (page : List ℕ) → payload_of page ≡ payload_on content m →
      AnswersFor l (held_in l (file_in l content)) key page
  named_answers page same =
      let n : ℕ = entry_for outline (hash key) in
      let on = its_bucket l laid hash content outline h key in
      let here = held_here l laid hash content outline h key in
      record {
        bucket = bucket_at (file_in l content) n;
        read = read_as l laid content h.chain h.structure.right n on.0 (payload_of page)
            (same ∙ ap (payload_on content) is);
        value = sym (held_is l (file_in l content) key ∙ ap (found_in l key) here);
        spelled = λ value held.
            let raw = found_back l key (contents (file_in l content) key) value
            (sym (held_is l (file_in l content) key) ∙ held) in
            let r = looked_up (IsRecord l) key raw.0 (records_at (file_in l content) n) (h.spelled n on.0)
            (sym here ∙ raw.1) in
            (r.0, subst (SpellsRecord r.0 key) raw.2 r.1);
      }

  -- and it is no page past the end
  pub named_within : (fault : WalkFault) → IsOfMachine fault ⊎ (length content ≤ m) → IsOfMachine fault
  named_within fault (inl machine) = machine
  named_within fault (inr past) =
      let on = its_bucket l laid hash content outline h key in
      let there = within l laid content h.chain h.structure.right (entry_for outline (hash key)) on.0 in
      absurd (omega (arith, is, there, past))
