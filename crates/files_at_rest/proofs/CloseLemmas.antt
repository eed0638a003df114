-- A file at rest, once it is flushed, has the pages of a file that is checked.
use Rattle.std.proofs.Common.{ℕ, ◌≡◌, ◌≢◌, ◌<◌, ◌≤◌, Bool, true, false, List, [], length, map, Option, Some, None, refl, sym, ap, subst, ◌∙◌, inl, inr, arith}
use Rattle.std.specs.Prelude.{IfSome}
use Rattle.std.specs.List.{Contains, find}
use Rattle.std.specs.Option.{option_map}
use Rattle.std.proofs.lemmas.Bool.{cases_lt}
use Rattle.std.proofs.lemmas.List.Elements.{All-contains}
use Rattle.page_device.specs.Sealed.{IsSealed}
use Rattle.buffer_pool.specs.Pool.{payloads_of}
use Rattle.directory.specs.declared.layout.TheConstants.{FIRST_DIRECTORY_PAGE, ROOT_PAGE}
use Rattle.directory.specs.Pages.{entries_at}
use Rattle.directory.specs.Reading as header
use Rattle.directory.specs.Spelling.{SpellsHeader}
use Rattle.directory.proofs.HeaderLaws.{spelled_reads}
use Rattle.bucket_page.specs.declared.record_key.RecordKey.{RecordKey}
use Rattle.bucket_page.specs.declared.page.PageKind.{PageKind}
use Rattle.bucket_page.specs.declared.page.PageKind.TheVariants as kinds
use Rattle.bucket_page.specs.Bucket.{Bucket}
use Rattle.bucket_page.specs.Reading.{page_in}
use Rattle.bucket_page.specs.Records.{Pair}
use Rattle.bucket_page.specs.Spelling.{Spells}
use Rattle.directory.specs.Ranges.{Covers}
use Rattle.directory.proofs.MemberLaws.{contains_none}
use Rattle.queue_model.specs.Lawful.{IsLawful}
use Rattle.queue_model.specs.Rules.{has_id}
use Rattle.queue_model.specs.State.{State}
use Rattle.queue_model.specs.declared.queue.Queue.{Queue}
use Rattle.queue_model.proofs.ListLemmas.{find-Some}
use Rattle.queue_records.specs.declared.record.Record.{Record}
use Rattle.queue_records.specs.Records.{SpellsRecord}
use Rattle.queue_records.specs.Spelling.{key_of, value_of}
use Rattle.hash_file.specs.Store.{Store, bucket_at, is_bucket, page_at, range_of, records_at}
use Rattle.hash_file.specs.Chain.{IsPlaced, chain, contents, pairs_on}
use Rattle.hash_file.specs.Change.{Quiet}
use Rattle.hash_file.specs.Sound.{IsFreeList, IsSoundFile}
use Rattle.hash_file.specs.Words.{First, HasOneRole, IsOneOf, Second, Third}
use Rattle.hash_file.proofs.Contents.{contents_are_pairs}
use Rattle.hash_file.proofs.Ties.{roles_are_one}
use Rattle.record_file.specs.file_pages.Files.{SpellsFile, store_of}
use Rattle.type_chains.specs.Image.{image as image_of}
use Rattle.type_chains.specs.RecordOf.{record_of}
use Rattle.type_chains.proofs.Cases.{found_id}
use Rattle.type_chains.proofs.Images.{image_has}
use Rattle.type_chains.proofs.Members.{in_flat_map, in_map}
use Rattle.type_chains.proofs.Pairs.{all_of}
use Rattle.file_walk.specs.Files.{file_of, header_on, page_on, payload_on}
use Rattle.file_walk.specs.Laws.{IsQuietFile}
use Rattle.file_walk.specs.Order.{HasHeader, IsRightPage, is_directory}
use Rattle.file_walk.specs.Structure.{IsRightStructure}
use Rattle.file_walk.proofs.Today.{may_below}
use Rattle.file_walk.proofs.Today.{pages_at, pages_length}
use Rattle.file_walk.proofs.Today.{structure_sound}
use Rattle.record_walk.specs.Held.{Holds}
use Rattle.record_walk.specs.Systems.{HasSystem}
use Rattle.record_walk.specs.Words.{key_of_queue}
use Rattle.record_walk.proofs.OneSystem.{one_system}
use Rattle.file_check.specs.Records.{AreRightIn, AreRightRecords, IsRecord, IsRightRecord}
use Rattle.file_check.specs.Whole.{IsFileOf}
use Rattle.files_at_rest.proofs.PageLemmas.{is_right, may_behind, said_is}
use Rattle.files_at_rest.proofs.OpenedSameLemmas.{chain_back, contents_same, index_back, placed_back, spares_back}
use Rattle.files_at_rest.proofs.StoredLemmas.{image_is, images_are, long, says_same, shown, spells_directory, store_is}
use Rattle.files_at_rest.specs.OpenedLaws.{ClosesAtRest, restarted}

bucket_is_other : (p : PageKind) → is_bucket p ≡ true → is_directory p ≡ false
bucket_is_other (kinds.Bucket b) is = refl
bucket_is_other (kinds.Directory es) is = absurd cc
bucket_is_other (kinds.Tombstone link) is = absurd cc
bucket_is_other (kinds.Free next) is = absurd cc

-- ---- sealed pages that spell a sound file have a right structure

module _ (hash : RecordKey → ℕ) (content : List (List ℕ)) (file : SpellsFile (payloads_of content))
    (sealed : (n : ℕ) → n < length content → IsSealed n (page_on content n))
    (sound : IsSoundFile hash (store_of (payloads_of content)) Quiet) where
  sound_too : IsSoundFile hash (shown content) Quiet
  sound_too = subst (λ (x : Store). IsSoundFile hash x Quiet) (store_is content) sound

  abbrev ns : List ℕ
  ns = chain (shown content)

  pages_are_as_many : length (shown content).pages ≡ length content
  pages_are_as_many = (says_same content file).many ∙ pages_length content (omega (arith, long content file))

  header_right : HasHeader content
  unfolding header_on
  header_right =
      let it : SpellsHeader (header.header_at (payload_on content 0)) (payload_on content 0) =
      subst (λ (p : List ℕ). SpellsHeader (header.header_at p) p) (image_is content 0) file.header in
      record {
        sealed = sealed 0 (omega (arith, long content file));
        read = spelled_reads (header.header_at (payload_on content 0)) (payload_on content 0) it;
        in_range = it.in_range;
        spelled = it.spelled;
        as_many = sym sound_too.layout.pages ∙ pages_are_as_many;
      }

  -- from the root on stand buckets and free pages
  no_directory : (n : ℕ) → ROOT_PAGE ≤ n → n < length content → is_directory (page_at (shown content) n) ≡ false
  no_directory n behind within = of_role (roles_are_one hash (shown content) Quiet sound_too)
    where
      inside : n < length (shown content).pages
      inside = subst (λ k. n < k) (sym pages_are_as_many) within

      of_role : (spares : List ℕ) × IsFreeList (shown content) spares × HasOneRole (shown content) Quiet spares →
          is_directory (page_at (shown content) n) ≡ false
      of_role (spares, spared, role) = by_role (role.each n behind inside)
        where
          by_role : IsOneOf (Contains (chain (shown content)) n) (Contains spares n) (Contains [] n) →
              is_directory (page_at (shown content) n) ≡ false
          by_role (First live one two) = bucket_is_other (page_at (shown content) n) (sound_too.chained.buckets n live)
          by_role (Second free one two) = ap is_directory (spared.free n free)
          by_role (Third owns one two) = absurd (contains_none n owns)

  says_page : (n : ℕ) → ROOT_PAGE ≤ n → n < length content → page_at (shown content) n ≡ page_in (payload_on content n)
  says_page n behind within =
      (says_same content file).pages n behind ∙ pages_at content n (kinds.Free 0) behind within ∙ said_is content n

  right_page : (n : ℕ) → FIRST_DIRECTORY_PAGE ≤ n → n < length content → IsRightPage content n
  right_page n first within = elim (cases_lt n ROOT_PAGE) [
    | inl low ↦
        is_right content n (kinds.Directory (entries_at (payload_on content n)))
        (spells_directory content file n first (omega (arith, low))) (sealed n within)
        (may_below n (kinds.Directory (entries_at (payload_on content n))) true low refl)
    | inr behind ↦
        is_right content n (page_in (payload_on content n))
        (subst (λ (p : List ℕ). Spells (page_in p) p) (image_is content n)
        (file.spelled n behind (subst (λ k. n < k) (sym (images_are content)) within))) (sealed n within)
        (may_behind n (page_in (payload_on content n)) behind
        (ap is_directory (sym (says_page n behind within)) ∙ no_directory n behind within))
  ]

  structure : IsRightStructure content ns
  structure = record {
    pages = record { header = header_right; pages = right_page };
    chain = chain_back (file_of content) (shown content).entries (shown content).pages (says_same content file) hash
        sound_too;
    spares = spares_back (file_of content) (shown content).entries (shown content).pages (says_same content file) hash
        sound_too;
    index = index_back (file_of content) (shown content).entries (shown content).pages (says_same content file) hash
        sound_too;
  }

  quiet : IsQuietFile hash (file_of content) ns
  quiet = structure_sound hash content ns structure
      (placed_back (file_of content) (shown content).entries (shown content).pages (says_same content file) hash
      sound_too)

  placed : (n : ℕ) → Contains ns n → IsPlaced hash (bucket_at (file_of content) n)
  placed = placed_back (file_of content) (shown content).entries (shown content).pages (says_same content file) hash
      sound_too

  -- a record on a page of the chain is what the file holds at its key
  on_held : (n : ℕ) (p : Pair) → Contains ns n → Contains (records_at (file_of content) n) p →
      contents (file_of content) p.key ≡ Some p.value
  on_held n p on stands =
      ((contents_are_pairs hash (file_of content) Quiet quiet.sound).pairs p.key p.value).1
      (subst (λ (ms : List ℕ). Contains (pairs_on (file_of content) ms) p) (sym quiet.chained)
      (in_flat_map (records_at (file_of content)) ns n p on stands))

  -- ---- and where it holds exactly the records of a system, it is the file of that system

  module _ (s : State) (lawful : IsLawful s) (running : s.stopped ≡ false)
      (holds : (key : RecordKey) → contents (store_of (payloads_of content)) key
      ≡ option_map value_of (record_of s key))
      (spelled : (key : RecordKey) → IfSome (record_of s key) (λ (r : Record). SpellsRecord r key (value_of r))) where
    abbrev held : RecordKey → Option (List ℕ)
    held = contents (file_of content)

    holds_too : (key : RecordKey) → held key ≡ option_map value_of (record_of s key)
    holds_too key =
        sym (contents_same (file_of content) (shown content).entries (shown content).pages (says_same content file) key)
        ∙ sym (ap (λ (x : Store). contents x key) (store_is content)) ∙ holds key

    spelled_at : (key : RecordKey) (r : Record) → record_of s key ≡ Some r → SpellsRecord r key (value_of r)
    spelled_at key r at =
        subst (λ (o : Option Record). IfSome o (λ (x : Record). SpellsRecord x key (value_of x))) at (spelled key)

    held_at : (key : RecordKey) (r : Record) → record_of s key ≡ Some r → held key ≡ Some (value_of r)
    held_at key r at = holds_too key ∙ ap (option_map value_of) at

    none_at : (key : RecordKey) → record_of s key ≡ None → held key ≡ None
    none_at key none = holds_too key ∙ ap (option_map value_of) none

    is_record : (p : Pair) → held p.key ≡ Some p.value → IsRecord p
    is_record p found = by_record (record_of s p.key) refl (sym (holds_too p.key) ∙ found)
      where
        by_record : (o : Option Record) → record_of s p.key ≡ o → option_map value_of o ≡ Some p.value → IsRecord p
        by_record None at e = absurd cc
        by_record (Some r) at e =
            let same : value_of r ≡ p.value = cc in
            (r, subst (SpellsRecord r p.key) same (spelled_at p.key r at))

    right_records : AreRightRecords hash (file_of content) ns
    right_records = all_of (AreRightIn hash (file_of content)) ns (λ n on.
        let b : Bucket = bucket_at (file_of content) n in
        all_of (IsRightRecord hash b) b.records (λ p there. record {
          at_home = All-contains (λ (q : Pair). Covers (range_of b) (hash q.key)) b.records p (placed n on).within
              there;
          spelled = is_record p (on_held n p on there);
        }))

    stands : (r : Record) → Contains (image_of s) r → Holds held r
    stands r on =
        let at = image_has s lawful r on in
        record { value = value_of r; found = held_at (key_of r) r at; spelled = spelled_at (key_of r) r at }

    counted : (id : ℕ) → held (key_of_queue id) ≢ None → Contains (map (λ (q : Queue). q.id) s.queues) id
    counted id there = by_queue (find (has_id id) s.queues) refl
      where
        by_queue : (o : Option Queue) → find (has_id id) s.queues ≡ o →
            Contains (map (λ (q : Queue). q.id) s.queues) id
        by_queue None e = absurd (there (none_at (key_of_queue id) (ap (option_map _) e)))
        by_queue (Some q) e =
            subst (Contains (map (λ (q : Queue). q.id) s.queues)) (found_id s id q e)
            (in_map (λ (q : Queue). q.id) s.queues q (find-Some (has_id id) s.queues q e).1)

    has : HasSystem held s
    has = record {
      lawful = lawful;
      running = running;
      stand = all_of (Holds held) (image_of s) stands;
      queues = counted;
    }

    pub is_file : IsFileOf hash content s
    is_file = record {
      chain = ns;
      right = record { structure = structure; records = right_records };
      quiet = quiet;
      system = record { has = has; only = one_system held s has };
      just = record { stand = λ key r at. (value_of r, held_at key r at, spelled_at key r at); others = none_at };
    }

-- ---- with another stop mark

pub lawful_still : (s : State) (stopped : Bool) → IsLawful s → IsLawful (record s { stopped = stopped })
lawful_still s stopped l = record {
  few_queues = l.few_queues;
  id_begun = l.id_begun;
  ids_end = l.ids_end;
  queues_lawful = l.queues_lawful;
  ids_given = l.ids_given;
  ids_ascend = l.ids_ascend;
  keys_apart = l.keys_apart;
}

pub closes_at_rest : ClosesAtRest
closes_at_rest hash s old new locks rest flushed =
    let many : length new.stored ≡ length old.images = sym (images_are new.stored) ∙ ap length flushed.written in
    is_file hash new.stored (subst SpellsFile (sym flushed.written) rest.file.file)
    (λ n within. flushed.keeps.seals rest.honest refl n
    (rest.file.sealed n (subst (λ k. n < k) many within)))
    (subst (λ (images : List (List ℕ)). IsSoundFile hash (store_of images) Quiet) (sym flushed.written) rest.sound.file)
    (restarted s) (lawful_still s false rest.filed.lawful) refl
    (λ key. ap (λ (images : List (List ℕ)). contents (store_of images) key) flushed.written ∙ rest.holds key)
    rest.spelled
