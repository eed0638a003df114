-- The pages of a file that was checked are a file at rest when they are opened.
use Rattle.std.proofs.Common.{ℕ, zero, suc, ◌≡◌, ◌<◌, ◌≤◌, true, List, [], length, replicate, Option, Some, None, refl, sym, ap, subst, ◌∙◌, arith}
use Rattle.std.specs.Prelude.{IfSome, IsSome}
use Rattle.std.specs.Option.{option_map}
use Rattle.page_device.specs.Sealed.{IsSealed}
use Rattle.buffer_pool.specs.Pool.{payloads_of}
use Rattle.directory.specs.declared.layout.TheConstants.{LEAST_PAGES}
use Rattle.directory.specs.Pages.{IsDirectoryPage}
use Rattle.directory.specs.Reading.{header_at}
use Rattle.directory.specs.Spelling.{SpellsHeader}
use Rattle.bucket_page.specs.declared.record_key.RecordKey.{RecordKey}
use Rattle.bucket_page.specs.declared.page.PageKind.{PageKind}
use Rattle.bucket_page.specs.declared.page.PageKind.TheVariants as kinds
use Rattle.bucket_page.specs.Reading.{page_in}
use Rattle.bucket_page.specs.Spelling.{Spells}
use Rattle.bucket_page.proofs.PageLaws.{directory_page}
use Rattle.page_locks.specs.declared.lock.Lock.{Lock}
use Rattle.page_locks.specs.declared.lock.LockName.{LockName}
use Rattle.page_locks.specs.declared.lock_table.TheConstants.{MAX_SEATS}
use Rattle.page_locks.specs.Locks.{kind_of}
use Rattle.page_locks.proofs.TableLemmas.{IsLawful-empty, row_of-empty}
use Rattle.directory.proofs.MemberLaws.{contains_none}
use Rattle.queue_model.specs.State.{State}
use Rattle.queue_records.specs.declared.record.Record.{Record}
use Rattle.queue_records.specs.Records.{SpellsRecord}
use Rattle.queue_records.specs.Spelling.{value_of}
use Rattle.hash_file.specs.Store.{Store}
use Rattle.hash_file.specs.Chain.{contents}
use Rattle.hash_file.specs.Change.{Quiet}
use Rattle.hash_file.specs.Sound.{IsSoundFile}
use Rattle.hash_file.proofs.Ties.{quiet_exact}
use Rattle.record_file.specs.step_rules.World.{IsHeld}
use Rattle.record_file.specs.step_rules.Sound.{IsSoundWorld}
use Rattle.record_file.specs.file_pages.Files.{SpellsFile, store_of}
use Rattle.record_file.specs.stale_search.Steps.{world}
use Rattle.type_chains.specs.RecordOf.{record_of}
use Rattle.type_chains.proofs.Spelled.{spelled}
use Rattle.file_walk.specs.Files.{file_of, header_on, page_on, payload_on, said_on}
use Rattle.file_walk.specs.Order.{IsRightPage, is_directory}
use Rattle.file_walk.specs.Structure.{HasPages}
use Rattle.file_walk.proofs.Today.{right_directory}
use Rattle.record_walk.proofs.OneSystem.{numbers_fit}
use Rattle.file_check.specs.Whole.{IsFileOf}
use Rattle.files_at_rest.proofs.PageLemmas.{said_is}
use Rattle.xsi_inquiry.specs.Telling.{IsFiled}
use Rattle.files_at_rest.proofs.OpenedSameLemmas.{contents_same, sound_same}
use Rattle.files_at_rest.proofs.StoredLemmas.{image_is, images_are, room, says_same, shown, store_is}
use Rattle.files_at_rest.specs.OpenedLaws.{OpensAtRest}

-- ---- pages that are right spell a file

module _ (content : List (List ℕ)) (pages : HasPages content) where
  abbrev IsHeaderPage : List ℕ → Type 0
  IsHeaderPage payload = SpellsHeader (header_at payload) payload

  header_spelled : IsHeaderPage (payload_on content 0)
  unfolding header_on
  header_spelled = record { in_range = pages.header.in_range; spelled = pages.header.spelled }

  least : LEAST_PAGES ≤ length content
  least = let low = pages.header.in_range.least in let many = pages.header.as_many in omega (arith, low, many)

  of_directory : (page : PageKind) (payload : List ℕ) → Spells page payload → is_directory page ≡ true →
      IsDirectoryPage payload
  of_directory (kinds.Directory es) payload it is = directory_page es payload it
  of_directory (kinds.Bucket b) payload it is = absurd cc
  of_directory (kinds.Tombstone link) payload it is = absurd cc
  of_directory (kinds.Free next) payload it is = absurd cc

  right_at : (n : ℕ) → 1 ≤ n → n < length content → IsRightPage content n
  right_at n behind within = pages.pages n behind within

  pub spells_file : SpellsFile (payloads_of content)
  spells_file = record {
    least = omega (arith, least, images_are content);
    header = subst IsHeaderPage (sym (image_is content 0)) header_spelled;
    directory = λ n behind within.
        let right : IsRightPage content n = right_at n behind (omega (arith, within, least)) in
        subst IsDirectoryPage (sym (image_is content n))
        (of_directory (said_on content n) (payload_on content n) right.spelled
        (right_directory content n (omega (arith, within)) right));
    spelled = λ n behind within.
        let inside : n < length content = omega (arith, within, images_are content) in
        let right : IsRightPage content n = right_at n (omega (arith, behind)) inside in
        subst (λ (payload : List ℕ). Spells (page_in payload) payload) (sym (image_is content n))
        (subst (λ (page : PageKind). Spells page (payload_on content n)) (said_is content n) right.spelled);
  }

  pub sealed_at : (n : ℕ) → n < length content → IsSealed n (page_on content n)
  sealed_at zero within = pages.header.sealed
  sealed_at (suc n) within = (right_at (suc n) (omega arith) within).sealed

-- ---- and the file in the pool is that of the pages

module _ (hash : RecordKey → ℕ) (content : List (List ℕ)) (s : State) (file : IsFileOf hash content s) where
  spells : SpellsFile (payloads_of content)
  spells = spells_file content file.right.structure.pages

  pub stored_sound : IsSoundFile hash (store_of (payloads_of content)) Quiet
  stored_sound = subst (λ (x : Store). IsSoundFile hash x Quiet) (sym (store_is content))
      (sound_same (file_of content) (shown content).entries (shown content).pages (says_same content spells) hash
      file.quiet.sound (room content spells))

  pub stored_contents : (key : RecordKey) → contents (store_of (payloads_of content)) key
      ≡ contents (file_of content) key
  stored_contents key = ap (λ (x : Store). contents x key) (store_is content)
      ∙ contents_same (file_of content) (shown content).entries (shown content).pages (says_same content spells) key

  values : (key : RecordKey) → contents (file_of content) key ≡ option_map value_of (record_of s key)
  values key = by_record (record_of s key) refl
    where
      by_record : (o : Option Record) → record_of s key ≡ o → contents (file_of content) key ≡ option_map value_of o
      by_record None at = file.just.others key at
      by_record (Some r) at =
          let (value, found, is) = file.just.stand key r at in
          found ∙ ap (λ (v : List ℕ). Some v) is.spelled

  filed : IsFiled s
  filed = record {
    lawful = file.system.has.lawful;
    fits = numbers_fit (contents (file_of content)) s file.system.has;
  }

  spelled_at : (key : RecordKey) → IfSome (record_of s key) (λ (r : Record). SpellsRecord r key (value_of r))
  spelled_at key = by_record (record_of s key) refl
    where
      by_record : (o : Option Record) → record_of s key ≡ o → IfSome o (λ (r : Record). SpellsRecord r key (value_of r))
      by_record None at = tt
      by_record (Some r) at = spelled s key r filed.lawful filed.fits at

-- ---- no seat of a new table holds anything

not_held : (seats seat : ℕ) (name : LockName) → IsHeld (replicate seats []) seat name → ⊥
not_held seats seat name holds =
    let none : IsSome (kind_of [] name) =
    subst (λ (row : List Lock). IsSome (kind_of row name)) (row_of-empty seats seat) holds in
    absurd cc

new_world : (hash : RecordKey → ℕ) (images : List (List ℕ)) (seats : ℕ) → IsSoundFile hash (store_of images) Quiet →
    1 ≤ seats → seats ≤ MAX_SEATS → IsSoundWorld hash (world images (replicate seats []) Quiet)
new_world hash images seats sound some few = record {
  file = sound;
  lawful = IsLawful-empty seats some few;
  led = λ none. refl;
  guarded = λ page busy reached. absurd (contains_none page busy);
  standing = λ seat page holds. absurd (not_held seats seat _ holds);
}

pub opens_at_rest : OpensAtRest
opens_at_rest hash content s frames seats faults honest synced file true_to_it some few = record {
  rest = record {
    honest = true_to_it;
    file = record {
      file = spells hash content s file;
      sealed = λ n within. sealed_at content file.right.structure.pages n
          (subst (λ k. n < k) (images_are content) within);
    };
    sound = new_world hash (payloads_of content) seats (stored_sound hash content s file) some few;
    exact = quiet_exact hash (store_of (payloads_of content)) (stored_sound hash content s file);
    free = row_of-empty seats;
    filed = filed hash content s file;
    holds = λ key. stored_contents hash content s file key ∙ values hash content s file key;
    spelled = spelled_at hash content s file;
  };
  running = file.system.has.running;
}
