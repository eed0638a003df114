-- The file of a system spells its records and no others, and pages spell one system at most.
use Rattle.std.proofs.Common.{ℕ, ◌≡◌, ◌≢◌, true, false, List, [], ◌∷◌, map, Option, Some, None, refl, sym, ap, subst, ◌∙◌, arith}
use Rattle.std.specs.List.{AllPairs, Contains, find}
use Rattle.std.specs.Option.{option_map}
use Rattle.std.proofs.lemmas.List.Folds.{flat_map-map}
use Rattle.bucket_page.specs.Bucket.{Bucket}
use Rattle.bucket_page.specs.Records.{Pair, lookup}
use Rattle.bucket_page.specs.Spelling.{Spells}
use Rattle.bucket_page.specs.declared.page.PageKind.{PageKind}
use Rattle.bucket_page.specs.declared.page.PageKind.TheVariants as kinds
use Rattle.bucket_page.specs.declared.record_key.RecordKey.{RecordKey}
use Rattle.bucket_page.proofs.PageLaws.{spelled_once}
use Rattle.directory.specs.Links.{Links}
use Rattle.directory.specs.declared.layout.TheConstants.{LAYOUT, ROOT_PAGE}
use Rattle.directory.proofs.HeaderLaws.{is_today}
use Rattle.file_check.specs.Records.{IsLivePage}
use Rattle.file_check.specs.Whole.{HasJust, IsFileOf}
use Rattle.file_check.proofs.RecordLemmas.{live_page}
use Rattle.file_walk.specs.Files.{file_of, payload_on, said_on}
use Rattle.file_walk.proofs.Today.{pages_at}
use Rattle.hash_file.specs.Chain.{contents, pairs, pairs_on}
use Rattle.hash_file.specs.Change.{Quiet}
use Rattle.hash_file.proofs.Contents.{contents_are_pairs}
use Rattle.hash_file.specs.Store.{Store, bucket_at, bucket_of, is_bucket, next_at}
use Rattle.queue_model.proofs.ListLemmas.{find-Some}
use Rattle.queue_model.specs.Lawful.{IsLawful}
use Rattle.queue_model.specs.Rules.{has_id}
use Rattle.queue_model.specs.State.{State}
use Rattle.queue_model.specs.declared.queue.Queue.{Queue}
use Rattle.queue_records.specs.declared.record.Record.{Record}
use Rattle.queue_records.specs.Spelling.{key_of}
use Rattle.record_walk.specs.Held.{Holds}
use Rattle.record_walk.specs.Systems.{HasSystem}
use Rattle.record_walk.specs.Words.{key_of_queue}
use Rattle.record_walk.proofs.OneSystem.{one_system}
use Rattle.type_chains.specs.Image.{image}
use Rattle.type_chains.proofs.Cases.{found_id}
use Rattle.type_chains.proofs.Images.{image_has}
use Rattle.type_chains.proofs.Members.{contains_head, contains_tail, in_map}
use Rattle.type_chains.proofs.Pairs.{all_of}
use Rattle.files_at_rest.specs.Spelled.{AreChained, HasBucket, SpellsSystem, records_of}

-- ---- the file of a system

bucket_is : (page : PageKind) → is_bucket page ≡ true → page ≡ kinds.Bucket (bucket_of page)
bucket_is (kinds.Bucket b) is = refl
bucket_is (kinds.Directory es) is = absurd cc
bucket_is (kinds.Tombstone link) is = absurd cc
bucket_is (kinds.Free next) is = absurd cc

module _ (hash : RecordKey → ℕ) (content : List (List ℕ)) (s : State) (file : IsFileOf hash content s) where
  abbrev st : Store
  st = file_of content

  module _ (n : ℕ) (on : Contains file.chain n) where
    live : IsLivePage LAYOUT content n
    live = live_page LAYOUT is_today content file.chain file.right.structure n on

    said_is : said_on content n ≡ kinds.Bucket (bucket_at st n)
    said_is =
        let there = pages_at content n (kinds.Free 0) live.behind live.within in
        sym there ∙ bucket_is _ live.live

    spells_bucket : Spells (kinds.Bucket (bucket_at st n)) (payload_on content n)
    spells_bucket = subst (λ (page : PageKind). Spells page (payload_on content n)) said_is live.right.spelled

    bucket_on : HasBucket content n (bucket_at st n)
    bucket_on = record {
      behind = live.behind;
      sealed = live.right.sealed;
      in_range = spells_bucket.in_range;
      spelled = spells_bucket.spelled;
    }

  chained : (n : ℕ) (ns : List ℕ) → Links (next_at st) n ns 0 →
      ((m : ℕ) → Contains ns m → HasBucket content m (bucket_at st m)) → AreChained content n (map (bucket_at st) ns)
  chained n [] linked each = linked
  chained n (m ∷ ms) linked each = (
    subst (λ (k : ℕ). HasBucket content k (bucket_at st m)) (sym linked.0) (each m (contains_head m ms)),
    chained (next_at st m) ms linked.1 (λ k on. each k (contains_tail m k ms on)),
  )

  same_pairs : records_of (map (bucket_at st) file.chain) ≡ pairs st
  same_pairs =
      flat_map-map (λ (b : Bucket). b.records) (bucket_at st) file.chain ∙ ap (pairs_on st) (sym file.quiet.chained)

  same : (key : RecordKey) → lookup key (records_of (map (bucket_at st) file.chain)) ≡ contents st key
  same key = ap (lookup key) same_pairs

  pub spells : SpellsSystem content s
  spells = record {
    buckets = map (bucket_at st) file.chain;
    chained = chained ROOT_PAGE file.chain file.right.structure.chain.linked bucket_on;
    once = subst (AllPairs (λ (p q : Pair). p.key ≢ q.key)) (sym same_pairs)
        (contents_are_pairs hash st Quiet file.quiet.sound).distinct;
    lawful = file.system.has.lawful;
    running = file.system.has.running;
    just = record {
      stand = λ key r at.
          let is = file.just.stand key r at in
          (is.0, same key ∙ is.1, is.2);
      others = λ key none. same key ∙ file.just.others key none;
    };
  }

-- ---- one system at most

one_bucket : (content : List (List ℕ)) (n : ℕ) (b c : Bucket) → HasBucket content n b → HasBucket content n c → b ≡ c
one_bucket content n b c first second =
    let same : kinds.Bucket b ≡ kinds.Bucket c = spelled_once (kinds.Bucket b) (kinds.Bucket c) (payload_on content n)
    (record { in_range = first.in_range; spelled = first.spelled })
    (record { in_range = second.in_range; spelled = second.spelled }) in
    cc

-- page 0 is no bucket
never : (content : List (List ℕ)) (n : ℕ) (b : Bucket) → n ≡ 0 → HasBucket content n b → ⊥
never content n b zero is = let behind = is.behind in absurd (omega (arith, zero, behind))

one_chain : (content : List (List ℕ)) (n : ℕ) (bs cs : List Bucket) → AreChained content n bs →
    AreChained content n cs → bs ≡ cs
one_chain content n [] [] first second = refl
one_chain content n [] (c ∷ cs) first second = absurd (never content n c first second.0)
one_chain content n (b ∷ bs) [] first second = absurd (never content n b second first.0)
one_chain content n (b ∷ bs) (c ∷ cs) first second =
    let same : b ≡ c = one_bucket content n b c first.0 second.0 in
    let rest : bs ≡ cs = one_chain content b.next bs cs first.1
    (subst (λ (x : Bucket). AreChained content x.next cs) (sym same) second.1) in
    λ i. same i ∷ rest i

-- records that are just those of a lawful system are all of it
module _ (held : RecordKey → Option (List ℕ)) (s : State) (lawful : IsLawful s) (running : s.stopped ≡ false)
    (just : HasJust held s) where
  stands : (r : Record) → Contains (image s) r → Holds held r
  stands r on =
      let is = just.stand (key_of r) r (image_has s lawful r on) in
      record { value = is.0; found = is.1; spelled = is.2 }

  counted : (id : ℕ) → held (key_of_queue id) ≢ None → Contains (map (λ (q : Queue). q.id) s.queues) id
  counted id there = by_queue (find (has_id id) s.queues) refl
    where
      by_queue : (o : Option Queue) → find (has_id id) s.queues ≡ o → Contains (map (λ (q : Queue). q.id) s.queues) id
      by_queue None e = absurd (there (just.others (key_of_queue id) (ap (option_map _) e)))
      by_queue (Some q) e =
          subst (Contains (map (λ (q : Queue). q.id) s.queues)) (found_id s id q e)
          (in_map (λ (q : Queue). q.id) s.queues q (find-Some (has_id id) s.queues q e).1)

  has_system : HasSystem held s
  has_system = record {
    lawful = lawful;
    running = running;
    stand = all_of (Holds held) (image s) stands;
    queues = counted;
  }

pub spells_one : (content : List (List ℕ)) (s t : State) → SpellsSystem content s → SpellsSystem content t → t ≡ s
spells_one content s t first second =
    let same : second.buckets ≡ first.buckets =
    one_chain content ROOT_PAGE second.buckets first.buckets second.chained first.chained in
    one_system (λ key. lookup key (records_of first.buckets)) s
    (has_system _ s first.lawful first.running first.just) t
    (has_system _ t second.lawful second.running
    (subst (λ (bs : List Bucket). HasJust (λ key. lookup key (records_of bs)) t) same second.just))
