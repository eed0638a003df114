-- A right file whose one bucket has the records of a system is the file of that system.
use Rattle.std.proofs.Common.{ℕ, ◌≡◌, ◌≢◌, true, false, List, [], ◌∷◌, map, Option, Some, None, refl, sym, ap, subst, ◌∙◌, inl, inr, arith}
use Rattle.bucket_page.specs.declared.page.PageKind.TheVariants as kinds
use Rattle.file_check.specs.Records.{AreRightIn, AreRightRecords, IsRecord, IsRightRecord}
use Rattle.file_check.specs.Whole.{IsFileOf}
use Rattle.file_check.specs.Words.{IsPlaced, IsRightStructure, Pair, Record, RecordKey, SpellsRecord, State, bucket_at, contents, file_of, pairs_on, records_at}
use Rattle.files_at_rest.proofs.Names.{All, All-cons, All-nil, Contains, HasSystem, Holds, IsQuietFile, PageKind, Queue, Quiet, ROOT_PAGE, all_of, ascend, bucket_of, contains_cases, contains_head, contains_none, contents_are_pairs, find, find-Some, found_id, has_id, image, image_has, in_flat_map, in_map, key_of, key_of_queue, lookup, lookup_before, option_map, page_at, record_of, root_bucket, spelled, structure_sound, value_of}
use Rattle.record_walk.proofs.OneSystem.{one_system}
use Rattle.queue_model.specs.Lawful.{IsLawful}
use Rattle.type_chains.specs.Fits.{HasFittingNumbers}

-- at each key stands the value of the record there, and none where there is none
abbrev pub HasValues : (RecordKey → Option Record) → List Pair → Type 0
HasValues records ps = (key : RecordKey) → lookup key ps ≡ option_map value_of (records key)

-- a lawful system whose records can be spelled, and that is not stopped, since that stands in no record; these are its
-- records
pub record AreRecordsOf (s : State) (rs : List Pair) : Type 0 where
  pub lawful : IsLawful s
  pub fits : HasFittingNumbers s
  pub running : s.stopped ≡ false
  pub values : HasValues (record_of s) rs

module _ (hash : RecordKey → ℕ) (content : List (List ℕ)) (rs : List Pair)
    (structure : IsRightStructure content (ROOT_PAGE ∷ []))
    (root : page_at (file_of content) ROOT_PAGE ≡ kinds.Bucket (root_bucket rs)) (order : ascend rs ≡ true) where
  one : (P : ℕ → Type 0) (n : ℕ) → P ROOT_PAGE → Contains (ROOT_PAGE ∷ []) n → P n
  one P n p c = elim (contains_cases ROOT_PAGE n [] c) [
    | inl same ↦ subst P same p
    | inr d ↦ absurd (contains_none n d)
  ]

  -- the bucket has each pseudokey
  placed : (n : ℕ) → Contains (ROOT_PAGE ∷ []) n → IsPlaced hash (bucket_at (file_of content) n)
  placed n on =
      one (λ m. IsPlaced hash (bucket_at (file_of content) m)) n
      (subst (λ (p : PageKind). IsPlaced hash (bucket_of p)) (sym root) (record {
        within = λ i d w. omega arith;
        ascends = order;
      })) on

  pub quiet : IsQuietFile hash (file_of content) (ROOT_PAGE ∷ [])
  quiet = structure_sound hash content (ROOT_PAGE ∷ []) structure placed

  -- what the file holds is what stands in it
  pub held_is : (key : RecordKey) → contents (file_of content) key ≡ lookup key rs
  held_is key =
      ap (λ (ns : List ℕ). lookup key (pairs_on (file_of content) ns)) quiet.chained
      ∙ lookup_before key (records_at (file_of content) ROOT_PAGE) [] refl
      ∙ ap (λ (p : PageKind). lookup key (bucket_of p).records) root

  held_on : (p : Pair) → Contains rs p → lookup p.key rs ≡ Some p.value
  held_on p on =
      let here : Contains (records_at (file_of content) ROOT_PAGE) p =
      subst (λ (x : PageKind). Contains (bucket_of x).records p) (sym root) on in
      let among : Contains (pairs_on (file_of content) (ROOT_PAGE ∷ [])) p =
      in_flat_map (records_at (file_of content)) (ROOT_PAGE ∷ []) ROOT_PAGE p (contains_head ROOT_PAGE []) here in
      sym (held_is p.key)
      ∙ ((contents_are_pairs hash (file_of content) Quiet quiet.sound).pairs p.key p.value).1
      (subst (λ (ns : List ℕ). Contains (pairs_on (file_of content) ns) p) (sym quiet.chained) among)

  module _ (t : State) (it : AreRecordsOf t rs) where
    abbrev held : RecordKey → Option (List ℕ)
    held = contents (file_of content)

    -- each record is one of the system
    is_record : (p : Pair) → Contains rs p → IsRecord p
    is_record p on = by_record (record_of t p.key) refl (sym (it.values p.key) ∙ held_on p on)
      where
        by_record : (o : Option Record) → record_of t p.key ≡ o → option_map value_of o ≡ Some p.value → IsRecord p
        by_record None at e = absurd cc
        by_record (Some r) at e =
            let same : value_of r ≡ p.value = cc in
            (r, subst (SpellsRecord r p.key) same (spelled t p.key r it.lawful it.fits at))

    right : AreRightRecords hash (file_of content) (ROOT_PAGE ∷ [])
    right =
        All-cons (AreRightIn hash (file_of content)) ROOT_PAGE []
        (subst (λ (x : PageKind). All (IsRightRecord hash (bucket_of x)) (bucket_of x).records) (sym root)
        (all_of (IsRightRecord hash (root_bucket rs)) rs (λ p on.
        record { at_home = omega arith; spelled = is_record p on })))
        (All-nil (AreRightIn hash (file_of content)))

    -- each record of the system stands
    held_at : (key : RecordKey) (r : Record) → record_of t key ≡ Some r → held key ≡ Some (value_of r)
    held_at key r at = held_is key ∙ it.values key ∙ ap (option_map value_of) at

    stands : (r : Record) → Contains (image t) r → Holds held r
    stands r on =
        let at = image_has t it.lawful r on in
        record {
          value = value_of r;
          found = held_at (key_of r) r at;
          spelled = spelled t (key_of r) r it.lawful it.fits at;
        }

    none_at : (key : RecordKey) → record_of t key ≡ None → held key ≡ None
    none_at key none = held_is key ∙ it.values key ∙ ap (option_map value_of) none

    counted : (id : ℕ) → held (key_of_queue id) ≢ None → Contains (map (λ (q : Queue). q.id) t.queues) id
    counted id there = by_queue (find (has_id id) t.queues) refl
      where
        by_queue : (o : Option Queue) → find (has_id id) t.queues ≡ o →
            Contains (map (λ (q : Queue). q.id) t.queues) id
        by_queue None e =
            absurd (there (none_at (key_of_queue id) (ap (option_map _) e)))
        by_queue (Some q) e =
            subst (Contains (map (λ (q : Queue). q.id) t.queues)) (found_id t id q e)
            (in_map (λ (q : Queue). q.id) t.queues q (find-Some (has_id id) t.queues q e).1)

    has : HasSystem held t
    has = record {
      lawful = it.lawful;
      running = it.running;
      stand = all_of (Holds held) (image t) stands;
      queues = counted;
    }

    pub is_file : IsFileOf hash content t
    is_file = record {
      chain = ROOT_PAGE ∷ [];
      right = record { structure = structure; records = right };
      quiet = quiet;
      system = record { has = has; only = one_system held t has };
      just = record {
        stand = λ key r at. (value_of r, held_at key r at, spelled t key r it.lawful it.fits at);
        others = none_at;
      };
    }
