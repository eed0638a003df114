-- Records of a system that are put into a file one after the other.
use Rattle.std.proofs.Common.{◌≡◌, ◌≢◌, ℕ, Bool, true, false, List, length, inl, inr, Some, refl, sym, ap, subst, ◌∙◌, arith}
use Rattle.std.specs.Prelude.{◌⊎◌, ℤ, ◌++◌, option_to_list}
use Rattle.std.proofs.lemmas.Bool.Decides.{nat_tests}
use Rattle.std.proofs.lemmas.List.Elements.{Contains-append_cases, Contains-append_left, Contains-append_right}
use Rattle.std.specs.List.{Contains, flat_map}
use Rattle.bucket_page.specs.Keys.{is_same}
use Rattle.bucket_page.specs.declared.record_key.RecordKey.{RecordKey}
use Rattle.bucket_page.proofs.KeyLaws.{same_is}
use Rattle.buffer_pool.specs.Pool.{PoolState}
use Rattle.file_pages.specs.Files.{store_of}
use Rattle.hash_file.specs.Chain.{contents}
use Rattle.queue_model.specs.State.{State}
use Rattle.queue_model.specs.Lawful.{IsLawful}
use Rattle.queue_model.specs.declared.queue.Queue.{Queue}
use Rattle.queue_records.specs.Range.{IsInRange}
use Rattle.queue_records.specs.Spelling.{counter_key, key_of, value_of}
use Rattle.queue_records.specs.declared.record.Record.{Record}
use Rattle.queue_records.specs.declared.record.Record.TheVariants as records
use Rattle.queue_model.specs.declared.message.Message.{Message}
use Rattle.type_chains.specs.Entries.{counter_of, key_entry, message_entry, queue_entry, type_entry}
use Rattle.type_chains.specs.Image.{image, key_records, message_records, queue_records, type_records}
use Rattle.type_chains.specs.Lists.{types}
use Rattle.type_chains.specs.RecordOf.{record_of}
use Rattle.type_chains.proofs.Images.{image_has}
use Rattle.type_chains.proofs.Limits.{in_range}
use Rattle.type_chains.proofs.Members.{contains_head, contains_tail, from_map, head_or_tail, in_flat_map}
use Rattle.lone_access.specs.OneAccess.{HoldsElse, Lacked}
use Rattle.migration.specs.Filling.{IsPart, MayNotFill, MayNotPut, Puts, held_in}
use Rattle.migration.specs.Rooms.{IsOfSystem, LacksRoomFor}
use Rattle.migration.specs.declared.fault.MakingFault.{MakingFault}
use Rattle.migration.specs.declared.fault.MakingFault.TheVariants as makings

pub not_itself : (key : RecordKey) → is_same key key ≡ false → ⊥
not_itself key other = grind (arith, nat_tests, other)

-- no record of a queue has the Counter's key
pub not_counter : (q : Queue) (r : Record) → Contains (queue_records q) r → counter_key ≢ key_of r
not_counter q r at same = elim (Contains-append_cases (key_records q) _ r at) [
  | inl keyed ↦
      let (k, has, is) = from_map (λ (k : ℕ). records.Key (key_entry k q)) (option_to_list q.key) r keyed in
      let kinds = ap (λ (k : RecordKey). k.kind) (same ∙ ap key_of (sym is)) in omega (arith, kinds)
  | inr more ↦ elim (head_or_tail (records.Queue (queue_entry q)) r (type_records q ++ message_records q) more) [
    | inl is ↦ let kinds = ap (λ (k : RecordKey). k.kind) (same ∙ ap key_of (sym is)) in omega (arith, kinds)
    | inr more ↦ elim (Contains-append_cases (type_records q) (message_records q) r more) [
      | inl typed ↦
          let (t, has, is) = from_map (λ (t : ℤ). records.Type (type_entry q t)) (types q.messages) r typed in
          let kinds = ap (λ (k : RecordKey). k.kind) (same ∙ ap key_of (sym is)) in omega (arith, kinds)
      | inr sent ↦
          let (m, has, is) = from_map (λ (m : Message). records.Message (message_entry q m)) q.messages r sent in
          let kinds = ap (λ (k : RecordKey). k.kind) (same ∙ ap key_of (sym is)) in omega (arith, kinds)
    ]
  ]
]

-- ---- which records those of a queue are

pub keyed_in : (q : Queue) (r : Record) → Contains (key_records q) r → Contains (queue_records q) r
keyed_in q r has = Contains-append_left (key_records q) _ r has

pub queue_in : (q : Queue) → Contains (queue_records q) (records.Queue (queue_entry q))
queue_in q = Contains-append_right (key_records q) _ _
    (contains_head (records.Queue (queue_entry q)) (type_records q ++ message_records q))

behind_queue : (q : Queue) (r : Record) → Contains (type_records q ++ message_records q) r →
    Contains (queue_records q) r
behind_queue q r has = Contains-append_right (key_records q) _ r
    (contains_tail (records.Queue (queue_entry q)) r (type_records q ++ message_records q) has)

pub typed_in : (q : Queue) (r : Record) → Contains (type_records q) r → Contains (queue_records q) r
typed_in q r has = behind_queue q r (Contains-append_left (type_records q) (message_records q) r has)

pub sent_in : (q : Queue) (r : Record) → Contains (message_records q) r → Contains (queue_records q) r
sent_in q r has = behind_queue q r (Contains-append_right (type_records q) (message_records q) r has)

-- ---- one record

module _ (s : State) (lawful : IsLawful s) where
  -- records of one key are one
  one_at_a_key : (a b : Record) → Contains (image s) a → Contains (image s) b → key_of a ≡ key_of b → a ≡ b
  one_at_a_key a b first second same =
      let at : record_of s (key_of b) ≡ Some a = subst (λ (k : RecordKey). record_of s k ≡ Some a) same
      (image_has s lawful a first) in
      let both : Some a ≡ Some b = sym at ∙ image_has s lawful b second in
      cc

  pub ranged : (r : Record) → Contains (image s) r → IsInRange r
  ranged r its = in_range s (key_of r) r lawful (image_has s lawful r its)

  pub of_image : (q : Queue) (r : Record) → Contains s.queues q → Contains (queue_records q) r → Contains (image s) r
  of_image q r stands has = contains_tail (records.Counter (counter_of s)) r (flat_map queue_records s.queues)
      (in_flat_map queue_records s.queues q r stands has)

  module _ (hash : RecordKey → ℕ) (r : Record) (old new : PoolState) (its : Contains (image s) r)
      (not_counter : counter_key ≢ key_of r) (part : IsPart hash s old) where
    -- what a file holds in which only this record may stand anew
    just_still : (images : List (List ℕ)) → HoldsElse (key_of r) old.images images →
        ((value : List ℕ) → contents (store_of images) (key_of r) ≡ Some value → value_of r ≡ value) →
        (key : RecordKey) (value : List ℕ) → contents (store_of images) key ≡ Some value →
        (counter_key ≡ key) ⊎ IsOfSystem s key value
    just_still images others own key value at = by (is_same (key_of r) key) refl
      where
        by : (same : Bool) → is_same (key_of r) key ≡ same → (counter_key ≡ key) ⊎ IsOfSystem s key value
        by true is =
            let same : key_of r ≡ key = same_is (key_of r) key is in
            inr (record {
              entry = r;
              its = its;
              keyed = same;
              valued = own value (ap (contents (store_of images)) same ∙ at);
            })
        by false is =
            part.just key value (sym (others key (λ same. differ same is)) ∙ at)
          where
            differ : key_of r ≡ key → is_same (key_of r) key ≡ false → ⊥
            differ same other = absurd (not_itself key (subst (λ (k : RecordKey). is_same k key ≡ false) same other))

    module _ (puts : Puts hash r old new) where
      pub part_still : IsPart hash s new
      part_still = record {
        rest = puts.rest;
        counter = record {
          holds = puts.others counter_key (λ same. not_counter (sym same)) ∙ part.counter.holds;
          spelled = part.counter.spelled;
        };
        just = just_still new.images puts.others puts.own;
      }

      -- another record of the system is held as before
      pub held_still : (other : Record) → Contains (image s) other → (r ≡ other → ⊥) →
          held_in new (key_of other) ≡ held_in old (key_of other)
      held_still other there apart = puts.others (key_of other) (λ same. apart (one_at_a_key r other its there same))

    pub room_lacks : Lacked hash r old → LacksRoomFor hash (length old.images) s
    room_lacks x = record {
      entry = r;
      its = its;
      images = x.images;
      locks = x.locks;
      change = x.change;
      as_many = x.as_many;
      sound = x.sound;
      lacks = x.lacks;
      just = just_still x.images x.others x.own;
    }

    pub told_still : (fault : MakingFault) → MayNotPut hash r old fault → MayNotFill hash (length old.images) s fault
    told_still (makings.Device fault) is = tt
    told_still (makings.Pool fault) is = tt
    told_still makings.NoRoom is = (s, refl, room_lacks is)
    told_still makings.NoMemory is = tt
    told_still (makings.Wrong fault) is = tt
    told_still makings.Failed is = absurd is
