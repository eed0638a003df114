-- Records are those of one system at most, and the numbers of a system whose records stand fit their fields.
use Rattle.std.proofs.Common.{ℕ, pos, zero, suc, ◌≡◌, ◌+◌, ◌<◌, List, [], ◌∷◌, ◌++◌, length, map, Option, Some, None, get_or, refl, sym, ap, subst, ◌∙◌, arith}
use Rattle.std.specs.List.{Contains, flat_map}
use Rattle.std.specs.Prelude.{slice_index, slice_index_or}
use Rattle.std.proofs.lemmas.List.{get_or_default, get_or-map, length-append, length-map}
use Rattle.std.proofs.lemmas.List.Elements.{All-contains, Contains-append_left, Contains-append_right}
use Rattle.std.proofs.lemmas.Option.{get_or_from_slice_get, slice_get_within}
use Rattle.queue_records.proofs.OneRecord.{one_record}
use Rattle.queue_records.specs.declared.layout.TheConstants.{MESSAGE}
use Rattle.queue_records.specs.declared.record.Record.TheVariants as records
use Rattle.record_walk.specs.Held.{Holds, linked_of}
use Rattle.record_walk.specs.Systems.{AreQueueIds, AreQueuesOf, HasQueue, HasSystem, IsQueueOf, queue_in}
use Rattle.record_walk.specs.Words.{Counter, IsLawfulQueue, Message, MessageEntry, Queue, QueueEntry, Record, RecordKey, SpellsRecord, State, counter_of, first_of, image, key_of, key_of_queue, key_records, message_entry, message_records, queue_entry, queue_records, serials, type_records}
use Rattle.record_walk.proofs.SystemLemmas.{system_is}
use Rattle.record_walk.proofs.WalkLemmas.{IsWalkedTo, walked_all, walked_more, walked_none, walked_there}
use Rattle.type_chains.specs.Fits.{HasFittingMessage, HasFittingNumbers, HasFittingQueue}
use Rattle.type_chains.proofs.Members.{contains_head, contains_tail, from_map, in_flat_map, in_map}
use Rattle.type_chains.proofs.Pairs.{all_of}

no_message : Message
no_message = record { serial = 0; sender = 0; mtype = pos 0; bytes = [] }

module _ (held : RecordKey → Option (List ℕ)) where
  -- at a key stands one record
  one_holds : (a b : Record) → key_of a ≡ key_of b → Holds held a → Holds held b → a ≡ b
  one_holds a b same x y =
      let both : ◌≡◌ {A = Option (List ℕ)} (Some x.value) (Some y.value) = sym x.found ∙ ap held same ∙ y.found in
      let value : x.value ≡ y.value = cc in
      one_record a b (key_of b) y.value
      (subst (λ (k : RecordKey). SpellsRecord a k y.value) same
      (subst (λ (v : List ℕ). SpellsRecord a (key_of a) v) value x.spelled)) y.spelled

  -- a queue of a system has its records
  pub has_queue : (s : State) → HasSystem held s → (q : Queue) → Contains s.queues q → HasQueue held q
  has_queue s h q on =
      let each : (r : Record) → Contains (queue_records q) r → Holds held r = λ r c.
      All-contains (Holds held) (image s) r h.stand
      (contains_tail (records.Counter (counter_of s)) r (flat_map queue_records s.queues)
      (in_flat_map queue_records s.queues q r on c)) in
      let behind : (r : Record) → Contains (type_records q ++ message_records q) r → Holds held r = λ r c.
      each r (Contains-append_right (key_records q) _ r (contains_tail (records.Queue (queue_entry q)) r _ c)) in
      record {
        lawful = All-contains IsLawfulQueue s.queues q h.lawful.queues_lawful on;
        key = all_of (Holds held) (key_records q) (λ r c. each r (Contains-append_left (key_records q) _ r c));
        queue = each (records.Queue (queue_entry q)) (Contains-append_right (key_records q) _ _ (contains_head _ _));
        types = all_of (Holds held) (type_records q)
            (λ r c. behind r (Contains-append_left (type_records q) (message_records q) r c));
        messages = all_of (Holds held) (message_records q)
            (λ r c. behind r (Contains-append_right (type_records q) (message_records q) r c));
      }

  -- ---- a queue

  message_stands : (q : Queue) → HasQueue held q → (m : Message) → Contains q.messages m →
      Holds held (records.Message (message_entry q m))
  message_stands q h m on =
      let f : Message → Record = λ m. records.Message (message_entry q m) in
      All-contains (Holds held) (message_records q) (f m) h.messages (in_map f q.messages m on)

  -- the message that a walk along a queue comes to next
  abbrev next_message : Queue → List Message → Message
  next_message q ms = get_or q.messages (length ms) no_message

  -- of its serial stands no other
  told : (p : Queue) → HasQueue held p → (ms : List Message) (serial : ℕ) → IsWalkedTo p ms (Some serial) →
      (e : MessageEntry) → Holds held (records.Message e) → e.id ≡ p.id → e.serial ≡ serial →
      Some (linked_of (message_entry p (next_message p ms))) ≡ Some (linked_of e)
  told p h ms serial so e stands its is =
      let m : Message = next_message p ms in
      let among : length ms < length (serials p.messages) =
      slice_get_within (serials p.messages) (length ms) serial (sym so.next_is) in
      let within : length ms < length p.messages =
      subst (λ n. length ms < n) (length-map p.messages (λ (x : Message). x.serial)) among in
      let on : Contains p.messages m = (length ms, within, get_or_default p.messages (length ms) m no_message within) in
      let serial_is : m.serial ≡ serial =
      sym (get_or-map (λ (x : Message). x.serial) p.messages (length ms) no_message 0 within)
      ∙ get_or_from_slice_get (serials p.messages) (length ms) serial 0 (sym so.next_is) in
      let number : m.serial ≡ e.serial = serial_is ∙ sym is in
      let queue : p.id ≡ e.id = sym its in
      let same : records.Message (message_entry p m) ≡ records.Message e =
      one_holds (records.Message (message_entry p m)) (records.Message e)
      (λ i. record { kind = MESSAGE; queue = queue i; number = number i }) (message_stands p h m on) stands in
      let entry : message_entry p m ≡ e = cc in
      ap (λ (x : MessageEntry). Some (linked_of x)) entry

  module _ (p q : Queue) (hp : HasQueue held p) (hq : HasQueue held q) (same : p.id ≡ q.id) where
    -- two walks that begin at one serial meet the same messages
    walk : (fuel : ℕ) (ms : List Message) (next : Option ℕ) → IsWalkedTo p ms next → IsWalkedTo q ms next →
        length p.messages < fuel + length ms → p.messages ≡ q.messages
    walk fuel ms None a b far =
        sym (walked_all held p hp p.id None refl ms a) ∙ walked_all held q hq p.id None (sym same) ms b
    walk zero ms (Some serial) a b far =
        let there = walked_there held p hp p.id (Some serial) refl ms serial _ a (told p hp ms serial a) in
        absurd (omega (arith, far, there.0))
    walk (suc fuel) ms (Some serial) a b far =
        let found = linked_of (message_entry p (next_message p ms)) in
        walk fuel (ms ++ found.message ∷ []) found.links.next
        (walked_more held p hp p.id (Some serial) refl ms serial found a (told p hp ms serial a))
        (walked_more held q hq p.id (Some serial) (sym same) ms serial found b (told p hp ms serial a))
        (let longer = length-append ms (found.message ∷ []) in omega (arith, far, longer))

    pub one_queue : p ≡ q
    one_queue =
        let key : key_of_queue p.id ≡ key_of_queue q.id = ap key_of_queue same in
        let both : records.Queue (queue_entry p) ≡ records.Queue (queue_entry q) =
        one_holds (records.Queue (queue_entry p)) (records.Queue (queue_entry q)) key hp.queue hq.queue in
        let entry : queue_entry p ≡ queue_entry q = cc in
        let first : first_of (serials p.messages) ≡ first_of (serials q.messages) =
        ap (λ (e : QueueEntry). e.first) entry in
        let messages : p.messages ≡ q.messages =
        walk (suc (length p.messages)) [] (first_of (serials p.messages))
        (walked_none held p hp p.id (first_of (serials p.messages)) refl refl)
        (walked_none held q hq p.id (first_of (serials p.messages)) (sym same) first) (omega arith) in
        λ i. queue_in (entry i) (same i) (messages i)

  -- ---- a system

  module _ (s : State) (h : HasSystem held s) where
    abbrev ids : List ℕ
    ids = map (λ (q : Queue). q.id) s.queues

    given : AreQueueIds held ids
    given = record {
      ascend = h.lawful.ids_ascend;
      all = h.queues;
      only = λ id on none.
          let (q, stands, is) = from_map (λ (q : Queue). q.id) s.queues id on in
          let queue = (has_queue s h q stands).queue in
          let clash = sym none ∙ subst (λ n. held (key_of_queue n) ≡ Some queue.value) is queue.found in
          absurd cc;
    }

    is_its : (i : ℕ) (d : Queue) → i < length ids → IsQueueOf held (slice_index ids i) (slice_index_or s.queues i d)
    is_its i d within =
        let q : Queue = slice_index_or s.queues i d in
        let inside : i < length s.queues = subst (λ n. i < n) (length-map s.queues (λ (q : Queue). q.id)) within in
        let has : HasQueue held q = has_queue s h q (i, inside, get_or_default s.queues i q d inside) in
        let its : q.id ≡ slice_index ids i = sym (get_or-map (λ (q : Queue). q.id) s.queues i d 0 inside) in
        record {
          has = has;
          its = its;
          only = λ other there is. one_queue other q there has (is ∙ sym its);
        }

    read : AreQueuesOf held ids s.queues
    read = record { number = sym (length-map s.queues (λ (q : Queue). q.id)); each = is_its }

    counted : (c : Counter) → Holds held (records.Counter c) → Some (counter_of s) ≡ Some c
    counted c there =
        let stands : Holds held (records.Counter (counter_of s)) =
        h.stand 0 (records.Counter (counter_of s)) (omega arith) in
        let same : records.Counter (counter_of s) ≡ records.Counter c =
        one_holds (records.Counter (counter_of s)) (records.Counter c) refl stands there in
        let is : counter_of s ≡ c = cc in
        ap (λ (x : Counter). Some x) is

    pub one_system : (t : State) → HasSystem held t → t ≡ s
    one_system t has =
        let running = h.running in
        system_is held ids given s.queues read (counter_of s) counted t has
        ∙ (λ i. record s { stopped = sym running i })

    -- ---- numbers that fit

    fits_queue : (q : Queue) → Contains s.queues q → HasFittingQueue q
    fits_queue q on =
        let has : HasQueue held q = has_queue s h q on in
        let fits = has.queue.spelled.fits in
        record {
          key = fits.key;
          lspid = fits.lspid;
          lrpid = fits.lrpid;
          stime = fits.stime;
          rtime = fits.rtime;
          ctime = fits.ctime;
          uid = fits.uid;
          gid = fits.gid;
          cuid = fits.cuid;
          cgid = fits.cgid;
          messages = all_of HasFittingMessage q.messages (λ m there.
              let said = (message_stands q has m there).spelled.fits in
              record { sender = said.sender; mtype = said.mtype });
        }

    pub numbers_fit : HasFittingNumbers s
    numbers_fit = all_of HasFittingQueue s.queues fits_queue
