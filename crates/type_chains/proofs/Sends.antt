-- What a message that is sent makes of the Queue's record, and its own.
use Rattle.std.proofs.Common.{◌≡◌, ℕ, ◌+◌, ◌<◌, ℤ, Bool, true, false, cond, List, [], ◌∷◌, ◌++◌, length, Some, None, refl, ap, ◌∙◌, arith}
use Rattle.std.specs.Prelude.{int_lt, unwrap_or}
use Rattle.std.specs.Int.{int_min}
use Rattle.std.specs.List.{All, filter}
use Rattle.std.specs.Ordering.{int_eq}
use Rattle.std.proofs.lemmas.Bool.Decides.{Decides-eqb, Decides-int_eq, nat_tests}
use Rattle.std.proofs.lemmas.Int.{ints}
use Rattle.std.proofs.lemmas.List.{length-append, map-append}
use Rattle.std.proofs.lemmas.List.Elements.{All-filter, All-map, All-weaker, filter-append}
use Rattle.std.proofs.lemmas.List.Sums.{fold_push, sum_by_push}
use Rattle.queue_model.specs.declared.call.SendArguments.{SendArguments}
use Rattle.queue_model.specs.declared.message.Message.{Message}
use Rattle.queue_model.specs.declared.queue.Queue.{Queue}
use Rattle.queue_model.specs.Lawful.{IsLawfulQueue, IsLawfulMessage}
use Rattle.queue_model.specs.Rules.{with_message}
use Rattle.queue_model.specs.Selection.{lesser, total_bytes}
use Rattle.type_chains.specs.Entries.{queue_entry, message_entry, is_number}
use Rattle.type_chains.specs.Lists.{serials, serials_of_type, types, with_type, is_of_type}
use Rattle.type_chains.specs.Neighbours.{first_of, last_of, before, behind}
use Rattle.type_chains.specs.Sending.{message_of, with_one_more, last_message, IsMadeOfTheQueue}
use Rattle.type_chains.proofs.Beside.{before_at, behind_at, first_push, last_push}
use Rattle.type_chains.proofs.Unique.{cond_with}

-- ---- a number above all, put last, is found last

others : (xs : List ℕ) (n : ℕ) → All (λ (k : ℕ). k < n) xs → All (λ (k : ℕ). is_number n k ≡ false) xs
others xs n all = All-weaker (λ (k : ℕ). k < n) (λ (k : ℕ). is_number n k ≡ false)
    (λ k less. grind (arith, nat_tests, less)) xs all

before_last : (xs : List ℕ) (n : ℕ) → All (λ (k : ℕ). k < n) xs → before (is_number n) (xs ++ n ∷ []) ≡ last_of xs
before_last xs n all = before_at (is_number n) xs [] n (others xs n all) ((Decides-eqb n n).1 refl)

behind_last : (xs : List ℕ) (n : ℕ) → All (λ (k : ℕ). k < n) xs → behind (is_number n) (xs ++ n ∷ []) ≡ None
behind_last xs n all = behind_at (is_number n) xs [] n (others xs n all) ((Decides-eqb n n).1 refl)

-- ---- the lowest type

less_min : (t u : ℤ) → int_lt t u ≡ true → t ≡ int_min t u
less_min t u less = cond_with (λ (x : ℤ). t ≡ x) (int_lt u t) u t
    (λ more. absurd (grind (arith, ints, less, more))) (λ no_more. refl)

more_min : (t u : ℤ) → int_lt t u ≡ false → u ≡ int_min t u
more_min t u no_less = cond_with (λ (x : ℤ). u ≡ x) (int_lt u t) u t
    (λ more. refl) (λ no_more. grind (arith, ints, no_less, no_more))

first_with : (ts : List ℤ) (t : ℤ) → first_of (with_type ts t) ≡ Some (lesser t (first_of ts))
first_with [] t = refl
first_with (u ∷ us) t =
    cond_with (λ (ts : List ℤ). first_of ts ≡ Some (int_min t u)) (int_lt t u) (t ∷ u ∷ us) _
    (λ less. ap Some (less_min t u less))
    (λ no_less. cond_with (λ (ts : List ℤ). first_of ts ≡ Some (int_min t u)) (int_eq t u) (u ∷ us)
    (u ∷ with_type us t) (λ same. ap Some (more_min t u no_less)) (λ no_same. ap Some (more_min t u no_less)))

-- ---- the records

module _ (pid : ℕ) (a : SendArguments) (q : Queue) where
  abbrev m : Message
  m = message_of pid a q

  more_serials : serials (q.messages ++ m ∷ []) ≡ serials q.messages ++ q.next_serial ∷ []
  more_serials = map-append (λ (m : Message). m.serial) q.messages (m ∷ [])

  more_of_type : serials_of_type a.mtype (q.messages ++ m ∷ [])
      ≡ serials_of_type a.mtype q.messages ++ q.next_serial ∷ []
  more_of_type =
      let its : int_eq a.mtype a.mtype ≡ true = (Decides-int_eq a.mtype a.mtype).1 refl in
      let one : filter (is_of_type a.mtype) (m ∷ []) ≡ m ∷ [] =
      ap (λ (b : Bool). cond b (m ∷ []) []) its in
      ap serials (filter-append (is_of_type a.mtype) q.messages (m ∷ [])
      ∙ ap (λ (ms : List Message). filter (is_of_type a.mtype) q.messages ++ ms) one)
      ∙ map-append (λ (m : Message). m.serial) (filter (is_of_type a.mtype) q.messages) (m ∷ [])

  queue_after : queue_entry (with_message pid a q) ≡ with_one_more pid a (queue_entry q)
  queue_after =
      let bytes : total_bytes (q.messages ++ m ∷ []) ≡ total_bytes q.messages + length a.body =
      sum_by_push (λ (m : Message). length m.bytes) q.messages m in
      let long : length (q.messages ++ m ∷ []) ≡ length q.messages + 1 =
      length-append q.messages (m ∷ []) in
      let first : first_of (serials (q.messages ++ m ∷ []))
      ≡ Some (unwrap_or (first_of (serials q.messages)) q.next_serial) =
      ap first_of more_serials ∙ first_push (serials q.messages) q.next_serial in
      let last : last_of (serials (q.messages ++ m ∷ [])) ≡ Some q.next_serial =
      ap last_of more_serials ∙ last_push (serials q.messages) q.next_serial in
      let lowest : first_of (types (q.messages ++ m ∷ [])) ≡ Some (lesser a.mtype (first_of (types q.messages))) =
      ap first_of (fold_push (λ (ts : List ℤ) (m : Message). with_type ts m.mtype) [] q.messages m)
      ∙ first_with (types q.messages) a.mtype in
      λ i. record {
        id = q.id;
        key = q.key;
        qbytes = q.qbytes;
        cbytes = bytes i;
        qnum = long i;
        lspid = pid;
        lrpid = q.lrpid;
        stime = a.moment;
        rtime = q.rtime;
        ctime = q.ctime;
        next_serial = q.next_serial + 1;
        first = first i;
        last = last i;
        lowest = lowest i;
        uid = q.permissions.uid;
        gid = q.permissions.gid;
        cuid = q.permissions.cuid;
        cgid = q.permissions.cgid;
        mode = q.permissions.mode;
      }

  below : (ms : List Message) → All (IsLawfulMessage q.next_serial) ms → All (λ (k : ℕ). k < q.next_serial) (serials ms)
  below ms all = All-map (λ (k : ℕ). k < q.next_serial) (λ (m : Message). m.serial) ms
      (All-weaker (IsLawfulMessage q.next_serial) (λ (m : Message). m.serial < q.next_serial)
      (λ m l. l.serial_given) ms all)

  message_after : IsLawfulQueue q →
      message_entry (with_message pid a q) (message_of pid a q) ≡ last_message pid a (queue_entry q)
  message_after lawful =
      let all = below q.messages lawful.messages_lawful in
      let all_of_type = below (filter (is_of_type a.mtype) q.messages)
      (All-filter (is_of_type a.mtype) (IsLawfulMessage q.next_serial) q.messages lawful.messages_lawful) in
      let previous = ap (before (is_number q.next_serial)) more_serials
      ∙ before_last (serials q.messages) q.next_serial all in
      let next = ap (behind (is_number q.next_serial)) more_serials
      ∙ behind_last (serials q.messages) q.next_serial all in
      let next_of_type = ap (behind (is_number q.next_serial)) more_of_type
      ∙ behind_last (serials_of_type a.mtype q.messages) q.next_serial all_of_type in
      λ i. record {
        id = q.id;
        serial = q.next_serial;
        mtype = a.mtype;
        sender = pid;
        previous = previous i;
        next = next i;
        next_of_type = next_of_type i;
        body = a.body;
      }

  pub made_of_the_queue : IsLawfulQueue q → IsMadeOfTheQueue pid a q
  made_of_the_queue lawful = record { queue = queue_after; message = message_after lawful }
