-- A Get makes a queue: its Queue and its Key are inserted, then the Counter counts it.
use Rattle.xsi_control.proofs.Names.{All, All-cons, All-head, All-nil, All-tail, AreAbsent, AscendOnTrial, Caller, Contains, Counted, Counter, END_OF_IDS, Fills, Get, GetArguments, IsAnswered, IsFiled, IsFreshKey, IsLawful, IsNew, IsToMake, Leads, List, LockName, MAX_QUEUES, Misses, MissesRecord, None, Option, Queue, Record, RecordKey, Replace, Some, State, Write, [], ap, arith, both_true, by_guard, counter_of, create, false, get_locked, get_plan, guard_of, in_range, is_same, key_entry, key_made, key_names, key_of, key_of_key, key_written, leads_by, length, length-counter, made_names, nat_lt, nat_tests, new_queue, one_more, option_map, outcome, plan_made, queue_entry, record_of, refl, subst, sym, trial_rank, with_new_queue, ℕ, ◌&&◌, ◌++◌, ◌+◌, ◌<◌, ◌==◌, ◌∙◌, ◌∷◌, ◌≡◌}
use Rattle.page_locks.specs.declared.lock.LockName.TheVariants as names
use Rattle.queue_model.specs.declared.answer.Answer.TheVariants as answers
use Rattle.queue_records.specs.declared.record.Record.TheVariants as records
use Rattle.xsi_inquiry.specs.declared.verdict.Verdict.TheVariants as verdicts
use Rattle.xsi_control.proofs.MadeLemmas.{IsOther, counter_then, key_then, next_of, others_same, queue_then, then_lawful, unused}

-- ---- the Counter leaves a place and an id

record IsLeft (n m : Counter) : Type 0 where
  few : n.queues_alive < MAX_QUEUES
  more : n.next_id < END_OF_IDS
  next : m ≡ next_of n

is_left : (n m : Counter) → one_more n ≡ Some m → IsLeft n m
is_left n m is =
    let (both, next) = by_guard (nat_lt n.queues_alive MAX_QUEUES && nat_lt n.next_id END_OF_IDS) (Some (next_of n)) m
    is in
    let (few, more) = both_true (nat_lt n.queues_alive MAX_QUEUES) (nat_lt n.next_id END_OF_IDS) both in
    record { few = grind (arith, nat_tests, few); more = grind (arith, nat_tests, more); next = cc }

-- ---- a queue is made

module _ (c : Caller) (a : GetArguments) (s : State) (lawful : IsLawful s) (fresh : IsFreshKey a.key s)
    (few : length s.queues < MAX_QUEUES) (more : s.next_id < END_OF_IDS) where
  abbrev t : State
  t = with_new_queue c a s

  abbrev its_record : Record
  its_record = records.Queue (queue_entry (new_queue s.next_id c a))

  abbrev its_counter : Record
  its_counter = records.Counter (next_of (counter_of s))

  abbrev its_key : ℕ → Record
  its_key key = records.Key (record { key = key; id = s.next_id })

  abbrev its_trials : Option ℕ → List Record
  its_trials key = records.Queue (queue_entry (new_queue s.next_id c a)) ∷ key_made s.next_id key

  -- ---- what is inserted

  none_there : record_of s (key_of its_record) ≡ None
  none_there = ap (option_map (λ (q : Queue). records.Queue (queue_entry q))) (unused c a s lawful fresh few more)

  all_absent : (key : Option ℕ) → a.key ≡ key → AreAbsent (its_trials key) (record_of s)
  all_absent None given = (none_there, tt)
  all_absent (Some k) given =
      (none_there, (ap (option_map (λ (q : Queue). records.Key (key_entry k q))) (fresh k given), tt))

  abbrev IsMade : Record → Type 0
  IsMade = IsNew (record_of s) (record_of (with_new_queue c a s))

  queue_made : IsNew (record_of s) (record_of t) its_record
  queue_made = queue_then c a s lawful fresh few more

  all_new : (key : Option ℕ) → a.key ≡ key → All IsMade (its_trials key)
  all_new None given = All-cons IsMade its_record [] queue_made (All-nil IsMade)
  all_new (Some k) given = All-cons IsMade its_record (its_key k ∷ []) queue_made
      (All-cons IsMade (its_key k) [] (key_then c a s lawful fresh few more k given) (All-nil IsMade))

  is_other : (key : Option ℕ) → a.key ≡ key → (at : RecordKey) → All (MissesRecord at) (its_trials key) →
      Misses at (Replace its_counter) → IsOther a.key s.next_id at
  is_other None given at none counter = record {
    no_counter = counter;
    no_queue = All-head (MissesRecord at) its_record [] none;
    no_key = λ k its. let clash : ◌≡◌ {A = Option ℕ} None (Some k) = sym given ∙ its in absurd cc;
  }
  is_other (Some key) given at none counter = record {
    no_counter = counter;
    no_queue = All-head (MissesRecord at) its_record (its_key key ∷ []) none;
    no_key = λ k its.
        let both : ◌≡◌ {A = Option ℕ} (Some key) (Some k) = sym given ∙ its in
        let one : key ≡ k = cc in
        let apart = All-head (MissesRecord at) (its_key key) []
        (All-tail (MissesRecord at) its_record (its_key key ∷ []) none) in
        subst (λ (n : ℕ). is_same at (key_of_key n) ≡ false) one apart;
  }

  in_order : (key : Option ℕ) → AscendOnTrial (its_trials key)
  in_order None = (All-nil _, tt)
  in_order (Some k) = (
    All-cons (λ (x : Record). trial_rank (key_of its_record) < trial_rank (key_of x)) (its_key k) [] (omega arith)
        (All-nil _),
    (All-nil _, tt),
  )

  -- under the key, the Counter and the queue that is made
  abbrev held : Option ℕ → List LockName
  held key = key_names key ++ names.Counter ∷ names.Queue s.next_id ∷ []

  abbrev IsHeld : Option ℕ → Record → Type 0
  IsHeld key r = Contains (held key) (guard_of (key_of r))

  all_held : (key : Option ℕ) → All (IsHeld key) (its_trials key)
  all_held None = All-cons (IsHeld None) its_record [] (1, omega arith, refl) (All-nil _)
  all_held (Some k) = All-cons (IsHeld (Some k)) its_record (its_key k ∷ []) (2, omega arith, refl)
      (All-cons (IsHeld (Some k)) (its_key k) [] (0, omega arith, refl) (All-nil _))

  counter_held : (key : Option ℕ) → IsHeld key its_counter
  counter_held None = (0, omega arith, refl)
  counter_held (Some k) = (1, omega arith, refl)

  -- ---- the plan

  fills : Fills (record_of s) (record_of t) (Replace its_counter)
  fills = (
    counter_then c a s lawful fresh few more,
    ap Some (length-counter (counter_of s) ∙ sym (length-counter (next_of (counter_of s)))),
  )

  made_leads : Leads (plan_made c a s.next_id (Some (next_of (counter_of s)))) (record_of s) (record_of t)
  made_leads = leads_by (record_of s) (record_of t) (plan_made c a s.next_id (Some (next_of (counter_of s))))
      (all_absent a.key refl) (all_new a.key refl) (All-nil _, tt)
      (All-cons (Fills (record_of s) (record_of t)) (Replace its_counter) [] fills (All-nil _))
      (λ key r at. in_range t key r (then_lawful c a s lawful fresh few more) at)
      (λ key none misses. others_same c a s lawful fresh few more key (is_other a.key refl key none
      (All-head (Misses key) (Replace its_counter) [] misses)))

  created : create c a s ≡ Some (answers.Id s.next_id, t)
  created =
      let place : (length s.queues == MAX_QUEUES) ≡ false = grind (arith, nat_tests, few) in
      let id : (s.next_id == END_OF_IDS) ≡ false = grind (arith, nat_tests, more) in
      rw (place, id) refl

  made_answered : outcome c (Get a) s ≡ create c a s → (bytes : List ℕ) →
      IsAnswered c (Get a) (held a.key) bytes s (verdicts.Id s.next_id)
      (plan_made c a s.next_id (Some (next_of (counter_of s))))
  made_answered makes bytes = record {
    after = t;
    outcome = makes ∙ created;
    leads = made_leads;
    own = record {
      trials = all_held a.key;
      writes = All-cons (λ (w : Write). Contains (held a.key) (guard_of (key_written w))) (Replace its_counter) []
          (counter_held a.key) (All-nil _);
    };
    idle = λ same. let next : s.next_id + 1 ≡ s.next_id = ap (λ (x : State). x.next_id) same in
        absurd (omega (arith, next));
    ordered = record { trials = in_order a.key; writes = (All-nil _, tt) };
  }

-- ---- by the Counter that was read

module _ (c : Caller) (a : GetArguments) (s : State) (filed : IsFiled s) (n : Counter)
    (makes : IsToMake c a s) (is : n ≡ counter_of s) where
  pub made : (m : Counter) → one_more n ≡ Some m → (bytes : List ℕ) →
      IsAnswered c (Get a) (get_locked a (Counted n)) bytes s (verdicts.Id n.next_id) (get_plan c a (Counted n))
  made m some bytes =
      let left = is_left (counter_of s) m (ap one_more (sym is) ∙ some) in
      let next : one_more (counter_of s) ≡ Some (next_of (counter_of s)) = ap one_more (sym is) ∙ some
      ∙ ap (λ (x : Counter). Some x) left.next in
      subst (λ (x : Counter). IsAnswered c (Get a) (get_locked a (Counted x)) bytes s (verdicts.Id x.next_id)
      (get_plan c a (Counted x))) (sym is)
      (subst (λ (o : Option Counter). IsAnswered c (Get a)
      (key_names a.key ++ names.Counter ∷ made_names s.next_id o) bytes s (verdicts.Id s.next_id)
      (plan_made c a s.next_id o)) (sym next)
      (made_answered c a s filed.lawful makes.fresh left.few left.more makes.outcome bytes))
