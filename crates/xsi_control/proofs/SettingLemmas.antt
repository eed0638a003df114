-- A queue that takes settings, and its Queue.
use Rattle.xsi_control.proofs.Names.{All-cons, All-head, All-nil, Bool, Caller, Contains, EINVAL, EPERM, Effect-outcome, Err, Errno, Fills, Found, IsAnswered, IsBefore, IsEntryOf, IsFiled, IsLawful, IsLawful-Effect, Leads, List, MAX_QBYTES, Misses, Ok, Outcome, Plan, Queue, QueueEntry, Record, RecordKey, Replace, Result, Set, SetArguments, Some, State, Write, [], agree_but, ap, arith, cond, false, find, found_new, guard_of, has_id, in_range, is_owner, key_of, key_written, leads_by, length-queue, nat_lt, nat_tests, not, nothing, on_queue, option_map, outcome, plan_by, queue_entry, raises, record_of, refl, refuse, set_entry, set_plan, set_to, subst, sym, true, value_length, with_queue, with_settings, ℕ, ◌∙◌, ◌∷◌, ◌≡◌}
use Rattle.page_locks.specs.declared.lock.LockName.TheVariants as names
use Rattle.queue_model.specs.declared.answer.Answer.TheVariants as answers
use Rattle.queue_records.specs.declared.record.Record.TheVariants as records
use Rattle.xsi_inquiry.specs.declared.verdict.Verdict.TheVariants as verdicts

-- no queue may have such a limit
pub set_over : (c : Caller) (a : SetArguments) (s : State) → nat_lt MAX_QBYTES a.qbytes ≡ true →
    outcome c (Set a) s ≡ refuse EINVAL s
set_over c a s over = rw over refl

pub set_by_id : (c : Caller) (a : SetArguments) (s : State) → nat_lt MAX_QBYTES a.qbytes ≡ false →
    outcome c (Set a) s ≡ on_queue a.id s (set_to c a s)
set_by_id c a s small = rw small refl

module _ (c : Caller) (a : SetArguments) (s : State) (e : QueueEntry) (is : IsEntryOf a.id e s)
    (small : nat_lt MAX_QBYTES a.qbytes ≡ false) where
  abbrev q : Queue
  q = is.queue

  abbrev new : Queue
  new = with_settings a is.queue

  abbrev t : State
  t = with_queue a.id (with_settings a is.queue) s

  -- what the Queue with the settings, or the refusal, means
  abbrev Means : Result QueueEntry Errno → Outcome → Type 0
  Means (Ok x) o = (o ≡ Some (answers.Done, t)) × (x ≡ queue_entry new)
  Means (Err errno) o = o ≡ refuse errno s

  means : (owns raising : Bool) →
      Means (cond (not owns) (Err EPERM) (cond raising (Err EPERM) (Ok (queue_entry new))))
      (cond (not owns) (refuse EPERM s) (cond raising (refuse EPERM s) (Some (answers.Done, t))))
  means false raising = refl
  means true true = refl
  means true false = (refl, refl)

  set_means : (r : Result QueueEntry Errno) → set_entry c a e ≡ r → Means r (outcome c (Set a) s)
  set_means r at =
      let on_queue = set_by_id c a s small ∙ is.goes_on (set_to c a s) in
      subst (λ (o : Outcome). Means r o) (sym on_queue)
      (subst (λ (x : Result QueueEntry Errno). Means x (set_to c a s q)) (sym (ap (set_entry c a) is.entry) ∙ at)
      (means (is_owner c q.permissions) (raises c a.qbytes q)))

  pub set_refused : (errno : Errno) → set_entry c a e ≡ Err errno → outcome c (Set a) s ≡ refuse errno s
  set_refused errno at = set_means (Err errno) at

  -- a refusal writes nothing
  pub refused_plan : (errno : Errno) → set_entry c a e ≡ Err errno → set_plan c a (Found e) ≡ nothing
  refused_plan errno at = rw (small, at) refl

  -- ---- the one write

  abbrev its_record : Record
  its_record = records.Queue (queue_entry new)

  abbrev its_write : Write
  its_write = Replace its_record

  abbrev its_plan : Plan
  its_plan = record { trials = []; slots = Some its_write ∷ [] }

  stood : record_of s (key_of its_record) ≡ Some (records.Queue (queue_entry q))
  stood = ap (λ (id : ℕ). option_map (λ (q : Queue). records.Queue (queue_entry q)) (find (has_id id) s.queues))
      is.its_id
      ∙ ap (option_map (λ (q : Queue). records.Queue (queue_entry q))) is.found

  stands_then : record_of t (key_of its_record) ≡ Some its_record
  stands_then = ap (λ (id : ℕ). option_map (λ (q : Queue). records.Queue (queue_entry q)) (find (has_id id) t.queues))
      is.its_id
      ∙ ap (option_map (λ (q : Queue). records.Queue (queue_entry q))) (found_new a.id s q new is.found refl refl)

  fills : Fills (record_of s) (record_of t) its_write
  fills = (
    stands_then,
    ap (option_map value_length) stood ∙ ap Some (length-queue (queue_entry q) ∙ sym (length-queue (queue_entry new))),
  )

  missed : (key : RecordKey) → Misses key its_write → key.kind ≡ 3 → key.queue ≡ a.id → key.number ≡ 0 → ⊥
  missed key misses kind queue number =
      let its = is.its_id in
      absurd (grind (arith, nat_tests, kind, queue, number, its, misses))

  set_leads : IsLawful t → Leads its_plan (record_of s) (record_of t)
  set_leads lawful = leads_by (record_of s) (record_of t) its_plan tt (All-nil _) (All-nil _, tt)
      (All-cons (Fills (record_of s) (record_of t)) its_write [] fills (All-nil _))
      (λ key r at. in_range t key r lawful at)
      (λ key none misses. agree_but a.id s q new is.found refl refl key
      (λ kind queue number. missed key (All-head (Misses key) its_write [] misses) kind queue number)
      (λ _ _. refl) (λ _ _. refl))

  pub set_answered : IsFiled s → (bytes : List ℕ) (x : QueueEntry) → set_entry c a e ≡ Ok x →
      IsAnswered c (Set a) (names.Queue a.id ∷ []) bytes s verdicts.Done (set_plan c a (Found e))
  set_answered filed bytes x at =
      let (outcome, same) = set_means (Ok x) at in
      let lawful = IsLawful-Effect c (Set a) answers.Done s t (Effect-outcome c (Set a) answers.Done s t outcome)
      filed.lawful in
      let plan_is : set_plan c a (Found e) ≡ its_plan =
      ap (λ (b : Bool). cond b nothing (plan_by (set_entry c a e))) small
      ∙ ap plan_by (at ∙ ap (λ (y : QueueEntry). Ok y) same) in
      rw plan_is (record {
        after = t;
        outcome = outcome;
        leads = set_leads lawful;
        own = record {
          trials = All-nil (λ (r : Record). Contains (names.Queue a.id ∷ []) (guard_of (key_of r)));
          writes = All-cons (λ (w : Write). Contains (names.Queue a.id ∷ []) (guard_of (key_written w))) its_write []
              (0, omega arith, ap names.Queue (sym is.its_id))
              (All-nil (λ (w : Write). Contains (names.Queue a.id ∷ []) (guard_of (key_written w))));
        };
        idle = λ never. absurd never;
        ordered = record { trials = tt; writes = (All-nil (IsBefore its_write), tt) };
      })
