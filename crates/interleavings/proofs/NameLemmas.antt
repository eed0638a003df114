-- The names that a seat holds are those of its call.
use Rattle.std.proofs.Common.{ℕ, ◌≡◌, ◌∙◌, sym, ap, subst, false, Option, Some}
use Rattle.queue_model.proofs.JournalLemmas.{after-LeadsAlong}
use Rattle.interleavings.proofs.PlaceLemmas.{held_by, names_of}
use Rattle.interleavings.proofs.SeatLemmas.{well}
use Rattle.interleavings.specs.Together.{AreTogether, IsUnderWay, locks_of}
use Rattle.interleaving_core.specs.xsi_calls.Laws.{HoldTheirNames, NameWhatIsThere}
use Rattle.interleaving_core.specs.xsi_calls.ToldNames.{AreNamesIn}
use Rattle.interleaving_core.specs.xsi_calls.Words.{row_of}
use Rattle.interleaving_core.specs.xsi_calls.Machine.{call_locks}
use Rattle.page_locks.specs.Locks.{kind_of}
use Rattle.page_locks.specs.Table.{held}
use Rattle.page_locks.specs.declared.lock.LockName.{LockName}
use Rattle.page_locks.specs.declared.lock.LockName.TheVariants as names
use Rattle.interleavings.specs.ConcurrentWords.{counter_key, key_of_key, key_of_queue}
use Rattle.interleavings.specs.Words.{ActiveView, CallView, KernelState, RecordKey, State, call_at}
use Rattle.interleavings.specs.Laws.{IsOfRecords, SeatsHoldTheirNames}
use Rattle.interleavings.specs.Refining.{Refines, calls_of}
use Rattle.interleavings.proofs.LeadLemmas.{machine}

module _ {K : Type 0} (hash : RecordKey → ℕ) (base : State) (k : KernelState K) (seat : ℕ) (a : ActiveView)
    (led : Refines hash base k) (sound : k.failed ≡ false) (there : call_at k.seats seat ≡ Some a) where
  abbrev together : AreTogether hash led.now (calls_of k.seats) k.pool k.locks
  together = (led.together sound).calls

  pub under_way : IsUnderWay hash seat led.now a.machine together.records k.pool k.locks together.change
  under_way = well hash seat led.now (calls_of k.seats seat) together.records k.pool k.locks together.change a.machine
      (ap machine there) (together.calls seat)

  row : row_of k.locks seat ≡ call_locks a.machine
  row = together.rows seat ∙ ap (λ (o : Option CallView). locks_of o) (ap machine there)

  -- each such name is that of some record
  holds : (name : LockName) → IsOfRecords name → held k.locks seat name ≡ kind_of (names_of a.machine) name
  holds (names.Key key) of_records = held_by k.locks seat a.machine row (key_of_key key)
  holds names.Counter of_records = held_by k.locks seat a.machine row counter_key
  holds (names.Queue id) of_records = held_by k.locks seat a.machine row (key_of_queue id)
  holds names.Directory of_records = absurd of_records
  holds (names.Page page) of_records = absurd of_records

pub seats_hold : HoldTheirNames → NameWhatIsThere → (K : Type 0) → SeatsHoldTheirNames K
seats_hold hold name K hash base k seat a led sound there =
    let calls = (led.together sound).calls in
    record {
      names = names_of a.machine;
      of_call = hold hash seat led.now a.machine calls.records k.pool k.locks calls.change
          (under_way hash base k seat a led sound there).calls;
      there = λ undecided. subst (λ (s : State). AreNamesIn a.machine.call a.machine.undecided.questions.inquiry s
          (names_of a.machine)) (sym (after-LeadsAlong k.callers k.journal base led.now led.leads))
          (name hash seat led.now a.machine calls.records k.pool k.locks calls.change undecided
          (under_way hash base k seat a led sound there).calls);
      holds = holds hash base k seat a led sound there;
    }
