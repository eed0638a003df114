-- How a sweep begins and ends.
use Rattle.std.proofs.Common.{◌≡◌, refl, sym, ap, ◌∙◌, subst, ℕ, ◌≤◌, true, length, Option, Some, None, arith}
use Rattle.std.proofs.lemmas.Bool.{true≢false}
use Rattle.std.specs.List.{find}
use Rattle.call_decisions.proofs.DecideLemmas.{none_left as none_stands}
use Rattle.call_decisions.specs.Owing.{without_swept}
use Rattle.queue_model.specs.Rules.{has_id}
use Rattle.type_chains.specs.Lists.{serials}
use Rattle.type_chains.specs.Neighbours.{first_of}
use Rattle.type_chains.specs.RecordOf.{record_of}
use Rattle.xsi_control.specs.RemoveWords.{find-Some, lawful_queue}
use Rattle.xsi_control.proofs.SweepLemmas.{begins_whole}
use Rattle.xsi_remove.proofs.NextLemmas.{none_left}
use Rattle.xsi_remove.specs.Laws.{BeginsRight, EndsSwept}
use Rattle.xsi_remove.specs.Sweeps.{IsWorking, begun_at, begun_sweep, records_left, sweep_left}
use Rattle.xsi_remove.specs.Words.{RecordKey, Store, StandsAt, Queue, State, Sweep, is_swept, swept, IsFiled, Records, MAX_MESSAGES}

module _ (hash : RecordKey → ℕ) (id : ℕ) (q : Queue) (s : State) (file : Store) (filed : IsFiled s)
    (alive : find (has_id id) s.queues ≡ Some q) where
  few : length q.messages ≤ MAX_MESSAGES
  few = (lawful_queue s filed.lawful q (find-Some (has_id id) s.queues q alive).1).few_messages

  works : (first : Option ℕ) → first ≡ first_of (serials q.messages) → IsWorking hash id 0 q s (begun_at hash id first)
  works None none = none_left q.messages 0 (omega arith) (sym none)
  works (Some serial) first =
      let within = few in
      record {
        its = refl;
        at = record { alive = alive; first = sym first };
        read = λ none. refl;
        told = λ there. absurd cc;
        enough = omega (arith, within);
        serves = record { kind = tt; key = refl; links = refl; value = tt; limits = tt };
        keyed = refl;
        allows = tt;
        goes_on = λ is. true≢false (sym is);
      }

  whole : (first : Option ℕ) (key : RecordKey) → records_left id 0 s (begun_at hash id first) key ≡ record_of s key
  whole None key = begins_whole id s key
  whole (Some serial) key = begins_whole id s key

pub begins_right : BeginsRight
begins_right hash sweep q s file filed alive first stands = record {
  filed = filed;
  alive = alive;
  stands = λ key its. subst (StandsAt file key) (sym (whole hash sweep.id q s file filed alive sweep.first key))
      (stands key its);
  works = works hash sweep.id q s file filed alive sweep.first first;
}

-- ---- its end

swept_gone : (id : ℕ) (records : Records) (key : RecordKey) → is_swept id key ≡ true →
    without_swept id records key ≡ None
swept_gone id records key its = rw its refl

pub ends_swept : EndsSwept
ends_swept hash id count q s file sweeping key its =
    subst (StandsAt file key) (ap (λ (n : ℕ). swept id n s key) sweeping.works
    ∙ sym (none_stands id s q key sweeping.alive) ∙ swept_gone id (record_of s) key its) (sweeping.stands key its)

-- ---- its steps

-- a find and two deletions for each message that may stand on a queue
abbrev pub MOST_SWEEP_STEPS : ℕ
MOST_SWEEP_STEPS = 633856

few_steps : (hash : RecordKey → ℕ) (id : ℕ) (first : Option ℕ) (file : Store) →
    sweep_left (begun_at hash id first) file ≤ MOST_SWEEP_STEPS
few_steps hash id None file = omega arith
few_steps hash id (Some serial) file = omega arith

pub has_few_steps : (hash : RecordKey → ℕ) (sweep : Sweep) (file : Store) →
    sweep_left (begun_sweep hash sweep) file ≤ MOST_SWEEP_STEPS
has_few_steps hash sweep file = few_steps hash sweep.id sweep.first file
