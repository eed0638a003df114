-- A plan that is carried out, and a payment, beside another seat.
use Rattle.std.proofs.Common.{ℕ, ◌≡◌, sym, ap, ◌∙◌, subst, List, Option, Some, None, IsSome}
use Rattle.xsi_calls.proofs.of_call_writes.RecordLemmas.{swept_guard, without_at}
use Rattle.xsi_calls.specs.call_writes.PaymentStages as stages
use Rattle.xsi_calls.specs.call_writes.Paying.{IsPayingSweep}
use Rattle.xsi_calls.specs.call_writes.PaymentWords.{Faces, IsCarrying, Owns, Work, sweep_facts, sweep_locks, writes_facts, writes_locks}
use Rattle.xsi_calls.specs.call_writes.declared.writes.CallWrites.{CallWrites}
use Rattle.xsi_calls.specs.UndecidedBelow.{AccessView, Allows, IsUnderWay, access_key, made, purpose_of}
use Rattle.xsi_calls.specs.call_writes.declared.due.Due.{Due}
use Rattle.queue_model.specs.declared.queue.Queue.{Queue}
use Rattle.interleavings.specs.SeatWords.{AreSameUnder, Change, IsPaying, Known, Lock, Plan, PoolState, Record, RecordKey, Records, Sees, Stage, StandsAt, State, Table, guard_of, kind_of, store_of}
use Rattle.interleavings.specs.Beside.{HoldsNames, LeavesSeat}
use Rattle.interleavings.specs.SeatLaws.{PaysOn}
use Rattle.interleavings.proofs.BesideLemmas.{sees_on}
use Rattle.interleavings.proofs.SeatNameLemmas.{held_so, holds_names, owned, sweep_aside, writes_aside}
use Rattle.interleavings.proofs.OwnLemmas.{can_go_over}

-- ---- an access under way

module _ (hash : RecordKey → ℕ) (names : List Lock) (p : Plan) (due : Due) (records others : Records)
    (same : AreSameUnder names records others) where
  under_way : (o : Option AccessView) → IsUnderWay hash names p due records o → IsUnderWay hash names p due others o
  under_way None doing = tt
  under_way (Some a) (d, doing) =
      let there = same (access_key a) (owned names (access_key a) doing.owns) in (
        d,
        record {
          serves = doing.serves;
          keyed = doing.keyed;
          owns = doing.owns;
          allows = subst (λ (found : Option Record). Allows (purpose_of d) a found) there doing.allows;
          next = doing.next;
          paid = λ written. subst (λ (found : Option Record). made (purpose_of d) found ≡ found) there
              (doing.paid written);
        },
      )

module _ (hash : RecordKey → ℕ) (seat : ℕ) (pool pool' : PoolState) (locks locks' : Table) (change change' : Change)
    (leaves : LeavesSeat hash seat pool pool' locks locks' change change') where
  sees : (facts : List Known) → Sees hash seat facts pool locks change → Sees hash seat facts pool' locks' change'
  sees facts old = sees_on hash seat facts pool pool' locks locks' change change' leaves old

  -- what stands under names behind which the seat has other locks
  module _ (names : List Lock) (holds : HoldsNames locks seat names) where
    stands_same : (records others : Records) → AreSameUnder names records others →
        ((key : RecordKey) → IsSome (kind_of names (guard_of key)) →
        StandsAt (store_of pool.images) key (records key)) →
        (key : RecordKey) → IsSome (kind_of names (guard_of key)) →
        StandsAt (store_of pool'.images) key (others key)
    stands_same records others same stands key mine =
        subst (StandsAt (store_of pool'.images) key) (same key mine)
        (leaves.stands key (records key) (held_so locks seat names holds key mine) (stands key mine))

  -- ---- a plan

  pub carries_on : (names : List Lock) (p : Plan) (w : CallWrites) (records others : Records) →
      AreSameUnder names records others → IsCarrying hash seat names p w records pool locks change →
      IsCarrying hash seat names p w others pool' locks' change'
  carries_on names p w records others same c = record {
    small = c.small;
    sees = sees (writes_facts w) c.sees;
    bare = c.bare;
    row = leaves.row ∙ c.row;
    own = c.own;
    stands = stands_same names (holds_names locks seat names (writes_locks w names) c.row
        (writes_aside w.access names)) records others same c.stands;
    can = can_go_over (Owns names) p w.due records others c.own.trials c.own.writes
        (λ key owns. same key (owned names key owns)) c.can;
    doing = under_way hash names p w.due records others same w.access c.doing;
    going = c.going;
  }

  -- ---- a sweep

  faces_on : (names : List Lock) (id count : ℕ) (q : Queue) (s : State) (v : Option Work) →
      Faces hash seat names id count q s v pool locks change → Faces hash seat names id count q s v pool' locks' change'
  faces_on names id count q s v f = record {
    sees = sees (sweep_facts v) f.sees;
    bare = f.bare;
    owns = f.owns;
    row = leaves.row ∙ f.row;
    sweeps = record {
      filed = f.sweeps.filed;
      alive = f.sweeps.alive;
      stands = λ key its. leaves.stands key _ (held_so locks seat names
          (holds_names locks seat names (sweep_locks v names) f.row (sweep_aside v names)) key
          (owned names key (ap (kind_of names) (swept_guard id key its) ∙ f.owns))) (f.sweeps.stands key its);
      works = f.sweeps.works;
    };
  }

  sweeps_on : (names : List Lock) (p : Plan) (v : Option Work) (records others : Records) →
      AreSameUnder names records others → IsPayingSweep hash seat names p v records pool locks change →
      IsPayingSweep hash seat names p v others pool' locks' change'
  sweeps_on names p v records others same y = record {
    id = y.id;
    count = y.count;
    queue = y.queue;
    system = y.system;
    faces = faces_on names y.id y.count y.queue y.system v y.faces;
    goes_on = y.goes_on;
    few = y.few;
    small = y.small;
    own = y.own;
    stands = stands_same names (holds_names locks seat names (sweep_locks v names) y.faces.row
        (sweep_aside v names)) records others same y.stands;
    behind = λ more alike. y.behind more (λ key mine. alike key mine
        ∙ without_at y.id others records key (sym (same key mine)));
  }

  pub pays : (names : List Lock) (p : Plan) (v : Stage) (records others : Records) →
      AreSameUnder names records others → IsPaying hash seat names p v records pool locks change →
      IsPaying hash seat names p v others pool' locks' change'
  pays names p (stages.Sweeping v) records others same y = sweeps_on names p v records others same y
  pays names p (stages.Writing w) records others same y =
      record { carries = carries_on names p w records others same y.carries; decided = y.decided }

pub pays_on : PaysOn
pays_on hash seat names p v records others same pool pool' locks locks' change change' leaves y =
    pays hash seat pool pool' locks locks' change change' leaves names p v records others same y
