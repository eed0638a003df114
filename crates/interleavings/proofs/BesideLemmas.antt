-- What a step of another seat leaves to a seat.
use Rattle.std.proofs.Common.{ℕ, ◌≢◌, ◌∙◌, List, [], ◌∷◌, IsTrue}
use Rattle.step_rules.proofs.KnownLemmas.{IsKnown-kept, not_exclusive}
use Rattle.step_rules.specs.Does.{KeepsOthers}
use Rattle.step_rules.specs.Known.{AllKnown}
use Rattle.step_rules.specs.World.{World}
use Rattle.interleavings.specs.SeatWords.{Change, IsFilePool, IsSoundWorld, Known, PoolState, RecordKey, Table, guard_of, world}
use Rattle.interleavings.specs.Beside.{LeavesSeat}
use Rattle.interleavings.specs.SeatLaws.{LeaveWhatTheyRead, OthersLeave, SeesBehind, SeesOn}

pub leave_what_they_read : LeaveWhatTheyRead
leave_what_they_read hash other turn did facts pool pool' locks locks' change step key found not there = record {
  holds = step.others.leaves.records key not ∙ there.holds;
  spelled = there.spelled;
}

-- beside a seat that holds a name no other holds it exclusively
pub keeps_seat : (hash : RecordKey → ℕ) (seat other : ℕ) (pool pool' : PoolState) (locks locks' : Table)
    (change change' : Change) → seat ≢ other → IsSoundWorld hash (world pool.images locks change) →
    IsTrue pool'.honest → IsFilePool pool' →
    KeepsOthers hash other (world pool.images locks change) (world pool'.images locks' change') →
    LeavesSeat hash seat pool pool' locks locks' change change'
keeps_seat hash seat other pool pool' locks locks' change change' apart sound honest file keeps =
    let old : World = world pool.images locks change in
    let new : World = world pool'.images locks' change' in
    record {
      honest = honest;
      file = file;
      sound = keeps.sound;
      row = keeps.leaves.rows seat apart;
      known = IsKnown-kept hash seat other old new apart sound keeps.leaves;
      stands = λ key found mine there. record {
        holds = keeps.leaves.records key (not_exclusive old seat other (guard_of key) sound.lawful.pairs apart mine)
            ∙ there.holds;
        spelled = there.spelled;
      };
    }

pub others_leave : OthersLeave
others_leave hash seat other turn did facts pool pool' locks locks' change apart sound honest step =
    keeps_seat hash seat other pool pool' locks locks' change step.after apart sound honest step.file step.others

-- ---- what it sees

pub sees_behind : SeesBehind
sees_behind hash seat turn did facts pool pool' locks locks' change honest step =
    record { honest = honest; file = step.file; sound = step.others.sound; known = step.known }

all_known : (hash : RecordKey → ℕ) (seat : ℕ) (pool pool' : PoolState) (locks locks' : Table)
    (change change' : Change) → LeavesSeat hash seat pool pool' locks locks' change change' → (facts : List Known) →
    AllKnown seat (world pool.images locks change) facts → AllKnown seat (world pool'.images locks' change') facts
all_known hash seat pool pool' locks locks' change change' leaves [] known = tt
all_known hash seat pool pool' locks locks' change change' leaves (fact ∷ facts) known = (
  leaves.known fact known.0,
  all_known hash seat pool pool' locks locks' change change' leaves facts known.1,
)

pub sees_on : SeesOn
sees_on hash seat facts pool pool' locks locks' change change' leaves sees = record {
  honest = leaves.honest;
  file = leaves.file;
  sound = leaves.sound;
  known = all_known hash seat pool pool' locks locks' change change' leaves facts sees.known;
}
