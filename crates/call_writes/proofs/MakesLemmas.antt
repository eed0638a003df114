-- What the parts of a step of a call that writes do together.
use Rattle.std.proofs.Common.{ℕ}
use Rattle.call_writes.proofs.CarriesLemmas.{carries, turns_away}
use Rattle.call_writes.proofs.NearLemmas.{nears}
use Rattle.call_writes.proofs.SortLemmas.{IsSorted, sorted}
use Rattle.call_writes.proofs.WriteNames.{FileFault}
use Rattle.call_writes.proofs.WriteStepLemmas.{causes, follows_row, keeps_plan, only_writes}
use Rattle.call_writes.specs.declared.writes.CallWrites.{CallWrites}
use Rattle.call_writes.specs.MakeSteps.{MakesWrites, TakesStep}
use Rattle.call_writes.specs.WriteWords.{RecordKey, Plan, PoolState, Table, IsReady, IsSeat, Progress}

pub makes_writes : (hash : RecordKey → ℕ) (seat : ℕ) (p : Plan) (did : Progress FileFault) (old new : CallWrites)
    (pool pool' : PoolState) (locks locks' : Table) → IsSeat locks seat → IsReady pool →
    TakesStep hash seat p did old new pool pool' locks locks' →
    MakesWrites hash seat p did old new pool pool' locks locks'
makes_writes hash seat p did old new pool pool' locks locks' seated ready takes = record {
  takes = takes;
  writes = only_writes hash seat p did old new pool pool' locks locks' ready parts;
  cause = causes hash seat p did old new pool pool' locks locks' parts;
  aim = keeps_plan hash seat p did old new pool pool' locks locks' parts;
  row = follows_row hash seat p did old new pool pool' locks locks' parts;
  progress = λ names records change carrying.
      nears hash seat p did old new pool pool' locks locks' seated names records change carrying parts;
  step = λ names records change carrying fine.
      carries hash seat p did old new pool pool' locks locks' seated names records change carrying fine parts;
  turns_away = λ names records change carrying fine.
      turns_away hash seat p did old new pool pool' locks locks' seated names records change carrying fine parts;
}
  where
    parts : IsSorted hash seat p did old new pool pool' locks locks'
    parts = sorted hash seat p did old new pool pool' locks locks' takes
