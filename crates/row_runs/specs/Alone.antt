-- A call that is alone at a file.
use Rattle.std.specs.Prelude.{◌≡◌, [], ◌∷◌}
use Rattle.xsi_calls.specs.Words.{IsReady, PoolState, Table}
use Rattle.xsi_calls.specs.Machine.{CallView, call_locks}

-- nothing is pinned, and the one seat there is holds what its call says
pub record IsAlone (pool : PoolState) (locks : Table) (call : CallView) : Type 0 where
  pub ready : IsReady pool
  pub row : locks ≡ call_locks call ∷ []
