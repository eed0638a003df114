use Rattle.page_locks.proofs.ChangeLemmas.{ChangesOnly-grant, ChangesOnly-release, ChangesOnly-convert}
use Rattle.page_locks.proofs.laws.changes_are_local.Goals as goal

pub returns : goal.returns
returns c = record {
  grant = λ t seat name kind is. ChangesOnly-grant t seat is name kind;
  release = λ t seat name is. ChangesOnly-release t seat is name;
  convert = λ t seat name kind is. ChangesOnly-convert t seat is name kind;
}
