-- What was inserted on trial under names is owed under these again.
use Rattle.std.proofs.Common.{List}
use Rattle.std.specs.List.{All, Contains}
use Rattle.call_writes.proofs.OwnLemmas.{own_written, undoing_own}
use Rattle.xsi_calls.proofs.Names.{Record, Writes, key_of, undoing}
use Rattle.xsi_calls.specs.Words.{LockName, OwesUnder, RecordKey, guard_of}

module _ (held : List LockName) where
  abbrev IsHeld : RecordKey → Type 0
  IsHeld key = Contains held (guard_of key)

  abbrev pub IsOwnTrial : Record → Type 0
  IsOwnTrial r = Contains held (guard_of (key_of r))

  pub undoing_under : (rs : List Record) → All IsOwnTrial rs → OwesUnder held (Writes (undoing rs))
  undoing_under rs own key there = own_written IsHeld (undoing rs) key (undoing_own IsHeld rs own) there
