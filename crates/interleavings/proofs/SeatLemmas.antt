-- What two seats hold and owe, beside one another.
use Rattle.std.proofs.Common.{ℕ, ◌≡◌, ◌≢◌, refl, sym, ◌∙◌, subst, Bool, true, false, Option, Some, None, IsSome}
use Rattle.page_locks.specs.Table.{held}
use Rattle.step_rules.proofs.KnownLemmas.{not_exclusive}
use Rattle.interleavings.specs.xsi_calls.Words.{Exclusive, guard_of}
use Rattle.interleavings.specs.ConcurrentWords.{CallView, Change, PoolState, RecordKey, Records, State, Table, owes_at, row_of, world}
use Rattle.interleavings.specs.Together.{AreTogether, IsUnderWay, IsWell, Seats, locks_of, owes_of}
use Rattle.interleavings.specs.ConcurrentLaws.{OweApart}
use Rattle.interleavings.proofs.PlaceLemmas.{held_by, owns}

-- ---- the call of a seat

pub well : (hash : RecordKey → ℕ) (seat : ℕ) (s : State) (o : Option CallView) (records : Records) (pool : PoolState)
    (locks : Table) (change : Change) (m : CallView) → o ≡ Some m →
    IsWell hash seat s o records pool locks change → IsUnderWay hash seat s m records pool locks change
well hash seat s o records pool locks change m is there =
    subst (λ (x : Option CallView). IsWell hash seat s x records pool locks change) is there

-- ---- what a seat owes it holds Exclusive

module _ (hash : RecordKey → ℕ) (s : State) (records : Records) (pool : PoolState) (locks : Table) (change : Change)
  where
    pub owes_held : (seat : ℕ) (o : Option CallView) → row_of locks seat ≡ locks_of o →
        IsWell hash seat s o records pool locks change → (key : RecordKey) → owes_at (owes_of o) key ≡ true →
        held locks seat (guard_of key) ≡ Some Exclusive
    owes_held seat None row is key there = absurd cc
    owes_held seat (Some m) row is key there =
        held_by locks seat m row key ∙ owns hash seat s m records pool locks change is.calls key there

-- and what one holds in whatever kind no other owes
module _ (hash : RecordKey → ℕ) (s : State) (seats : Seats) (pool : PoolState) (locks : Table)
    (t : AreTogether hash s seats pool locks) where
  pub none_beside : (seat other : ℕ) → seat ≢ other → (key : RecordKey) → IsSome (held locks seat (guard_of key)) →
      owes_at (owes_of (seats other)) key ≡ false
  none_beside seat other apart key mine = by (owes_at (owes_of (seats other)) key) refl
    where
      by : (b : Bool) → owes_at (owes_of (seats other)) key ≡ b → b ≡ false
      by false is = refl
      by true is = absurd (not_exclusive (world pool.images locks t.change) seat other (guard_of key)
          t.sound.lawful.pairs apart mine (owes_held hash s t.records pool locks t.change other (seats other)
          (t.rows other) (t.calls other) key is))

  pub owe_apart : (seat other : ℕ) → seat ≢ other → (key : RecordKey) →
      owes_at (owes_of (seats seat)) key ≡ true → owes_at (owes_of (seats other)) key ≡ false
  owe_apart seat other apart key there = none_beside seat other apart key
      (subst IsSome (sym (owes_held hash s t.records pool locks t.change seat (seats seat) (t.rows seat) (t.calls seat)
      key there)) refl)

pub apart_owing : OweApart
apart_owing hash s seats pool locks t seat other apart key there =
    owe_apart hash s seats pool locks t seat other apart key there
