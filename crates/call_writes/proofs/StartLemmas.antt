-- An access that is under way goes on; else there is none.
use Rattle.std.proofs.Common.{◌≡◌, refl, ℕ, true, false, Option, Some, None}
use Rattle.std.proofs.lemmas.Bool.{true≢false}
use Rattle.std.specs.Option.{is_some}
use Rattle.call_writes.specs.declared.writes.CallWrites.{CallWrites}
use Rattle.call_writes.specs.WriteWords.{AccessView, Plan, RecordKey}
use Rattle.call_writes.specs.MakeSteps.{GoesOn, IsSetOut}

pub goes_on : (hash : RecordKey → ℕ) (p : Plan) (w : CallWrites) → is_some w.access ≡ true → IsSetOut hash p w w
goes_on hash p w some = by w.access refl some
  where
    by : (o : Option AccessView) → w.access ≡ o → is_some o ≡ true → IsSetOut hash p w w
    by None is there = absurd cc
    by (Some a) is there = GoesOn a is refl

pub none_of : {X : Type 0} (o : Option X) → is_some o ≡ false → o ≡ None
none_of None none = refl
none_of (Some x) some = absurd (true≢false some)
