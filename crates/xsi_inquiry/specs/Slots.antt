-- The writes of a plan that are left from a slot on.
-- docs/STEPS.md, "What a call writes".
use Rattle.std.specs.Prelude.{◌≡◌, ℕ, ◌+◌, ◌≤◌, ◌<◌, List, ◌∷◌, drop}
use Rattle.xsi_inquiry.specs.declared.write.TheConstants.{MAX_WRITES}
use Rattle.xsi_inquiry.specs.declared.write.Write.{Write}
use Rattle.xsi_inquiry.specs.Writing.{Plan, somes}

-- all of them are left from slot 0 on
abbrev pub writes_left : Plan → ℕ → List Write
writes_left p slot = somes (drop slot p.slots)

-- of the writes left from a slot on the first stands in this slot, and the others are those left behind it
pub record IsNextWrite (p : Plan) (from slot : ℕ) (write : Write) : Type 0 where
  pub behind : from ≤ slot
  pub within : slot < MAX_WRITES
  -- those between are empty
  pub same : writes_left p from ≡ writes_left p slot
  pub first : writes_left p from ≡ write ∷ writes_left p (slot + 1)
