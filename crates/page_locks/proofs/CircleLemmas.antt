-- Steps in a circle.
use Rattle.std.proofs.Common.{arith, ◌≡◌, ℕ, ◌+◌, ◌-◌, ◌<◌, ◌≤◌}
use Rattle.page_locks.specs.declared.slot.TheConstants.{SLOTS}
use Rattle.page_locks.specs.Probing.{after, gap}

pub after-lt : (from steps : ℕ) → after from steps < SLOTS
after-lt from steps = omega arith

pub gap-lt : (from to : ℕ) → gap from to < SLOTS
gap-lt from to = omega arith

pub after-gap : (from to : ℕ) → from < SLOTS → to < SLOTS → after from (gap from to) ≡ to
after-gap from to f t = omega arith

pub gap-after : (from steps : ℕ) → from < SLOTS → steps < SLOTS → gap from (after from steps) ≡ steps
gap-after from steps f s = omega arith

pub after-after : (from a b : ℕ) → after (after from a) b ≡ after from (a + b)
after-after from a b = omega arith

pub after-none : (from : ℕ) → from < SLOTS → after from 0 ≡ from
after-none from f = omega arith

-- a slot on the way is nearer
pub gap-on_way : (from mid to steps : ℕ) → from < SLOTS → to < SLOTS → after from steps ≡ mid → steps < gap from to →
    gap mid to + steps ≡ gap from to
gap-on_way from mid to steps f t at lt = omega arith

-- of two slots on a circle, one comes first
pub gap-between : (a b to : ℕ) → a < SLOTS → b < SLOTS → to < SLOTS → gap b to < gap a to →
    gap a b + gap b to ≡ gap a to
gap-between a b to p q r lt = omega arith

-- how far apart two slots are that come after one
pub gap-steps_up : (from a b : ℕ) → from < SLOTS → b < SLOTS → a ≤ b → gap (after from a) (after from b) + a ≡ b
gap-steps_up from a b f lt le = omega arith

pub gap-steps_round : (from a b : ℕ) → from < SLOTS → a < SLOTS → b < a →
    gap (after from a) (after from b) + a ≡ b + SLOTS
gap-steps_round from a b f lt le = omega arith

-- a name that moves back comes nearer to its home by as much
pub gap-back : (from start a b : ℕ) → from < SLOTS → start < SLOTS → a < b → b < SLOTS →
    b ≤ gap from (after start b) + a → gap from (after start a) + b ≡ gap from (after start b) + a
gap-back from start a b f s lt within far = omega arith

-- what is nearer than the way's beginning lies on it
pub after-over : (from mid to : ℕ) → from < SLOTS → mid < SLOTS → to < SLOTS → gap mid to ≤ gap from to →
    after from (gap from to - gap mid to) ≡ mid
after-over from mid to f m t le = omega arith
