-- What is held back is handed to the relay, once it is as durable as it has to be. docs/PROTOCOL.md.
use Rattle.std.specs.Prelude.{ℕ, ◌≡◌, ◌≢◌, Bool, List, [], Option, Result, Ok, Err}
use Rattle.std.specs.Io.KnownBytes.{Appends, Keeps}
use Rattle.safe_device.specs.Left.{Left}
use Rattle.durable_desk.specs.Durable.{IsMade}
use Rattle.serving.specs.Serving.{ServerState}
use Rattle.serving.specs.declared.durability.Durability.TheVariants.{EachGroup}
use Rattle.serving.specs.declared.trouble.Unreleased.{Unreleased}
use Rattle.serving.specs.declared.trouble.Unreleased.TheVariants.{Uncommitted, Refused, NoMemory}

-- where each group is saved before it is told: the file is that of the system that the desk serves, and a crash leaves
-- it so; and else nothing was done with the desk
pub record IsBehind {P : Type 0} (honest : Bool) (may_leave : P → Left → Type 0) (old new : ServerState P) : Type 0
  where
    pub group : old.durability ≡ EachGroup → IsMade honest may_leave old.desk new.desk
    pub others : old.durability ≢ EachGroup → new.desk ≡ old.desk

-- the output has all that was held, and nothing else; a flush keeps it
pub record HasGot (held : List ℕ) (old new : Option (List ℕ)) : Type 0 where
  pub written : Option (List ℕ)
  pub grows : Appends old written held
  pub kept : Keeps written new

pub record IsReleased {P : Type 0} (honest : Bool) (may_leave : P → Left → Type 0) (old new : ServerState P)
    (out then : Option (List ℕ)) : Type 0 where
  pub behind : IsBehind honest may_leave old new
  pub got : HasGot old.held out then
  pub held : new.held ≡ []

-- what could not be saved first is not handed out
abbrev pub Releases : {P : Type 0} → Bool → (P → Left → Type 0) → Result Unit Unreleased → (old new : ServerState P) →
    (out then : Option (List ℕ)) → Type 0
Releases honest may_leave (Ok done) old new out then = IsReleased honest may_leave old new out then
Releases honest may_leave (Err (Uncommitted why)) old new out then = then ≡ out
Releases honest may_leave (Err (Refused error)) old new out then = IsBehind honest may_leave old new
Releases honest may_leave (Err NoMemory) old new out then = then ≡ out
