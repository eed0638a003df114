-- Room for the bytes of the message that a Receive takes.
-- docs/STEPS.md, "Calls".
use Rattle.std.specs.Prelude.{ℕ, ◌≤◌, min, List, length, ⊤}
use Rattle.queue_model.specs.declared.call.Call.{Call}
use Rattle.queue_model.specs.declared.call.Call.TheVariants.{Get, Send, Receive, Stat, Set, Remove}
use Rattle.queue_model.specs.numbers.declared.limits.TheConstants.{MAX_BODY}

-- the bytes in a room, and as how many it has room for
pub record Roomful : Type 0 where
  pub bytes : List ℕ
  pub most : ℕ

-- memory for as many bytes was taken, and there are no more
pub record IsRoom (bytes : List ℕ) (most capacity : ℕ) : Type 0 where
  pub taken : most ≤ capacity
  pub fits : length bytes ≤ most

-- the bytes that a call is answered have room
abbrev pub HasRoom : Call → Roomful → Type 0
HasRoom (Get a) room = ⊤
HasRoom (Send a) room = ⊤
HasRoom (Receive a) room = min a.size MAX_BODY ≤ room.most
HasRoom (Stat id) room = ⊤
HasRoom (Set a) room = ⊤
HasRoom (Remove id) room = ⊤

abbrev pub IsReceive : Call → Type 0
IsReceive (Get a) = ⊥
IsReceive (Send a) = ⊥
IsReceive (Receive a) = ⊤
IsReceive (Stat id) = ⊥
IsReceive (Set a) = ⊥
IsReceive (Remove id) = ⊥
