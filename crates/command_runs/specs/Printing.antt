-- An output for texts. docs/SHELL.md, "What a command asks".
use Rattle.std.specs.Prelude.{ℕ, Bool, List, Option}

pub record PrinterState : Type 0 where
  -- the bytes that its writer holds, where they are known
  pub held : Option (List ℕ)
  -- whether that has refused a text
  pub refused : Bool
