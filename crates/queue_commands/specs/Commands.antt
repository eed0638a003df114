-- What each command asks, and what it prints. docs/SHELL.md, "What a command asks".
use Rattle.std.specs.Prelude.{ℕ, List}
use Rattle.queue_model.specs.State.{State}
use Rattle.queue_model.specs.declared.caller.Caller.{Caller}
use Rattle.queue_commands.specs.Asking.{Asking}
use Rattle.queue_commands.specs.Changing.{MakesAs, RemovesAs, SetsAs}
use Rattle.queue_commands.specs.Receiving.{ReceivesAs}
use Rattle.queue_commands.specs.Sending.{SendsAs}
use Rattle.queue_commands.specs.declared.request.Command.{Command}
use Rattle.queue_commands.specs.declared.request.Command.TheVariants.{Send, Receive, Make, Remove, Set}
use Rattle.queue_commands.specs.declared.request.Request.{Request}

-- the text that a command prints, or why it is refused; and the system that it leaves
abbrev pub CommandsAs : Caller → ℕ → Command → State → Asking (List ℕ)
CommandsAs c moment (Send sending) s = SendsAs c moment sending s
CommandsAs c moment (Receive receiving) s = ReceivesAs c moment receiving s
CommandsAs c moment (Make key new) s = MakesAs c moment key new s
CommandsAs c moment (Remove queue) s = RemovesAs c moment queue s
CommandsAs c moment (Set setting) s = SetsAs c moment setting s

abbrev pub AsksAs : Caller → Request → State → Asking (List ℕ)
AsksAs c r s = CommandsAs c r.moment r.command s
