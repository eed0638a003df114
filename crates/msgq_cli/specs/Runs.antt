-- What is printed for the lines of a script, and how a run ends. docs/SCRIPTS.md, "Runs" and "Exit status".
use Rattle.std.specs.Prelude.{ℕ, Bool, true, false, List, [], ◌∷◌, ◌++◌, if◌then◌else◌}
use Rattle.std.specs.List.{list_any}
use Rattle.msgq_cli.specs.Answers.{reply_text}
use Rattle.msgq_cli.specs.declared.ending.Ending.{Ending}
use Rattle.msgq_cli.specs.declared.ending.Ending.TheVariants.{Done, Faulty, Failed, Unopened, WrongLine, WrongWord}
use Rattle.msgq_cli.specs.declared.line.Line.{Line}
use Rattle.msgq_cli.specs.declared.reply.Reply.{Reply}
use Rattle.msgq_cli.specs.declared.reply.Reply.TheVariants as replies

-- what is printed for the lines
abbrev pub printed : List Line → List Reply → List ℕ
printed (line ∷ lines) (reply ∷ replies) = reply_text line.number reply ++ printed lines replies
printed lines replies = []

-- it is a fault
abbrev pub is_fault : Reply → Bool
is_fault (replies.Answered answer) = false
is_fault replies.Stopped = false
is_fault (replies.Failed fault) = true

-- how a run ends that replied this
abbrev pub ending_of : List Reply → Ending
ending_of replies = if list_any is_fault replies then Faulty else Done

-- the exit status of a program that ends so, and whose output refused a write or did not
abbrev pub status_of : Bool → Ending → ℕ
status_of refused (WrongLine line) = 2
status_of refused (WrongWord word) = 2
status_of refused Faulty = 1
status_of refused (Failed failure) = 1
status_of refused (Unopened refusal) = 1
status_of true Done = 1
status_of false Done = 0
