-- What the command line of a shell's command asks for. docs/SHELL.md.
use Rattle.std.specs.Prelude.{ℕ, ◌≡◌, List, codes, Option, Some, option_map, ⊤, IfSome}
use Rattle.clap.specs.declared.parser.matches.Found.{Found}
use Rattle.clap.specs.Matches.{first_value}
use Rattle.schedules.specs.Numbers.{number_of}
use Rattle.msgq_cli.specs.Tasks.{IsFileSize}
use Rattle.command_runs.specs.declared.task.CallerIds.{CallerIds}
use Rattle.command_runs.specs.declared.task.ShellTask.{ShellTask}
use Rattle.command_runs.specs.declared.task.Creation.{Creation}
use Rattle.command_runs.specs.declared.task.Deed.{Deed}
use Rattle.command_runs.specs.declared.task.Deed.TheVariants.{Send, Receive, Peek, List as Lists, Make, Remove, Set}

-- a file can have the pages asked for
abbrev pub CanBeMade : Creation → Type 0
CanBeMade creation = IsFileSize creation.pages

-- so it is where one is to be made
abbrev pub DeedHasPages : Deed → Type 0
DeedHasPages (Send sending) = IfSome sending.create CanBeMade
DeedHasPages (Receive receiving) = IfSome receiving.create CanBeMade
DeedHasPages (Peek receiving) = ⊤
DeedHasPages (Lists queue json) = ⊤
DeedHasPages (Make key new) = ⊤
DeedHasPages (Remove queue) = ⊤
DeedHasPages (Set setting) = ⊤

abbrev pub HasPages : ShellTask → Type 0
HasPages task = DeedHasPages task.deed

-- a number is that of an option's word, and none where the option is not given
abbrev pub IsNumberOf : Found → List ℕ → Option ℕ → Type 0
IsNumberOf given name number = option_map number_of (first_value given name) ≡ option_map Some number

-- who calls is as the options say it
pub record CallsAs (given : Found) (ids : CallerIds) : Type 0 where
  pub pid : IsNumberOf given (codes "pid") ids.pid
  pub uid : IsNumberOf given (codes "uid") ids.uid
  pub gid : IsNumberOf given (codes "gid") ids.gid
