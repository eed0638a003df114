-- What a command line asks for. docs/SCRIPTS.md, "Runs".
use Rattle.std.specs.Prelude.{ℕ, ◌≡◌, ◌≤◌, ◌&&◌, nat_le, Bool, false, List, codes, Option, Some, None, ⊤, if◌then◌else◌}
use Rattle.std.specs.Str.{bytes_eq}
use Rattle.page_device.specs.declared.page.TheConstants.{MAX_PAGES}
use Rattle.directory.specs.declared.layout.TheConstants.{LEAST_PAGES}
use Rattle.schedules.specs.Numbers.{number_of}
use Rattle.schedules.specs.Reading.{◌>>=◌}
use Rattle.msgq_cli.specs.declared.command_line.Task.{Task}
use Rattle.msgq_cli.specs.declared.command_line.Task.TheVariants.{Serve, New, Run, Replay, Migrate, Copy, Grow, Salvage, Report, Map}

-- a file can have so many pages
pub record IsFileSize (pages : ℕ) : Type 0 where
  pub least : LEAST_PAGES ≤ pages
  pub most : pages ≤ MAX_PAGES

-- the number of pages that a word asks for: decimal digits alone, and a number within the limits
abbrev pub within_limits : ℕ → Option ℕ
within_limits pages = if nat_le LEAST_PAGES pages && nat_le pages MAX_PAGES then Some pages else None

abbrev pub pages_of : List ℕ → Option ℕ
pages_of word = number_of word >>= within_limits

-- where a file is to be made, it can have the pages asked for
abbrev pub HasPages : Task → Type 0
HasPages Serve = ⊤
HasPages (New file pages) = IsFileSize pages
HasPages (Run file script) = ⊤
HasPages (Replay file script schedule is_traced) = ⊤
HasPages (Migrate old new) = ⊤
HasPages (Copy old new pages) = IsFileSize pages
HasPages (Grow file pages) = IsFileSize pages
HasPages (Salvage old new pages) = IsFileSize pages
HasPages (Report request) = ⊤
HasPages (Map file) = ⊤

-- this names the text of standard input
abbrev pub is_input : List ℕ → Bool
is_input name = bytes_eq name (codes "-")

-- standard input is one text at most
abbrev pub ReadsInputOnce : Task → Type 0
ReadsInputOnce Serve = ⊤
ReadsInputOnce (New file pages) = ⊤
ReadsInputOnce (Run file script) = ⊤
ReadsInputOnce (Replay file script schedule is_traced) = (is_input script.now && is_input schedule.now) ≡ false
ReadsInputOnce (Migrate old new) = ⊤
ReadsInputOnce (Copy old new pages) = ⊤
ReadsInputOnce (Grow file pages) = ⊤
ReadsInputOnce (Salvage old new pages) = ⊤
ReadsInputOnce (Report request) = ⊤
ReadsInputOnce (Map file) = ⊤
