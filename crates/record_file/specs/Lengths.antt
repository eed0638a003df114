-- How many steps an operation has left, if no other seat steps.
use Rattle.std.specs.Prelude.{ℕ, ◌+◌, ◌-◌, ◌*◌}
use Rattle.directory.specs.declared.layout.TheConstants.{ROOT_PAGE}
use Rattle.page_device.specs.declared.page.TheConstants.{MAX_PAGES}
use Rattle.record_file.specs.OperationWords.{SECOND_STEPS}

-- two for each page that a search may meet, those up to its first look and behind its last one, and those of the second
-- try of an insert: 139,589
abbrev pub MOST_STEPS : ℕ
MOST_STEPS = 2 * (MAX_PAGES - ROOT_PAGE) + (10 + SECOND_STEPS)
