-- What is printed where a new file is made of another. docs/SCRIPTS.md, "Runs".
use Rattle.std.specs.Prelude.{◌≡◌, ◌⊎◌, ℕ, List, [], ◌∷◌, ◌++◌, ⊤}
use Rattle.queue_model.specs.State.{State}
use Rattle.msgq_cli.specs.Outputs.{OutputState, Prints}
use Rattle.msgq_cli.specs.Refusals.{IsFaultAlone}
use Rattle.msgq_cli.specs.Reports.{deed_text, unread_text}
use Rattle.msgq_cli.specs.Tasks.{IsFileSize}
use Rattle.msgq_cli.specs.declared.ending.Ending.{Ending}
use Rattle.msgq_cli.specs.declared.ending.Ending.TheVariants.{Done}
use Rattle.msgq_cli.specs.declared.reports.Deed.{Deed}
use Rattle.msgq_cli.specs.declared.reports.Deed.TheVariants as deeds
use Rattle.migration.specs.declared.losses.Pages.{Pages}
use Rattle.migration.specs.declared.copies.Size.{Size}
use Rattle.migration.specs.declared.copies.Size.TheVariants as sizes

-- a file can have as many pages as are asked for
abbrev pub HasSize : Size → Type 0
HasSize sizes.Migrated = ⊤
HasSize (sizes.Pages pages) = IsFileSize pages
HasSize (sizes.Grown pages) = IsFileSize pages

-- what is done
abbrev pub deed_of : Size → Deed
deed_of sizes.Migrated = deeds.Migrated
deed_of (sizes.Pages pages) = deeds.Copied
deed_of (sizes.Grown pages) = deeds.Grown

-- what was done, the number of queues of some system and of messages on them are printed, and nothing else
pub record IsDone (deed : Deed) (old new : OutputState) (ending : Ending) : Type 0 where
  pub system : State
  pub prints : Prints old new (deed_text deed system)
  pub ends : ending ≡ Done

-- that, or one fault
abbrev pub IsDoneOrFault : Deed → OutputState → OutputState → Ending → Type 0
IsDoneOrFault deed old new ending = IsDone deed old new ending ⊎ ((fault : ℕ) × IsFaultAlone fault old new ending)

-- ---- what is salvaged

-- a line for each run of pages
abbrev pub unread_texts : List Pages → List ℕ
unread_texts [] = []
unread_texts (pages ∷ rest) = unread_text pages.first pages.last ++ unread_texts rest

-- the number of queues of some system and of messages on them, and pages that can't be read, are printed
pub record IsSalvaged (old new : OutputState) (ending : Ending) : Type 0 where
  pub system : State
  pub unread : List Pages
  pub prints : Prints old new (deed_text deeds.Salvaged system ++ unread_texts unread)
  pub ends : ending ≡ Done

-- that, or one fault
abbrev pub IsSalvagedOrFault : OutputState → OutputState → Ending → Type 0
IsSalvagedOrFault old new ending = IsSalvaged old new ending ⊎ ((fault : ℕ) × IsFaultAlone fault old new ending)
