-- Words of the crates below, under one name.
use Rattle.std.specs.Prelude.{ℕ, ◌≤◌}
use Rattle.bucket_page.specs.directory.declared.layout.TheConstants.{LEAST_PAGES}
use Rattle.page_device.specs.declared.page.TheConstants.{MAX_PAGES}
pub use Rattle.page_device.specs.numbers.declared.faults.TheConstants.{NO_MEMORY}
pub use Rattle.interleaving_core.specs.Fault.{open_number_of}
pub use Rattle.interleaving_core.specs.declared.fault.OpenFault.{OpenFault}

-- a file can have so many pages
pub record CanHavePages (pages : ℕ) : Type 0 where
  pub least : LEAST_PAGES ≤ pages
  pub most : pages ≤ MAX_PAGES

-- a number of docs/FAULTS.md
pub record IsFaultNumber (number : ℕ) : Type 0 where
  pub least : 20 ≤ number
  pub most : number ≤ 74
