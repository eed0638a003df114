pub mod Words
pub mod Files
pub mod Machines
pub mod Writers
pub mod BucketAccesses
pub mod BucketSteps
pub mod BucketRuns
pub mod WritesAhead
pub mod Callers
pub mod Deletes
pub mod InsertWords
pub mod SecondTries
pub mod SecondSteps
pub mod Inserts
pub mod InsertSteps
pub mod OperationWords
pub mod Operations
pub mod OperationSteps
pub mod OperationRuns
pub mod OperationCallers
pub mod Lengths
pub mod AccessWords
pub mod Purposes
pub mod Accesses
pub mod AccessSteps
pub mod AccessRuns
pub mod Beginnings
pub mod Readings
pub mod Lending
pub use Rattle.file_pages.specs as file_pages
pub use Rattle.split_merge.specs.stale_search
pub use Rattle.step_rules.specs as step_rules
pub use Rattle.split_merge.specs as split_merge
