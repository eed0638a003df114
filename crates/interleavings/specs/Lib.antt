pub mod SeatWords
pub mod Beside
pub mod Apart
pub mod SeatLaws
pub mod DecisionLaws
pub mod AlikeLaws
pub mod LoneCallWords
pub mod Serving
pub mod ConcurrentWords
pub mod Together
pub mod ConcurrentLaws
pub mod LoneCalls
pub mod LoneKernelWords
pub mod Lone
pub mod LoneKernelLaws
pub mod Words
pub mod Runs
pub mod Counting
pub mod Refining
pub mod Headline
pub mod Doing
pub mod Ending
pub mod Outcomes
pub mod Sizes
pub mod Moments
pub mod Inserting
pub mod Playing
pub mod Laws
pub mod KeyLaws
pub mod Rooms
pub mod Renewing
pub use Rattle.files_at_rest.specs as files_at_rest
pub use Rattle.xsi_calls.specs as xsi_calls
pub use Rattle.interleaving_core.specs as interleaving_core
