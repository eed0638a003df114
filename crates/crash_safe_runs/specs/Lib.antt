pub mod Concluding
pub mod Scripts
pub mod Replays
pub use Rattle.deferred_sync.specs as deferred_sync
pub use Rattle.session_runs.specs as session_runs
