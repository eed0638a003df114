pub mod EndLemmas
pub mod ScriptLemmas
pub mod ReplayLemmas
pub use Rattle.deferred_sync.proofs as of_deferred_sync
pub use Rattle.session_runs.proofs as of_session_runs
