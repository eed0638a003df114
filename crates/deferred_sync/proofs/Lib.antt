mod SinceLemmas
pub mod CrashLemmas
