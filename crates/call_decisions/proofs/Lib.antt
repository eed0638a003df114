pub mod DecideLemmas
pub mod HeldLemmas
pub mod OwedNames
pub mod OverlayLemmas
pub mod AlikeLemmas
pub mod ChangeLemmas
pub mod HoldLemmas
pub mod OtherLemmas
pub mod SettleLemmas
pub mod Names
pub mod AskLemmas
pub mod GrowLemmas
pub mod Words
pub mod NamesLemmas
pub mod WriteLemmas
pub use Rattle.stale_search.proofs as of_stale_search
