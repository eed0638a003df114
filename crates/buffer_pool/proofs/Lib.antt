pub mod FormLemmas
pub mod FilledLemmas
pub mod GivenLemmas
pub mod ImagesLemmas
pub mod PoolLemmas
pub mod SparedLemmas
pub mod TableLemmas
pub mod TransferLemmas
