pub mod OwedLaws
pub mod Owing
pub mod Anything
pub mod Asked
pub mod InquiryWords
pub mod Laws
pub mod Others
pub mod Settling
pub mod Taking
pub mod Words
pub mod NameLaws
pub mod Names
pub use Rattle.stale_search.specs as stale_search
pub use Rattle.stale_search.specs.file_pages
