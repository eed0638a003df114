pub mod ReversalLaws
pub mod PositionLaws
pub mod RangeLaws
pub mod MemberLaws
pub mod TileLaws
pub mod BuddyLaws
pub mod ChangeLaws
pub mod CountLaws
pub mod WalkLaws
pub mod PartitionLaws
pub mod CopyLaws
pub mod EntryLaws
pub mod HalfLaws
pub mod HeaderLaws
pub mod PageLaws
pub mod StrideLaws
pub use Rattle.numbers.proofs as of_numbers
