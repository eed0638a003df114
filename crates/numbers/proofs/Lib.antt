pub mod ListLaws
pub mod NumberLaws
pub mod Tests
pub mod UnionLaws
pub mod WrittenLaws
pub mod ZeroLaws
