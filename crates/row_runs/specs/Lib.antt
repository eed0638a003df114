pub mod Alone
pub mod KeyLaws
pub mod Keys
