pub mod Rounds
pub mod RowLaws
pub mod Spaced
pub mod Writes
