pub mod Worth
pub mod Pairs
