pub mod Places
pub mod Replaced
pub mod Moves
