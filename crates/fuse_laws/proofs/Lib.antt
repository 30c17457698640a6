pub mod Applied
pub mod Joining
pub mod OnePoint
pub mod Fusing
