pub mod Limits
pub mod Answers
pub mod Exchanged
pub mod Aims
pub mod Shapes
pub mod Turns
