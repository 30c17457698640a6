pub mod Limits
pub mod Replacing
