pub mod Steps
pub mod Dropped
pub mod Functions
pub mod Files
