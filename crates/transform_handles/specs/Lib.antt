pub mod Targets
pub mod Names
pub mod Items
pub mod Matching
pub mod Handles
