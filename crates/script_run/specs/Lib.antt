pub mod Outcomes
pub mod Sessions
pub mod Steps
pub mod Transforms
pub mod Scripts
pub mod Laws
