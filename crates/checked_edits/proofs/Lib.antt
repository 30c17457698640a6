pub mod Small
pub mod Kept
pub mod Placed
