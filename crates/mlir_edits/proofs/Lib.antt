pub mod Ends
pub mod Scopes
pub mod Unique
pub mod Formed
pub mod Found
pub mod Mapping
pub mod Loops
pub mod Bounds
