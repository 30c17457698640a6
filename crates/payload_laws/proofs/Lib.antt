pub mod Combiners
pub mod Fitted
pub mod Joined
pub mod KnownValues
pub mod Traps
