pub mod Chain
pub mod Faults
pub mod Lexed
pub mod Refusals
