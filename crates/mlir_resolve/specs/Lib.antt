pub mod Constants
pub mod Generics
pub mod Structured
pub mod Operations
