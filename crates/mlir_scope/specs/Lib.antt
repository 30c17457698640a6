pub mod Names
pub mod Types
pub mod Literals
pub mod Words
pub mod Scope
pub mod Maps
