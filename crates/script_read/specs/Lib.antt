pub mod Names
pub mod Numbers
pub mod Scope
pub mod Kinds
pub mod Reading
pub mod Resolve
