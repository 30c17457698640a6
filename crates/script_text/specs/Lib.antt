pub mod Canonical
pub mod Names
pub mod Steps
pub mod Texts
