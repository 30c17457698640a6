pub mod Modules
pub mod Edits
pub mod Laws
