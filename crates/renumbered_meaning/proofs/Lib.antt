pub mod Spots
pub mod Alike
pub mod Numbered
pub mod Modules
