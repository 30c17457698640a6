pub mod Causes
pub mod Fakes
pub mod Loops
pub mod Shelves
pub mod Sinks
