pub mod Generalize
pub mod Interchange
pub mod Steps
pub mod Laws
