pub mod Compose
pub mod Map
pub mod Permutation
pub mod Shape
pub mod Terms
pub mod Value
