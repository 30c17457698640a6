pub mod Combiners
pub mod Known
pub mod Laws
