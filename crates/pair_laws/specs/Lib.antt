pub mod Pairs
pub mod Captures
pub mod FuseAll
pub mod Laws
