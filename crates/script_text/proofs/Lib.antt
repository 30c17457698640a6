pub mod Bytes
pub mod Repeats
pub mod Spots
