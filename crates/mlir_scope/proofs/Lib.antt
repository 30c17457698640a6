pub mod AliasSpots
mod Elements
pub mod Keeps
pub mod MapSymbols
pub mod MapsFit
pub mod Ranges
pub mod Spots
