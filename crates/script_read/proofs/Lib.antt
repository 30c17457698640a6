pub mod Fronts
pub mod Ids
pub mod Spots
pub mod Words
