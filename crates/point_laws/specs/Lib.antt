pub mod Folds
pub mod Boxes
pub mod Tiles
pub mod Orders
pub mod Laws
