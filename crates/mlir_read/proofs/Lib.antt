pub mod Ascii
mod Items
pub mod Whole
