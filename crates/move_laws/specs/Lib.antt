pub mod Operands
pub mod Pads
pub mod Packs
pub mod Laws
