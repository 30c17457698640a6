pub mod Bytes
pub mod Nested
pub mod LinearMaps
mod OperationBytes
mod PayloadBytes
pub mod Signs
pub mod Spots
pub mod Texts
