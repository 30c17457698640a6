pub mod Count
pub mod Depth
pub mod Shape
