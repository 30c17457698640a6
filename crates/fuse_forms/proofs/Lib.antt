pub mod Values
pub mod Joints
pub mod Composed
