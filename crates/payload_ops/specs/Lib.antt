pub mod Bits
pub mod Combine
pub mod Evaluation
pub mod Payload
pub mod Shape
pub mod Values
