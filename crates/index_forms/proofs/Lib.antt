pub mod Ints
pub mod Values
pub mod Sound
pub mod Limits
pub mod Walks
pub mod Negative
pub mod Collected
pub mod Known
pub mod Gathered
pub mod Mapped
pub mod Frames
pub mod Sums
mod Worked
