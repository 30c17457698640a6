pub mod Axes
pub mod Fitting
pub mod Spots
pub mod Turns
pub mod Fused
