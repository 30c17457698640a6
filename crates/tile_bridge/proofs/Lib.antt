pub mod Axes
pub mod Reading
pub mod Fitting
pub mod Bridge
pub mod Stated
