pub mod Applied
pub mod Fitting
pub mod StillNew
