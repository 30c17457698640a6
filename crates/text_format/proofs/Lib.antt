pub mod Extents
pub mod Loops
mod Numbers
pub mod Numerals
pub mod Ordered
pub mod Printed
pub mod Runs
pub mod Scans
pub mod Spacing
pub mod Written
