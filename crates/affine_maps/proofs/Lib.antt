pub mod Integers
pub mod Listed
pub mod Collecting
pub mod Composing
pub mod Permuting
pub mod Products
mod Worked
