pub mod Forms
pub mod Limit
pub mod Facts
pub mod Bounds
pub mod Agreement
pub mod Same
pub mod Stack
