pub mod Printable
pub mod Renumbered
