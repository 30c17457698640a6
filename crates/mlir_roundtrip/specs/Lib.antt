pub mod Maps
pub mod Printable
pub mod Numbered
