pub mod App
pub mod Asked
pub mod Request
pub mod Spelled
pub mod Table
