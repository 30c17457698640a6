pub mod Captured
pub mod Joined
pub mod Moved
pub mod Names
pub mod Places
pub mod Uses
