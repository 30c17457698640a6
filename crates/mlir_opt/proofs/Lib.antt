pub mod Again
pub mod Inputs
pub mod Places
pub mod Refused
pub mod Runs
pub mod Scripted
pub mod Told
