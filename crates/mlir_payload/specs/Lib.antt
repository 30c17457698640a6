pub mod Steps
pub mod Payload
