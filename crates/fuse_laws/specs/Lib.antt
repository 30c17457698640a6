pub mod Joined
pub mod Fused
pub mod Laws
