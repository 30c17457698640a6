pub mod Tables
pub mod Splices
pub mod Joint
pub mod Places
pub mod Noted
pub mod Left
