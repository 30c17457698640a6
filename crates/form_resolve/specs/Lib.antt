pub mod Entries
pub mod FirstFaults
pub mod Forms
pub mod Resolving
pub mod Saying
pub mod Values
