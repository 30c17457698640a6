pub mod Trees
pub mod Rules
pub mod Verifies
pub mod Fitting
pub mod Aimed
pub mod Absent
