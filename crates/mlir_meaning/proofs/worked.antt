-- Worked values: for each kind of operation an ordinary one and one at its edge.
pub mod Build
pub mod Around
pub mod Structured
pub mod Moves
pub mod Loops
pub mod Vectors
pub mod Stuck
