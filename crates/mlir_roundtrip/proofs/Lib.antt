pub mod AliasLines
pub mod Aliases
pub mod ConstantsFound
mod ConstantsRead
mod DenseRead
mod DenseWords
pub mod Envs
mod FileFitting
mod FileRounds
mod FileSpaced
mod FileSpelled
pub mod Fits
pub mod Fitting
pub mod Functions
pub mod Laws
mod Leaves
pub mod MapUses
pub mod Maps
pub mod ModuleMaps
pub mod Numbers
pub mod Operations
mod PayloadFitting
mod PayloadSpaced
mod PayloadSpelled
mod Placing
mod ReadTypes
pub mod Readable
pub mod Regions
pub mod Rounds
pub mod Rows
mod Scripts
pub mod Spaced
pub mod Spelled
mod Spots
mod StepsRead
pub mod Symbols
mod Typed
pub mod Usable
pub mod Values
