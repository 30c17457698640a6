mod Adding
mod Backward
pub mod CanonicalBytes
pub mod CanonicalFits
pub mod CanonicalMeaning
mod CanonicalNames
pub mod CanonicalSpaced
pub mod CanonicalTokens
mod Digits
mod Feeds
mod Fits
mod Forward
mod GoesOn
mod HasRead
mod Levels
pub mod Lists
mod MapRule
mod Multiplying
mod Numbers
pub mod OneReading
mod OneTree
mod Parsing
pub mod PieceTokens
mod Probe
pub mod ReadsBack
mod Scaling
mod Signs
mod Streams
mod Written
