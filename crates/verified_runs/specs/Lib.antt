pub mod Typed
pub mod Passes
pub mod Edits
pub mod Fresh
pub mod Forms
pub mod Asks
pub mod Laws
