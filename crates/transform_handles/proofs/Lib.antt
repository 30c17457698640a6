pub mod Sets
pub mod Lists
pub mod Listed
pub mod Rows
