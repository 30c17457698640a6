pub mod Nested
pub mod Results
