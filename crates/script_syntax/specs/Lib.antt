pub mod LineLaws
pub mod Lines
pub mod LiteralLaws
pub mod Literals
pub mod ResultLaws
pub mod Results
pub mod StepLaws
pub mod Steps
