pub mod Rows
pub mod Runs
pub mod Lines
pub mod PlaySettings
pub mod PlayTraces
pub mod Made
pub mod RunSettings
pub mod RunTraces
