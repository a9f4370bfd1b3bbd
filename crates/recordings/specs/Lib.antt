pub mod Recording
pub mod Headers
pub mod Samples
