pub mod Fits
pub mod Taking
pub mod Attempt
pub mod Stands
pub mod EndLaws
