mod Names
pub mod Fits
