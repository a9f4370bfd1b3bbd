pub mod Flips
pub mod Laps
