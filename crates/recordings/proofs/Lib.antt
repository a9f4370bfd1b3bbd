pub mod Octets
pub mod Samples
