pub mod Decoding
pub mod Completes
