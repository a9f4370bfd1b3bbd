mod Names
pub mod Batches
pub mod Encoding
pub mod Decoding
pub mod PickingUp
pub mod Margins
