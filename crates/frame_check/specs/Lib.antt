pub mod Octets
pub mod Bits
pub mod Xor
pub mod FrameCheck
pub mod Division
pub mod Register
