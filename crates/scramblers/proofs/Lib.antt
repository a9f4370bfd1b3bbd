mod Names
pub mod Streams
pub mod Registers
pub mod Turning
pub mod Readings
pub mod Octets
