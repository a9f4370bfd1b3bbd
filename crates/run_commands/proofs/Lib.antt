mod Names
pub mod Running
pub mod Soaking
pub mod Peering
