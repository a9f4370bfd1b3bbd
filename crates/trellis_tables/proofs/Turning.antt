pub mod Places
pub mod Inverses
