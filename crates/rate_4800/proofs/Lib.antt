mod Names
pub mod Twos
pub mod Reading
pub mod Standing
pub mod Nearest
pub mod Stepping
