mod Names
pub mod Answering
pub mod Files
pub mod Looking
mod Places
