pub mod Polls
pub mod Losses
pub mod Tries
pub mod Breaks
