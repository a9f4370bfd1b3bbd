pub mod Words
pub mod Scripts
pub mod Lengths
pub mod Inputs
pub mod Answers
pub mod Files
