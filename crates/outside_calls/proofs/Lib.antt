mod Names
pub mod Steps
pub mod OnlyOutputs
pub mod Holding
pub mod Putting
