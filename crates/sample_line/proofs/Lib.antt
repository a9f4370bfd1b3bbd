mod Names
pub mod Tallying
pub mod Finding
pub mod Standing
pub mod Passing
pub mod SlotCoding
pub mod Once
pub mod Arriving
pub mod Fitting
pub mod Packing
mod Sending
