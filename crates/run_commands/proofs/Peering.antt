pub mod Slots
pub mod Reaching
pub mod Starting
pub mod Headline
pub mod Once
