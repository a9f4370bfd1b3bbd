pub mod Patterns
pub mod Reader
pub mod Ear
pub mod Slots
pub mod Sights
