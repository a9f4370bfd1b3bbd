pub mod Trellises
pub mod V32
pub mod Orders
pub mod Survivors
pub mod Steps
pub mod Laws
