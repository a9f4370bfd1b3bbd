pub mod Snoc
pub mod Bellman
pub mod Release
pub mod Columns
pub mod Fronts
pub mod Existence
pub mod Least
pub mod V32
