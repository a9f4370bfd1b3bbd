mod Names
pub mod Listing
pub mod Explaining
