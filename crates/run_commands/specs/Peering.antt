pub mod Words
pub mod Runs
pub mod Ends
pub mod Turns
pub mod Completes
pub mod Promise
pub mod Headline
pub mod Laws
