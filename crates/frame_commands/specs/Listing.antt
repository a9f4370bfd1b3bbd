pub mod Words
pub mod Heard
pub mod Ends
pub mod Completes
pub mod Promise
pub mod Headline
