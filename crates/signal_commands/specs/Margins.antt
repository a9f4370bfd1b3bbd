pub mod Words
pub mod Ends
pub mod Measuring
pub mod Completes
pub mod Promise
pub mod Headline
