pub mod Words
pub mod Ends
pub mod Recorder
pub mod Recorded
pub mod Completes
pub mod Promise
pub mod Headline
