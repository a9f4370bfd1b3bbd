pub mod Files
pub mod Tapes
pub mod Ends
pub mod Headline
pub mod Completes
pub mod Promise
