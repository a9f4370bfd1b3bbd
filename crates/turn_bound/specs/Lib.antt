pub mod Time
pub mod Bound
pub mod Offered
pub mod Together
pub mod Spent
pub mod Due
pub mod Limits
pub mod Advance
