pub mod Stored
pub mod Moved
pub mod Auditing
pub mod Passed
