pub mod Hearing
pub mod Folders
pub mod Turning
pub mod Breaking
pub mod Once
