pub mod Folder
pub mod Outputs
