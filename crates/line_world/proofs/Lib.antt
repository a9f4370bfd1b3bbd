mod Cited
pub mod Several
pub mod Hearing
pub mod Serving
pub mod Speaking
pub mod Folders
pub mod Turning
pub mod Reached
pub mod Linking
pub mod Lending
pub mod Taping
pub mod Passing
pub mod Waiting
pub mod Coded
