pub mod Account
pub mod Hear
pub mod Speak
pub mod Play
pub mod Numbers
pub mod Laws
