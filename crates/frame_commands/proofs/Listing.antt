pub mod Listed
pub mod Headline
