pub mod Looking
pub mod Measures
pub mod Headline
