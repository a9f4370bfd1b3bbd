pub mod Longer
pub mod Given
pub mod Middles
pub mod Playings
pub mod Parts
pub mod Headline
