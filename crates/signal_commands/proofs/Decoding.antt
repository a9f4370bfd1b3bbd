pub mod Joined
pub mod Rates
pub mod Playings
pub mod Finishing
pub mod Longer
pub mod Parts
pub mod Steps
pub mod Headline
