pub mod Quarters
pub mod Longer
pub mod Making
pub mod Headline
