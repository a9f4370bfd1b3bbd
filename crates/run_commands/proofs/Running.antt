pub mod Runs
pub mod Refusing
pub mod Prefixes
pub mod Tapes
pub mod Headline
pub mod Completing
pub mod Heads
