mod Names
pub mod Pairs
mod Reading
mod Running
mod Refusing
mod Prefixes
pub mod Headline
mod Completing
mod Going
mod Idling
mod Beside
mod Pairing
mod Turning
mod Beginning
