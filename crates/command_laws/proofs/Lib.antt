mod Names
pub mod Tapping
mod Tracing
mod Sent
mod Cutting
mod Told
mod Named
mod Picking
mod Decoding
mod Isolating
mod Making
mod Computing
mod Texts
