mod Cited
mod Sampling
pub mod Leaving
pub mod Resulting
pub mod WhatIsLeft
mod Scripting
mod Fitting
mod Pausing
mod Timing
pub mod Slots
pub mod Streaming
pub mod Bits
pub mod Undisplaced
pub mod Patterns
pub mod Recordings
pub mod Fits
pub mod Settled
pub mod Following
pub mod Received
pub mod Faint
pub mod Heard
mod OneSent
