mod Names
pub mod Stuffed
mod Places
mod Openings
pub mod Latest
mod Ones
mod BitLists
mod Gather
mod Between
mod Contents
pub mod EndsWith
mod Judged
pub mod Found
mod Worked
pub mod Written
pub mod Fill
mod Counters
mod Quiet
mod Octets
mod Fours
pub mod Halves
pub mod Passing
mod States
mod Frames
pub mod Plain
pub mod Sent
pub mod Tails
pub mod Sizes
pub mod OneFrame
