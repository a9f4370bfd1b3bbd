mod Names
mod Completing
pub mod Fitting
pub mod Hearing
mod Counting
mod Undisturbed
pub mod Words
pub mod Saying
pub mod Handing
pub mod Sending
pub mod Deciding
pub mod Receiving
pub mod Becoming
mod EachEnds
mod Starving
mod Making
pub mod Slots
pub mod ReadingOff
pub mod RunLaws
