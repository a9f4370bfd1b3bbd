mod Names
mod Registers
mod Quiet
mod Readings
mod Answered
mod Written
pub mod Sightings
mod Calm
mod Twice
mod Borders
mod Inside
mod Sent
mod Worked
pub mod OneSignal
pub mod Wholes
