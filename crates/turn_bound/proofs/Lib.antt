mod Names
pub mod Truths
pub mod Value
pub mod Light
pub mod Run
pub mod Lines
pub mod Sender
pub mod Sending
pub mod Hearing
pub mod Serving
pub mod Speaking
pub mod OneTurn
pub mod StillTurn
pub mod Falls
pub mod Ending
pub mod AtMostOne
pub mod MeetHear
pub mod Meeting
mod Taking
mod Pausing
mod Polled
pub mod Tied
pub mod CalmRuns
mod Sizes
mod Soon
pub mod Bounding
mod HeldTurn
mod Wholeness
mod Advancing
