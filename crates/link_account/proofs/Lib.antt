pub mod Names
pub mod Events
pub mod SpeakWays
pub mod HearWays
pub mod Flow
mod Ends
mod Linked
mod Good
mod Hearing
mod Speaking
pub mod Playing
mod Breaking
mod BreakPlaying
mod SaidNumbers
