mod Kept
pub mod Trace
pub mod Names
pub mod NumberHear
pub mod Words
pub mod HeardNumber
pub mod PollHear
mod InTurn
pub mod PollTurn
pub mod NumberTurn
pub mod Moving
pub mod Clocks
pub mod PollsFresh
pub mod Answering
pub mod Tracing
pub mod PeriodLaws
pub mod Acknowledged
mod BreakHear
mod BreakTurn
pub mod Expiries
pub mod Keeping
pub mod Periods
pub mod Follows
pub mod Numbering
pub mod Wanting
pub mod Detecting
mod Establishing
mod Windows
pub mod Fewness
pub mod Phasing
pub mod Trying
mod View
mod Flight
pub mod Parting
pub mod GivingUp
mod Waiting
mod Losing
mod Sparing
