pub mod Parts
pub mod Frame
pub mod Fault
pub mod Controls
pub mod Seen
pub mod Checked
pub mod Sendable
pub mod Arrivals
