pub mod Taps
pub mod Traces
pub mod Files
pub mod Pickups
pub mod Isolates
pub mod Worked
