mod Names
pub mod Margins
pub mod Turned
pub mod Quads
pub mod Bits
pub mod PickedUp
pub mod NoiselessCosts
pub mod Meetings
pub mod Detours
pub mod Agreeing
pub mod Followed
pub mod Distances
pub mod NoisyCosts
pub mod Near
