pub mod Faults
pub mod Texts
pub mod Station
pub mod OneEnd
