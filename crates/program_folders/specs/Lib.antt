pub mod Store
pub mod Transfer
pub mod Sure
pub mod Disk
pub mod Audited
pub mod Passed
pub mod Counts
