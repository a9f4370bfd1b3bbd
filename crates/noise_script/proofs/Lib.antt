mod Names
pub mod Sums
pub mod Cuts
pub mod Digits
pub mod Decimals
pub mod FormTable
pub mod Words
pub mod Order
pub mod Entries
pub mod Progress
pub mod Ranges
pub mod Unique
pub mod Exists
pub mod Noisy
pub mod Generated
mod Still
pub mod Batched
