mod Names
pub mod Forms
mod Controls
pub mod Beginnings
mod Faults
mod KindOctets
pub mod Spellings
pub mod Exact
pub mod Octets
pub mod Checking
mod RowLemmas
