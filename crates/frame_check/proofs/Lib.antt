mod Names
mod Polynomials
mod Remainders
mod Unique
mod Registers
pub mod BitLists
pub mod Generators
pub mod Checks
