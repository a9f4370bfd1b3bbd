pub mod Turned
pub mod Machines
pub mod Laws
