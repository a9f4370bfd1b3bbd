pub mod Stream
pub mod Scrambles
pub mod Register
pub mod Machines
pub mod Mode
pub mod Laws
