pub mod Code
pub mod CodeLaws
pub mod Nearest
pub mod Modulates
pub mod Demodulates
pub mod Laws
