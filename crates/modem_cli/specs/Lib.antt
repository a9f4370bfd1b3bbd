pub mod Modem
pub mod Named
