pub mod Salsa20
pub mod State
