pub mod Ciphertext
pub mod Checks
