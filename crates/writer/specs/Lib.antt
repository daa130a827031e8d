-- The vault that is written, and its ciphertext piece by piece.
pub mod Written
pub mod Stretches
