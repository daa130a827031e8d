pub mod Answers
pub mod Ciphers
