pub mod Aes256Cbc
