pub mod Gf256
