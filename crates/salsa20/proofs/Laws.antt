-- Laws of Salsa20.
--
-- In order:
--   Rounds   quarterrounds, in place and one after the other
--   Block    the block function: 64 bytes, from sixteen words
pub mod Rounds
pub mod Block
