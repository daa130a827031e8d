-- Laws of RFC 8439's ChaCha20.
--
-- In order:
--   Rounds   quarter rounds, in place and in any order within a round
--   Block    the block function: 64 bytes, from sixteen words
--   Encrypt  RFC 8439's encryption is the stream, applied
pub mod Rounds
pub mod Block
pub mod Encrypt
