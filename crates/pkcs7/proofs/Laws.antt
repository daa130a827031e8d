-- Laws of PKCS #7 padding.
--
-- In order:
--   Padding  what was padded is accepted and comes back, and what is accepted was padded
--   Check    the check of a last piece, byte by byte
--   Writing  padding written behind a payload
pub mod Padding
pub mod Check
pub mod Writing
