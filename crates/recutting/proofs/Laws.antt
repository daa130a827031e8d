-- Laws of files with the same front.
--
-- In order:
--   Front    the bytes behind the tag do not count for the start
--   Text     the ciphertext of a file in blocks
pub mod Front
pub mod Text
