-- Laws of RFC 9106's compression of a block.
--
-- In order:
--   Product      the product of two halves fits a word
--   Permutation  these steps are GB; 128 words stay 128
--   Order        the columns and the rows, by the code's steps
pub mod Product
pub mod Permutation
pub mod Order
