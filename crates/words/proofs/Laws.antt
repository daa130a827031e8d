-- Laws of numbers, words and their bytes.
--
-- In order:
--   Cases     a Bool is true or false
--   Xor       exclusive or of numbers: associative, commutative in the middle, undone by itself
--   Xors      the same of lists, element by element
--   Endian    numbers and their bytes
--   XorBytes  the bytes of an exclusive or are those of its parts
--   Bytes     lists of bytes
--   Tests     a rule over all bytes, by one test that is computed
--   Said      equal answers say the same
--   Pairs     equal answers that are pairs have the same parts
--   Sums      what a list of numbers adds up to
pub mod Cases
pub mod Xor
pub mod Xors
pub mod Endian
pub mod XorBytes
pub mod Bytes
pub mod Tests
pub mod Said
pub mod Pairs
pub mod Sums
