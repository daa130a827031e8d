-- Laws of bytes that stand for states.
--
-- In order:
--   Words     arrays of words and their bytes
--   Parts     parts one behind the other, as code lays them and reads them again
--   Lengths   how long the parts of an opening's bytes are
pub mod Words
pub mod Parts
pub mod Lengths
