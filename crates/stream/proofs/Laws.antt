-- Laws of key streams, over any block function, and of the words that blocks are made of.
--
-- In order:
--   Keystream  the stream's bytes, cut and within a block
--   Apply      the theorems: applied twice, cut in two, length kept, bytes stay bytes
--   Turns      a loop that applies a block a turn
--   Words      sums of sixteen words, and their bytes
pub mod Keystream
pub mod Apply
pub mod Turns
pub mod Words
