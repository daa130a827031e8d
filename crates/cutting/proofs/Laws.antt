-- Laws of ciphertexts in blocks.
--
-- In order:
--   Pieces    pieces of any sizes
--   Blocks    the blocks of pieces, and how they stand in a file
--   Cut       pieces of one size
pub mod Pieces
pub mod Blocks
pub mod Cut
