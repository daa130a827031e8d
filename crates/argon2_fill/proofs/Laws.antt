-- Laws of Argon2's filling.
--
-- In order:
--   Places     where blocks stand, and that they stand in the memory
--   Reference  how many blocks are to choose from, and which one a word chooses
--   Chooser    the word that is looked at is the chooser's of the type
--   Blocks     one block compressed and put in place, word by word
--   Segments   blocks, segments, slices and passes one after the other; as long as it was
--   Filled     what a filling leaves, and that of each type
--   Memory     blocks of a memory
--   Reads      the first pass reads no block that is neither given nor written
--   Given      what the memory held before does not matter
pub mod Places
pub mod Reference
pub mod Chooser
pub mod Blocks
pub mod Segments
pub mod Filled
pub mod Memory
pub mod Reads
pub mod Given
