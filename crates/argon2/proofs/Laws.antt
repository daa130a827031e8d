-- Laws of Argon2 from the inputs to the tag.
--
-- In order:
--   Prehash  H_0
--   First    the first two blocks of each lane
--   Last     the last column, and its bytes
--   Memory   the memory before it is filled and after
--   Run      what a run answers and leaves
pub mod Prehash
pub mod First
pub mod Last
pub mod Memory
pub mod Run
