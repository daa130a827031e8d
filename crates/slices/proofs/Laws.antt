-- Laws of lists that readers and writers of slices cite.
--
-- In order:
--   Parts   the part of a slice from a place on
--   Zeros   lists of zeros
--   Over    writing over the front of a list, and behind what was written
--   Same    comparing two lists
pub mod Parts
pub mod Zeros
pub mod Over
pub mod Put
pub mod Same
