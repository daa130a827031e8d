-- Laws of RFC 7693's BLAKE2b and of a hash under way.
--
-- In order:
--   Mixing    the mixing function and the rounds, in place
--   Block     one block: its words, the working vector, the bytes of h
--   Chain     block by block
--   States    the steps by which code feeds a state
--   Feeding   what a state holds, and that a finish gives the hash
-- Not here: the theorem of parts (Parts), the worked example (Examples).
pub mod Mixing
pub mod Block
pub mod Chain
pub mod States
pub mod Feeding
