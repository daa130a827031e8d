-- Laws of the standard's definitions and of a hash under way, over both algorithms.
--
-- In order:
--   one block   Schedule, Numbers, Places (a word's place), Rounds, Eight (the intermediate hash value)
--   lists       Blocks (block by block), Digest (its bytes), Lengths, Padding (5.1), Last (the last blocks)
--   states      Feeding (what a state holds), States (the code's steps), Cuts (two feeds are one), Feeds (the theorem)
--   constants   Lent (those that a caller lends)
-- Not here: the worked examples (Examples).
pub mod Schedule
pub mod Numbers
pub mod Places
pub mod Rounds
pub mod Eight
pub mod Blocks
pub mod Digest
pub mod Lengths
pub mod Padding
pub mod Last
pub mod Feeding
pub mod States
pub mod Cuts
pub mod Feeds
pub mod Lent
