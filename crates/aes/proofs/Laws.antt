-- Laws of the cipher on columns.
--
-- In order:
--   Arrays    what the type of an array says of its elements
--   Columns   a block and its four columns
--   Rounds    a round, by the columns that any table gives
--   Tabled    by the right tables it is FIPS 197's
--   Schedule  words of the key schedule
--   Repeated  a function applied n times
pub mod Arrays
pub mod Columns
pub mod Rounds
pub mod Tabled
pub mod Schedule
pub mod Repeated
