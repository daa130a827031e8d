-- Laws of the tables.
--
-- In order:
--   Entries   the entries of te, td and the inverse S-box
--   Columns   a column of a round, and a word of a key schedule, by look-ups
pub mod Entries
pub mod Columns
