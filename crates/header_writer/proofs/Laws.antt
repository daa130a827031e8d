-- Laws of the header that is written.
--
-- In order:
--   Layout         how long its parts are, and how code lays them
--   CheckedLaws    what figures that may be written keep to
--   Lies           a written field in a file, and the reader's walk over it
--   Places         where the fields of a written header lie
pub mod Layout
pub mod CheckedLaws
pub mod Lies
pub mod Places
