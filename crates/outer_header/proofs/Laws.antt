-- Laws of the outer header.
--
-- In order:
--   Walk        the walk over the fields
--   Accepted    what an accepted header keeps to
--   Behind      the bytes behind a header do not count
--   Answers     the values of an accepted header
--   Told        an answer's number and place are what it says
pub mod Walk
pub mod Accepted
pub mod Behind
pub mod Answers
pub mod Told
