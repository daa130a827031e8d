-- Laws of the listing's text.
--
-- In order:
--   Lines     a line's bytes, and how long lines are
--   Frames    the frames of an accepted header, as code goes through them
--   Places    the line of a refusal with its place
--   Text      the text of an accepted header, and of any input
pub mod Lines
pub mod Frames
pub mod Places
pub mod Text
