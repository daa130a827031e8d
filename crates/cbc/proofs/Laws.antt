-- Laws of the CBC mode.
--
-- In order:
--   Blocks  strings cut into blocks, and blocks joined
--   Chain   the mode over blocks
--   Mode    the mode over strings: undone, cut anywhere, as long as its input
--   Turns   a loop that encrypts or decrypts in place
pub mod Blocks
pub mod Chain
pub mod Mode
pub mod Turns
