-- Laws of KDF dictionaries.
--
-- In order:
--   Items       where the items of a dictionary lie
--   Asks        what an accepted dictionary keeps to
--   Layout      how long the dictionaries that are written are, and how code lays them
--   Written     a dictionary that is written is sound, and each of its items is found
--   ReadBack    .. and it asks for what was written
pub mod Items
pub mod Asks
pub mod Layout
pub mod Written
pub mod ReadBack
