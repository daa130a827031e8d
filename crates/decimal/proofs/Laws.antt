-- Laws of decimal text.
--
-- In order: Digits (a digit more in front of those that stand), Reading (writing and reading undo each other).
pub mod Digits
pub mod Reading
