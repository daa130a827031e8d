-- Laws of hexadecimal digits.
--
-- In order:
--   Digits    one digit and its value
--   Texts     digits and bytes of any length: each undoes the other
pub mod Digits
pub mod Texts
