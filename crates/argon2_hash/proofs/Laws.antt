-- Laws of RFC 9106's hash function H'.
--
-- In order: Long (its values and their first halves; how a lent slice is filled).
pub mod Long
