-- Laws of the field and of the S-box.
--
-- In order:
--   Sums   sums of four
--   Field  multiplication: linear, by two and by three; linear functions on bytes
--   Sbox   the S-box's table, and its inverse
pub mod Sums
pub mod Field
pub mod Sbox
