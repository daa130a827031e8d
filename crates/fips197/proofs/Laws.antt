-- Laws of AES-256.
--
-- In order:
--   Tabulate         a list by a rule for its entries
--   Words            words and their four bytes
--   States           states by rows and columns
--   Mix              5.1.3, 5.3.3: the two matrices undo each other
--   Transformations  5.1, 5.3: each transformation is undone by its inverse
--   Inverse          5.3: InvCipher() undoes Cipher(), and Cipher() it
--   Equivalent       5.3.5: EqInvCipher() is InvCipher()
--   Expansion        5.2: one word more
pub mod Tabulate
pub mod Words
pub mod States
pub mod Mix
pub mod Transformations
pub mod Inverse
pub mod Equivalent
pub mod Expansion
