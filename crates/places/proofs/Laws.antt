-- Laws of places.
--
-- In order:
--   inside the input      Fields (a field), Kdf (a KDF dictionary), Header, Inner (the headers)
--   what begins there     Sizes, ItemsAt, Missing (a dictionary), FieldsAt (a field), KdfItems, KdfFigures, KdfAt (a KDF
--                         dictionary), HeaderAt, InnerAt (the headers)
--   zero                  Zero (hash, tag, blocks, writers)
pub mod Fields
pub mod Kdf
pub mod Header
pub mod Inner
pub mod Sizes
pub mod ItemsAt
pub mod Missing
pub mod FieldsAt
pub mod KdfItems
pub mod KdfFigures
pub mod KdfAt
pub mod HeaderAt
pub mod InnerAt
pub mod Zero
