-- Laws of fields.
--
-- In order:
--   Fields     where a field that is found stands
--   Written    what is written as a field is read as that field
--   Put        how code lays a field
pub mod Fields
pub mod Written
pub mod Put
