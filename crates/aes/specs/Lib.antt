pub mod Columns
pub mod Repeated
pub mod Tabled
