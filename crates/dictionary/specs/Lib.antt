pub mod Answers
pub mod Dictionary
pub mod Order
pub mod Repeats
pub mod Lookup
