pub mod Answers
pub mod Block
pub mod Endian
pub mod Size
pub mod Sums
pub mod Word
pub mod Xor
