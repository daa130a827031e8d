pub mod Answers
pub mod Kdf
pub mod KdfDictionary
