-- Laws of the whole opener, by what they are about.
pub mod Sizes
pub mod Fill
pub mod Passes
pub mod Answers
pub mod Payload
