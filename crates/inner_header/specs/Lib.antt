pub mod Answers
pub mod InnerHeader
pub mod Tally
pub mod Writer
pub mod Writable
pub mod ReadBack
