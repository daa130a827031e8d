pub mod Answers
pub mod Kdbx4Header
pub mod Frames
