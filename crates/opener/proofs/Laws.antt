-- Laws of a step, by what they are about.
pub mod Runs
pub mod Due
pub mod Sound
pub mod Replies
