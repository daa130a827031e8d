-- Laws of blocks, by what they are about.
pub mod Tags
pub mod Sealed
pub mod Judged
