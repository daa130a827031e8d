pub mod Opens
pub mod LargerBlocks
pub mod FewRounds
pub mod Writable
pub mod Worked
