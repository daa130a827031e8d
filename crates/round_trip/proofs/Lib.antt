pub mod Laws
pub mod Theorem
pub mod Recut
pub mod LargerBlocks
pub mod In5And27
pub mod FewRounds
pub mod Accepts
pub mod Worked
