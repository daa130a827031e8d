pub mod Laws
pub mod Theorem
pub mod Begins
pub mod Worked
