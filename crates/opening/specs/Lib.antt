-- Opening a vault: definitions, and the claim of demand 3.
pub mod Decryption
pub mod Whole
pub mod Runs
pub mod Plain
pub mod Steps
pub mod Standing
pub mod Agreement
pub mod Worked
