-- Demand 3 behind the header: Theorem.agrees.
pub mod Laws
pub mod Theorem
pub mod Converse
pub mod Worked
