-- The theorems: Theorem (demand 3 for a caller in C), Opens (demand 2 and Item 13), States (the other states), Cuts
-- (Item 9); Contracts ties them to the exports.
pub mod Laws
pub mod Theorem
pub mod Opens
pub mod States
pub mod Cuts
pub mod Contracts
