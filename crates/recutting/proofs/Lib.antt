-- Document 02, Item 13: Theorem.same_vault.
pub mod Laws
pub mod Opens
pub mod Theorem
pub mod Own
pub mod Sizes
