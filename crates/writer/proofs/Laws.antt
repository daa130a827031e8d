-- Laws of the writer: its stretches, its blocks, what its code lays down.
pub mod Stretches
pub mod Blocks
pub mod Laying
pub mod Last
pub mod Checks
pub mod Files
