pub mod Kdbx4Keys
pub mod State
