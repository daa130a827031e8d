-- Laws of steps one after the other.
pub mod Stepping
