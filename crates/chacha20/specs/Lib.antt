pub mod Rfc8439
pub mod State
