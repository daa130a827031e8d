pub mod Rfc9106
pub mod Run
