pub mod Rfc7693
pub mod Working
pub mod State
