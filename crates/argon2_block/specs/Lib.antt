pub mod Rfc9106
pub mod Order
pub mod State
