pub mod AesKdf
pub mod State
