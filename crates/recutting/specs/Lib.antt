pub mod Opens
pub mod Recut
