-- The inner stream: definitions.
pub mod Cuts
pub mod InnerStream
pub mod State
pub mod Stretches
