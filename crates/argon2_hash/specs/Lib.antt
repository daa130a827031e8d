pub mod LongHash
