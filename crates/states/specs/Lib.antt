-- The library's states as bytes: definitions.
pub mod Words
pub mod Sha256State
pub mod Sha512State
pub mod AesKdfState
pub mod OpenerState
pub mod InnerStreamState
