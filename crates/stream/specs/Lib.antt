pub mod Stream
pub mod Words
