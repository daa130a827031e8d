pub mod Pkcs7
pub mod Answer
pub mod Answers
