pub mod Rfc4648
