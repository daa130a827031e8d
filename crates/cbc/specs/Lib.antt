pub mod Sp80038a
