pub mod Tabulate
pub mod Fips197
pub mod HasBytes
