pub mod Fips180
pub mod Unrolled
pub mod Hashing
pub mod Feeds
pub mod Working
pub mod State
pub mod Blocked
pub mod Lent
