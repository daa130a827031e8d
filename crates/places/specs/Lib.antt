pub mod Places
pub mod Items
pub mod Begins
pub mod Worked
