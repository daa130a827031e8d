pub mod Cut
pub mod Over
pub mod Same
pub mod Stretch
