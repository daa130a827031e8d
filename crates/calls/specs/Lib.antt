pub mod Lists
pub mod Calls
pub mod Agreement
pub mod Cuts
pub mod Opens
