pub mod Laws
pub mod RoundTrip
pub mod Accepts
pub mod Examples
