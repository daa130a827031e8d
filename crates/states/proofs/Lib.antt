-- The theorem: RoundTrip.
pub mod Laws
pub mod RoundTrip
