-- Laws of opening by credentials.
pub mod Key
pub mod Opening
pub mod Stack
