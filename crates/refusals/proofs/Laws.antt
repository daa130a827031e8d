-- Laws of the limits and of the refusal numbers.
pub mod Limits
pub mod Numbers
